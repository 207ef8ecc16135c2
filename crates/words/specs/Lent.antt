-- The slices that records lend to be written, before and after they are. Assumes nothing: this is a definition.
use Rattle.std.specs.Prelude.{◌≡◌, length}
use Rattle.words.specs.declared.records.RecordsMut.{RecordsMut}

-- the records lend the slices that they lent before, each as long as it was; what stands in them may be another
pub record SameSlices (r r' : RecordsMut) : Type 0 where
  pub first : r'.a.ghost_name ≡ r.a.ghost_name
  pub second : r'.b.ghost_name ≡ r.b.ghost_name
  pub first_long : length r'.a.now ≡ length r.a.now
  pub second_long : length r'.b.now ≡ length r.b.now
