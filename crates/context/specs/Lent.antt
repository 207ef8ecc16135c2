-- That tables are the same slices as before, whatever has been written to them. Assumes nothing: these are definitions.
use Rattle.std.specs.Prelude.{◌≡◌, length}
use Rattle.context.specs.declared.Tables.{Tables}

-- the same two slices, each as long as before
pub record SameTables (t t' : Tables) : Type 0 where
  pub ops : t'.ops.ghost_name ≡ t.ops.ghost_name
  pub rest : t'.rest.ghost_name ≡ t.rest.ghost_name
  pub in_ops : length t'.ops.now ≡ length t.ops.now
  pub in_rest : length t'.rest.now ≡ length t.rest.now
