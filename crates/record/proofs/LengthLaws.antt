-- A relationship's length: what the definition reads, in the terms of the code. Assumes nothing.
use mathlib.Core.Path.{◌≡◌, refl, sym, ap₂, ◌∙◌}
use mathlib.Core.Bool.{Bool, true, false, cond, ◌&&◌, and-true, and-false}
use mathlib.Core.List.{[], ◌∷◌}
use Rattle.std.specs.Prelude.{None, Some}
use Rattle.model.specs.Text.{Bytes, bytes_from, bytes, same, same_by, dash}
use Rattle.model.specs.Field.{Single, Variable, num_or_absent, length, u64, read, meaning, piece, spell, spell_option, spell_length, fits, fits_option, fits_length, option_value, length_value}
use Rattle.laws.specs.TextLaws.{same_sound}
use Rattle.record.specs.Answer.{is_read}

-- ── the whole ──

same_sym : (s t : Bytes) → same s t ≡ same t s
same_sym s t = go (same s t) refl (same t s) refl
  where
    go : (a : Bool) → same s t ≡ a → (b : Bool) → same t s ≡ b → same s t ≡ same t s
    go true e b f = rw (same_sound s t e)
    go false e true f = rw (same_sound t s f)
    go false e false f = e ∙ sym f

is_read_law : {A : Type 0} (t : Bool) (v : A) → is_read (cond t (Some v) None) ≡ t
is_read_law true v = refl
is_read_law false v = refl

shuffle : (p q v m n : Bool) → ((p && q) && (v && (m && (n && true)))) ≡ (v && ((p && (m && true)) && (q && (n && true))))
shuffle true true v m n = rw (and-true m)
shuffle true false true m n = sym (and-false (m && true))
shuffle true false false m n = refl
shuffle false q true m n = refl
shuffle false q false m n = refl

option_read : (s : Bytes) → is_read (read (num_or_absent u64) (s ∷ [])) ≡ (fits_option u64 (option_value s) && (same (spell_option (option_value s)) s && true))
unfolding read meaning piece fits spell same_by
option_read s = is_read_law (fits_option u64 (option_value s) && (same (spell_option (option_value s)) s && true)) (option_value s)

module _ (a b c : Bytes) where
  one_read : same a (111 ∷ 110 ∷ 101 ∷ []) ≡ true → is_read (read length (a ∷ b ∷ c ∷ [])) ≡ (same b dash && same c dash)
  unfolding read meaning piece length_value fits fits_length spell spell_length same_by bytes bytes_from
  one_read e = rw (e, same_sym (111 ∷ 110 ∷ 101 ∷ []) a, e, same_sym dash b, same_sym dash c) (is_read_law (same b dash && (same c dash && true)) Single ∙ rw (and-true (same c dash)))

  var_read : same a (111 ∷ 110 ∷ 101 ∷ []) ≡ false → is_read (read length (a ∷ b ∷ c ∷ []))
      ≡ (same a (118 ∷ 97 ∷ 114 ∷ []) && (is_read (read (num_or_absent u64) (b ∷ [])) && is_read (read (num_or_absent u64) (c ∷ []))))
  unfolding read meaning piece length_value fits fits_length spell spell_length same_by bytes bytes_from
  var_read e =
      rw (e, same_sym (118 ∷ 97 ∷ 114 ∷ []) a)
      (is_read_law _ (Variable (option_value b) (option_value c))
      ∙ shuffle (fits_option u64 (option_value b)) (fits_option u64 (option_value c)) (same a (118 ∷ 97 ∷ 114 ∷ [])) (same (spell_option (option_value b)) b) (same (spell_option (option_value c)) c)
      ∙ ap₂ (λ x y. same a (118 ∷ 97 ∷ 114 ∷ []) && (x && y)) (sym (option_read b)) (sym (option_read c)))

  module _ (o : Bool) (p : o ≡ same a (111 ∷ 110 ∷ 101 ∷ [])) where
    module _ (e : o ≡ true) (d : Bool) (q : d ≡ same b dash) where
      pub one_of : d ≡ true → (r : Bool) → r ≡ same c dash → r ≡ is_read (read length (a ∷ b ∷ c ∷ []))
      one_of f r h = rw (one_read (sym p ∙ e), ← q, f) h

      pub one_not : d ≡ false → false ≡ is_read (read length (a ∷ b ∷ c ∷ []))
      one_not f = rw (one_read (sym p ∙ e), ← q, f)

    module _ (e : o ≡ false) (v : Bool) (q : v ≡ same a (118 ∷ 97 ∷ 114 ∷ [])) where
      pub var_not : v ≡ false → false ≡ is_read (read length (a ∷ b ∷ c ∷ []))
      var_not f = rw (var_read (sym p ∙ e), ← q, f)

      module _ (f : v ≡ true) (x : Bool) (h : x ≡ is_read (read (num_or_absent u64) (b ∷ []))) where
        pub var_low : x ≡ false → false ≡ is_read (read length (a ∷ b ∷ c ∷ []))
        var_low g = rw (var_read (sym p ∙ e), ← q, f, ← h, g)

        pub var_of : x ≡ true → (y : Bool) → y ≡ is_read (read (num_or_absent u64) (c ∷ [])) → y ≡ is_read (read length (a ∷ b ∷ c ∷ []))
        var_of g y k = rw (var_read (sym p ∙ e), ← q, f, ← h, g) k
