-- How long the slices of a result form are, and that what a null slot holds is a value like others.
use mathlib.Core.Path.{◌≡◌, refl, ap}
use mathlib.Core.Bool.{Bool}
use mathlib.Core.List.{List, [], ◌∷◌}
use Prim.Native.Nat.{ℕ, zero, suc, ◌+◌}
use lib.ListN.{length, drop}
use Rattle.model.specs.Bitmap.{pack, pack_n, bytes_for}
use Rattle.model.specs.Basics.{pick}
use Rattle.model.specs.Column.{nul, val}
use Rattle.model.specs.Elements.{eq_z, same_elem, is_in, firsts, unary_elems}
use Rattle.model.specs.Form.{offsets_from, under_null}
use Rattle.model.specs.declared.Unary.TheVariants.{Distinct}

-- a valid element that is what a null slot holds, and a null: distinct keeps both, whichever comes first
pub smallest_apart : (unary_elems Distinct (val under_null ∷ nul ∷ []) ≡ val under_null ∷ nul ∷ []) × (unary_elems Distinct (nul ∷ val under_null ∷ []) ≡ nul ∷ val under_null ∷ [])
unfolding unary_elems firsts is_in same_elem eq_z
smallest_apart = (refl, refl)

length-pack_n : (n : ℕ) (fs : List Bool) → length (pack_n n fs) ≡ n
unfolding pack_n
length-pack_n zero fs = refl
length-pack_n (suc n) fs = ap suc (length-pack_n n (drop 8 fs))

pub length-pack : (fs : List Bool) → length (pack fs) ≡ bytes_for (length fs)
unfolding pack
length-pack fs = length-pack_n (bytes_for (length fs)) fs

pub length-offsets : (a : ℕ) (ns : List ℕ) → length (offsets_from a ns) ≡ suc (length ns)
unfolding offsets_from
length-offsets a [] = refl
length-offsets a (n ∷ ns) = ap suc (length-offsets (a + n) ns)
