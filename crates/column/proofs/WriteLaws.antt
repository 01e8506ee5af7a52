-- The invariant of every loop that writes elements, and its laws: of the elements es, those in rest are left, and k is the next place.
use mathlib.Core.Path.{◌≡◌, refl, ap, ◌∙◌}
use mathlib.Core.List.{List, [], ◌∷◌, map}
use Prim.Native.Nat.{ℕ, ◌+◌, ◌/◌, ◌≤◌, ◌<◌}
use native.Mathlib.Omega.{arith}
use lib.IntN.{ℤ}
use lib.ListN.{length, set, length-set}
use Rattle.bitmap.specs.Push.{push_bit, push_bits}
use Rattle.model.specs.Bitmap.{bytes_for, pack, pack_n}
use Rattle.model.specs.Column.{Elem}
use Rattle.model.specs.Form.{is_val, value_of}
use Rattle.model.proofs.TabLaws.{length-map}
use Rattle.column.specs.Put.{put_values, put_elements, RoomForElemsˡ, Writesˡ, FillsValuesˡ}
use Rattle.bitmap.proofs.BitLaws.{length-push_bit, pushes_pack}
use Rattle.column.proofs.PutLaws.{values-more, elements-more, sets_over}

pub record Writing (es : List Elem) (at : ℕ) (vo₀ : List ℤ) (eo₀ : List ℕ) (rest : List Elem) (k : ℕ) (vo : List ℤ) (eo : List ℕ) : Type 0 where
  pub values : put_values vo k rest ≡ put_values vo₀ at es
  pub elements : put_elements eo k rest ≡ put_elements eo₀ at es
  pub place : k + length rest ≡ at + length es
  pub lv : length vo ≡ length vo₀
  pub le : length eo ≡ length eo₀

module _ {es : List Elem} {at : ℕ} {vo₀ : List ℤ} {eo₀ : List ℕ} where
  pub begun : (rest : List Elem) → es ≡ rest → Writing es at vo₀ eo₀ rest at vo₀ eo₀
  begun rest e = rw e (record { values = refl; elements = refl; place = refl; lv = refl; le = refl })

  module _ {rest : List Elem} {k : ℕ} {vo : List ℤ} {eo : List ℕ} (w : Writing es at vo₀ eo₀ rest k vo eo) where
    -- none of those left is written
    pub skipped : (rest' : List Elem) → rest ≡ rest' → Writing es at vo₀ eo₀ rest' k vo eo
    skipped rest' e = rw e at w

    -- the first of those left is written
    pub written : (e : Elem) (rest' : List Elem) → rest ≡ e ∷ rest' → {vo' : List ℤ} {eo' : List ℕ} → vo' ≡ set vo k (value_of e) → eo' ≡ push_bit eo k (is_val e) → Writing es at vo₀ eo₀ rest' (k + 1) vo' eo'
    written e rest' n {vo'} {eo'} p q = record {
      values = values-more rest rest' e k n vo vo' _ p w.values;
      elements = elements-more rest rest' e k n eo eo' _ q w.elements;
      place = omega (arith, w.place, ap length n);
      lv = ap length p ∙ length-set vo k (value_of e) ∙ w.lv;
      le = ap length q ∙ length-push_bit eo k (is_val e) ∙ w.le;
    }

    pub room : (e : Elem) (rest' : List Elem) → rest ≡ e ∷ rest' → RoomForElemsˡ es at (length vo₀) (length eo₀) → (k < length vo) × (k / 8 < length eo)
    room e rest' n p = (omega (arith, w.place, ap length n, p.values, w.lv), omega (arith, w.place, ap length n, p.elements, w.le))

    pub done : rest ≡ [] → Writesˡ es at vo₀ vo eo₀ eo k
    unfolding push_bits
    done n = record { values = rw n at w.values; elements = rw n at w.elements; next = omega (arith, w.place, ap length n) }

-- values written from the first place on are in result form
pub fills_values : {es : List Elem} {vo vo' : List ℤ} {ro ro' : List ℕ} {k : ℕ} → Writesˡ es 0 vo vo' ro ro' k → length es ≤ length vo → bytes_for (length es) ≤ length ro → FillsValuesˡ es vo vo' ro ro'
unfolding pack pack_n
fills_values {es} {vo} {vo'} {ro} w v r =
    let n = length-map value_of es in
    let m = length-map is_val es in
    record {
      values = w.values ∙ sets_over [] (map value_of es) vo (omega arith);
      rows = w.elements ∙ pushes_pack [] (map is_val es) ro (omega arith);
    }
