-- A run of elements written at once: within a loop that writes elements, or after another run.
use mathlib.Core.List.{List, [], ◌∷◌, ◌++◌, map, append-nil}
use mathlib.Core.Path.{◌≡◌, refl, sym, ap, ◌∙◌}
use Prim.Native.Nat.{ℕ, suc, ◌+◌}
use native.Mathlib.Omega.{arith}
use lib.IntN.{ℤ}
use lib.ListN.{length, set, length-append}
use lib.Seq.{length-sets}
use Rattle.model.specs.Column.{Elem}
use Rattle.model.specs.Form.{is_val, value_of}
use Rattle.bitmap.proofs.BitLaws.{length-push_bits}
use Rattle.bitmap.specs.Push.{push_bit, push_bits}
use Rattle.column.proofs.WriteLaws.{Writing, done}
use Rattle.column.specs.Put.{put_values, put_elements, RoomForElemsˡ, Writesˡ}

values-append : (xs ys : List Elem) (d : List ℤ) (k : ℕ) → put_values d k (xs ++ ys) ≡ put_values (put_values d k xs) (k + length xs) ys
values-append [] ys d k = let e : k + 0 ≡ k = omega arith in rw e
values-append (x ∷ xs) ys d k = let e : suc k + length xs ≡ k + suc (length xs) = omega arith in values-append xs ys (set d k (value_of x)) (suc k) ∙ rw e

elements-append : (xs ys : List Elem) (d : List ℕ) (k : ℕ) → put_elements d k (xs ++ ys) ≡ put_elements (put_elements d k xs) (k + length xs) ys
unfolding push_bits
elements-append [] ys d k = let e : k + 0 ≡ k = omega arith in rw e
elements-append (x ∷ xs) ys d k = let e : suc k + length xs ≡ k + suc (length xs) = omega arith in elements-append xs ys (push_bit d k (is_val x)) (suc k) ∙ rw e

-- writing keeps the lengths of the outputs
module _ {es : List Elem} {k : ℕ} {vo vo' : List ℤ} {eo eo' : List ℕ} {r : ℕ} (w : Writesˡ es k vo vo' eo eo' r) where
  pub values_length : length vo' ≡ length vo
  values_length = ap length w.values ∙ length-sets vo k (map value_of es)

  pub elements-length : length eo' ≡ length eo
  elements-length = ap length w.elements ∙ length-push_bits eo k (map is_val es)

module _ {es : List Elem} {at : ℕ} {vo₀ : List ℤ} {eo₀ : List ℕ} {rest : List Elem} {k : ℕ} {vo : List ℤ} {eo : List ℕ} (w : Writing es at vo₀ eo₀ rest k vo eo) where
  -- a run of those left comes first
  module _ (run rest' : List Elem) (n : rest ≡ run ++ rest') where
    longer : length rest ≡ length run + length rest'
    longer = ap length n ∙ length-append run rest'

    pub run_room : RoomForElemsˡ es at (length vo₀) (length eo₀) → RoomForElemsˡ run k (length vo) (length eo)
    run_room p = record {
      values = omega (arith, w.place, longer, p.values, w.lv);
      elements = omega (arith, w.place, longer, p.elements, w.le);
    }

    module _ {vo' : List ℤ} {eo' : List ℕ} {k' : ℕ} (d : Writesˡ run k vo vo' eo eo' k') where
      pub run_written : Writing es at vo₀ eo₀ rest' k' vo' eo'
      run_written = record {
        values = rw (d.values, d.next, ← values-append run rest' vo k, ← n) w.values;
        elements = rw (d.elements, d.next, ← elements-append run rest' eo k, ← n) w.elements;
        place = omega (arith, w.place, longer, d.next);
        lv = values_length d ∙ w.lv;
        le = elements-length d ∙ w.le;
      }

  -- those left are one run
  module _ (run : List Elem) (n : rest ≡ run) where
    pub last-room : RoomForElemsˡ es at (length vo₀) (length eo₀) → RoomForElemsˡ run k (length vo) (length eo)
    last-room p = run_room run [] (n ∙ sym (append-nil run)) p

    pub last_written : {vo' : List ℤ} {eo' : List ℕ} {k' : ℕ} → Writesˡ run k vo vo' eo eo' k' → Writesˡ es at vo₀ vo' eo₀ eo' k'
    last_written d = done (run_written run [] (n ∙ sym (append-nil run)) d) refl
