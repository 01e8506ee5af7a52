-- The operations with a work area. `as_plain` and `ends_as_plain`: "Except for 14, their answers and outputs equal the plain ones on every input".
-- `plain_or_fourteen`: there is nothing else. `earlier_as_plain`, `three_as_plain` and `fourteen_first`: 14 comes "after 3 and before 8". `zero-after`: the work area "is zero after
-- every call". `enough`: how many slots rule 14 out.
use Prim.Native.Nat.{ℕ, ◌+◌, ◌≤◌}
use mathlib.Core.Path.{◌≡◌, refl, sym, ◌∙◌}
use mathlib.Core.Bool.{Bool, true, false}
use mathlib.Core.Logic.{◌⊎◌, inl, inr}
use mathlib.Core.List.{List, []}
use borrow.Author.Tests.{le-ltb, eqb-true, eqb-false}
use lib.Dec.{eqb}
use lib.ListN.{replicate}
use Rattle.model.specs.Basics.{pick, given}
use Rattle.model.specs.Limits.{Limits}
use Rattle.model.specs.Column.{Elem, Row, Column, Arguments, rows_of, shown_by}
use Rattle.model.specs.Form.{Room}
use Rattle.model.specs.Rows.{on_call, lists_in, arguments_in}
use Rattle.model.specs.Refusals.{unequal}
use Rattle.model.specs.Outcome.{Outcome, refused, gate, columns_refusal, after_three, list_shown, list_outcome}
use Rattle.model.specs.Hash.{Hashed, distinct_of, set_of, plain_of, on_hashed, lists_hashed, longest_in, short_area, hashed_shown, hashed_outcome}
use Rattle.model.specs.Call.{list, hashed, End, hashed_end, list_end, end}
use Rattle.model.proofs.OutcomeLaws.{gate_shut}
use Rattle.model.proofs.BoolLaws.{never_true}

-- enough slots: twice the elements of the longest row or pair, and more
pub enough : (n : ℕ) (h : Hashed (List Row)) → longest_in h + longest_in h ≤ n → short_area n h ≡ false
unfolding short_area
enough n h p = le-ltb n (longest_in h + longest_in h) p

module _ (L : Limits) (n : ℕ) (l : Room) where
  pub as_plain : (h : Hashed Column) → short_area n (on_hashed rows_of h) ≡ false → hashed_outcome L h n l ≡ list_outcome L (plain_of h) l
  unfolding hashed_outcome hashed_shown list_outcome list_shown plain_of on_hashed on_call lists_hashed lists_in arguments_in gate
  as_plain (distinct_of c) e = rw e
  as_plain (set_of k c d) e = rw e

  -- the same with the work area beside it
  pub ends_as_plain : (h : Hashed Column) → short_area n (on_hashed rows_of h) ≡ false
      → let plain : End = end L (list (plain_of h) l) in end L (hashed h n l) ≡ record {
        answer = plain.answer;
        numbers = plain.numbers;
        bitmaps = plain.bitmaps;
        tray_numbers = plain.tray_numbers;
        tray_bitmaps = plain.tray_bitmaps;
        tally = plain.tally;
        grades = plain.grades;
        area = given (replicate n 0);
      }
  unfolding end hashed_end list_end
  ends_as_plain h e = rw (as_plain h e)

  -- well-formed columns of equally many rows, and too few slots: 14, whatever 8 or 9 would say
  pub fourteen_first : (h : Hashed Column) → columns_refusal (lists_hashed h) [] ≡ 0 → unequal (plain_of (on_hashed rows_of h)) ≡ false → short_area n (on_hashed rows_of h) ≡ true → hashed_outcome L h n l ≡ refused 14
  unfolding hashed_outcome hashed_shown gate
  fourteen_first h c u e = rw (c, u, e)

  -- 13, 1, 2 and 3 come as the plain operation gives them
  pub earlier_as_plain : (h : Hashed Column) → (columns_refusal (lists_hashed h) [] ≡ 0 → ⊥) → hashed_outcome L h n l ≡ list_outcome L (plain_of h) l
  unfolding hashed_outcome list_outcome plain_of lists_hashed lists_in arguments_in
  earlier_as_plain (distinct_of c) e = gate_shut _ _ e ∙ sym (gate_shut _ _ e)
  earlier_as_plain (set_of k c d) e = gate_shut _ _ e ∙ sym (gate_shut _ _ e)

  pub three_as_plain : (h : Hashed Column) → unequal (plain_of (on_hashed rows_of h)) ≡ true → hashed_outcome L h n l ≡ list_outcome L (plain_of h) l
  unfolding hashed_outcome hashed_shown list_outcome list_shown plain_of on_hashed on_call lists_hashed lists_in arguments_in gate unequal
  three_as_plain (distinct_of c) e = never_true (sym e)
  three_as_plain (set_of k c d) e = rw e

  -- "Except for 14": on every input the number is 14, or answer and outputs are the plain one's
  pub plain_or_fourteen : (h : Hashed Column) → (hashed_outcome L h n l ≡ refused 14) ⊎ (hashed_outcome L h n l ≡ list_outcome L (plain_of h) l)
  plain_or_fourteen h = by (eqb (columns_refusal (lists_hashed h) []) 0) refl (unequal (plain_of (on_hashed rows_of h))) refl (short_area n (on_hashed rows_of h)) refl
    where
      by : (b : Bool) → eqb (columns_refusal (lists_hashed h) []) 0 ≡ b → (u : Bool) → unequal (plain_of (on_hashed rows_of h)) ≡ u → (s : Bool) → short_area n (on_hashed rows_of h) ≡ s → (hashed_outcome L h n l ≡ refused 14) ⊎ (hashed_outcome L h n l ≡ list_outcome L (plain_of h) l)
      by false e u f s g = inr (earlier_as_plain h (eqb-false _ _ e))
      by true e true f s g = inr (three_as_plain h f)
      by true e false f true g = inl (fourteen_first h (eqb-true _ _ e) f g)
      by true e false f false g = inr (as_plain h g)

  -- "each is zero after every call", refused ones too
  pub zero-after : (h : Hashed Column) → (end L (hashed h n l)).area ≡ given (replicate n 0)
  unfolding end hashed_end
  zero-after h = refl
