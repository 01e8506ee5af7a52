-- Laws of one element found in a row, and of refusal 4.
use mathlib.Core.Path.{◌≡◌, refl, sym, ◌∙◌, subst}
use mathlib.Core.Bool.{Bool, true, false, not, ◌&&◌}
use mathlib.Core.List.{List, [], ◌∷◌}
use Prim.Native.Nat.{ℕ, zero, suc, ◌+◌, ◌-◌, ◌≤◌, ◌<◌}
use native.Mathlib.Omega.{arith}
use borrow.Author.Tests.{lt-ltb, le-ltb}
use lib.Dec.{T}
use lib.IntN.{ℤ, pos, negsuc}
use lib.ListN.{get_or}
use Rattle.model.specs.Basics.{pick, tab}
use Rattle.model.specs.Bitmap.{Bits, valid_at}
use Rattle.model.specs.Column.{Elem, nul, val, Row, null_row, list_row, Column, Arguments, elem_at, row_at}
use Rattle.model.specs.Elements.{first_valid, element_at}
use Rattle.model.specs.Form.{is_val}
use Rattle.model.specs.Limits.{Limits}
use Rattle.model.specs.Refusals.{first_of, element_refusal}
use Rattle.model.specs.Rows.{any_value_of, element_of}
use Rattle.model.specs.Slice.{Bound, unfit, outside, place, fits}
use Rattle.model.proofs.TabLaws.{length-tab, tab-step, tab-none, get_or-tab}
use Rattle.column.specs.Rows.{row_from, len_from}
use Rattle.index.specs.Place.{index_bound, place_or, taken}
use Rattle.index.proofs.PlaceLaws.{element-taken, place_inside}
use Rattle.value_places.specs.Found.{found_at, bound_place, element_place, unfit_at, four_at}

-- ---- the first valid element

first-here : (e : Elem) (es : List Elem) → is_val e ≡ true → first_valid (e ∷ es) ≡ e
unfolding first_valid is_val
first-here nul es h = absurd (subst T (sym h) tt)
first-here (val v) es h = refl

first-there : (e : Elem) (es : List Elem) → is_val e ≡ false → first_valid (e ∷ es) ≡ first_valid es
unfolding first_valid is_val
first-there nul es h = refl
first-there (val v) es h = absurd (subst T h tt)

module _ (E : ℕ → Elem) (p n : ℕ) where
  pub first_now : 0 < n → is_val (E p) ≡ true → first_valid (tab E p n) ≡ E p
  first_now h v = rw (tab-step E p n h) (first-here (E p) _ v)

  pub first_on : 0 < n → is_val (E p) ≡ false → first_valid (tab E p n) ≡ first_valid (tab E (p + 1) (n - 1))
  first_on h v = rw (tab-step E p n h) (first-there (E p) _ v)

  pub first-none : n ≤ 0 → first_valid (tab E p n) ≡ nul
  unfolding first_valid
  first-none h = rw (tab-none E p n h)

pub found-end : (E : ℕ → Elem) (e : ℕ) → found_at E e e ≡ nul
found-end E e = rw (le-ltb e e (omega arith))

pub found_here : (E : ℕ → Elem) (i e : ℕ) → i < e → found_at E i e ≡ E i
found_here E i e h = rw (lt-ltb i e h)

-- ---- one row

any_of : (t : Bool) (E : ℕ → Elem) (a n : ℕ) → any_value_of (pick t (list_row (tab E a n)) null_row) ≡ first_valid (tab E a (pick t n 0))
unfolding any_value_of first_valid tab
any_of true E a n = refl
any_of false E a n = refl

pub any-from : (rb : Bits) (E : ℕ → Elem) (r a b : ℕ) → any_value_of (row_from rb E r a b) ≡ first_valid (tab E a (len_from rb r a b))
unfolding row_from len_from
any-from rb E r a b = any_of (valid_at rb r) E a (b - a)

none-there : (z : ℤ) → element_at [] z ≡ nul
unfolding element_at
none-there (pos zero) = refl
none-there (pos (suc i)) = refl
none-there (negsuc i) = rw (le-ltb i 0 (omega arith))

element_of_lem : (t : Bool) (E : ℕ → Elem) (a n : ℕ) (z : ℤ) → element_of (pick t (list_row (tab E a n)) null_row) (val z) ≡ element_at (tab E a (pick t n 0)) z
unfolding element_of tab
element_of_lem true E a n z = refl
element_of_lem false E a n z = sym (none-there z)

element_null : (w : Row) → element_of w nul ≡ nul
unfolding element_of
element_null null_row = refl
element_null (list_row es) = refl

bound_found : (E : ℕ → Elem) (a n : ℕ) (d : Bound) → ((p : ℕ) → d ≡ place p → p < n) → found_at E (bound_place d a n) (a + n) ≡ taken d (tab E a n)
unfolding bound_place taken
bound_found E a n unfit h = found-end E (a + n)
bound_found E a n outside h = found-end E (a + n)
bound_found E a n (place p) h =
    let l : p < n = h p refl in
    found_here E (a + p) (a + n) (omega arith) ∙ sym (get_or-tab E a n p nul l)

element_row : (rb : Bits) (E : ℕ → Elem) (r a b : ℕ) (z : ℤ) → element_of (row_from rb E r a b) (val z) ≡ element_at (tab E a (len_from rb r a b)) z
unfolding row_from len_from
element_row rb E r a b z = element_of_lem (valid_at rb r) E a (b - a) z

bound_row : (L : Limits) (E : ℕ → Elem) (a n : ℕ) (z : ℤ) → n ≤ L.offset → found_at E (bound_place (index_bound L n z) a n) (a + n) ≡ element_at (tab E a n) z
bound_row L E a n z s =
    bound_found E a n (index_bound L n z) (λ p q. place_inside L n p z q)
    ∙ sym (element-taken L (tab E a n) z (omega (arith, length-tab E a n)) ∙ rw (length-tab E a n))

pub element-from : (L : Limits) (rb : Bits) (E : ℕ → Elem) (r a b : ℕ) (e : Elem) → len_from rb r a b ≤ L.offset → found_at E (element_place L e a (len_from rb r a b)) (a + len_from rb r a b) ≡ element_of (row_from rb E r a b) e
unfolding element_place
element-from L rb E r a b nul s = found-end E (a + len_from rb r a b) ∙ sym (element_null (row_from rb E r a b))
element-from L rb E r a b (val z) s = bound_row L E a (len_from rb r a b) z s ∙ sym (element_row rb E r a b z)

-- ---- where an index points

pub bound_place_lem : (b : Bound) (a n : ℕ) → bound_place b a n ≡ a + place_or b n
unfolding bound_place place_or
bound_place_lem unfit a n = refl
bound_place_lem outside a n = refl
bound_place_lem (place p) a n = refl

module _ (L : Limits) (is : Arguments) (r a n : ℕ) where
  pub place_null : valid_at is.bits r ≡ false → element_place L (elem_at is.values is.bits r) a n ≡ a + n
  unfolding element_place elem_at
  place_null h = rw h

  pub place_valid : valid_at is.bits r ≡ true → element_place L (elem_at is.values is.bits r) a n ≡ bound_place (index_bound L n (get_or is.values r (pos 0))) a n
  unfolding element_place elem_at
  place_valid h = rw h

-- ---- refusal 4

four_cases : (L : Limits) (t u f : Bool) (es : List Elem) (z : ℤ) → fits L z ≡ f → element_refusal L (pick t (list_row es) null_row) (pick u (val z) nul) ≡ pick (t && u && not f) 4 0
unfolding element_refusal
four_cases L true true true es z e = rw e
four_cases L true true false es z e = rw e
four_cases L true false f es z e = refl
four_cases L false u f es z e = refl

pub four_at_lem : (L : Limits) (c : Column) (is : Arguments) (r : ℕ) → element_refusal L (row_at c r) (elem_at is.values is.bits r) ≡ four_at L c.rows is r
unfolding row_at elem_at unfit_at
four_at_lem L c is r = four_cases L (valid_at c.rows r) (valid_at is.bits r) (fits L (get_or is.values r (pos 0))) _ (get_or is.values r (pos 0)) refl

module _ (L : Limits) (rb : Bits) (is : Arguments) (r : ℕ) where
  pub four_yes : unfit_at L rb is r ≡ true → four_at L rb is r ≡ 4
  four_yes h = rw h

  pub four_no : unfit_at L rb is r ≡ false → four_at L rb is r ≡ 0
  four_no h = rw h

never_unfit : (t u : Bool) → pick {A = ℕ} (t && u && not true) 4 0 ≡ 0
never_unfit true true = refl
never_unfit true false = refl
never_unfit false u = refl

-- where every index fits, no row gives 4
module _ (L : Limits) (every : L.every ≡ true) (rb : Bits) (is : Arguments) where
  four_never : (r : ℕ) → four_at L rb is r ≡ 0
  unfolding unfit_at fits
  four_never r = rw every (never_unfit (valid_at rb r) (valid_at is.bits r))

  pub no_fours : (r n : ℕ) → first_of (tab (four_at L rb is) r n) ≡ 0
  unfolding tab first_of
  no_fours r zero = refl
  no_fours r (suc n) = rw (four_never r) (no_fours (suc r) n)
