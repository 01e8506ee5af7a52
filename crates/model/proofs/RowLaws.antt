-- How long a row becomes, that an operation makes as many rows as it takes, and that a null row stays null.
use Prim.Native.Nat.{ℕ, zero, suc, ◌+◌, ◌-◌, ◌≤◌, ◌<◌}
use mathlib.Core.Path.{◌≡◌, refl, sym, ap}
use mathlib.Core.Bool.{Bool, true, false, not, ◌&&◌, ◌||◌}
use mathlib.Core.List.{List, [], ◌∷◌, ◌++◌}
use native.Mathlib.Nat.{zero-add, div-le_self}
use native.Mathlib.Omega.{arith}
use borrow.Author.Tests.{ltb-true, ltb-false, eqb-true}
use lib.Dec.{ltb, eqb}
use lib.IntN.{ℤ, pos, negsuc}
use lib.ListN.{length, take, replicate, length-append, length-take, length-drop, length-replicate, length-reverse, get_or-eq_default}
use Rattle.model.specs.Basics.{pick, tab}
use Rattle.model.specs.Bitmap.{bit}
use Rattle.model.specs.Limits.{Limits}
use Rattle.model.specs.Column.{Elem, nul, val, Row, null_row, list_row, count}
use Rattle.model.specs.Form.{is_row, elems_of, flat, length_of}
use Rattle.model.specs.Elements.{eq_z, same_elem, is_in, firsts, distinct, unary_elems, common, set_elems, resized, replaced, removed}
use Rattle.model.specs.Slice.{fits, from_place, in_row, from_bound, to_place, to_bound, Bound, unfit, outside, place, Plan, step_count, is_zero, against, strided, between, slice_plan, sliced}
use Rattle.model.specs.Rows.{ListCall, unary, set_op_call, slice, resize, replace, remove, on_row, on_rows, planned, slice_row, resize_row, replace_row, remove_row, made_of, row_of, at_row, rows_in, row_by_row, row_made, rows_made}
use Rattle.model.specs.Refusals.{total}
use Rattle.model.specs.declared.Unary.{Unary}
use Rattle.model.specs.declared.Unary.TheVariants.{Reverse, Distinct, PopFront, PopBack}
use Rattle.model.specs.declared.SetOp.TheVariants.{Union, Intersect}
use Rattle.model.proofs.BoolLaws.{never_true}
use Rattle.model.proofs.TabLaws.{length-tab, get_or-tab, map-tab}
use Rattle.model.proofs.LengthLaws.{pick_case}

-- ---- the elements of one row

either_le : (b : Bool) (x y : List Elem) (n : ℕ) → length x ≤ n → length y ≤ n → length (pick b x y) ≤ n
either_le true x y n h l = h
either_le false x y n h l = l

-- those of the elements that are not among the ones before them are at most all
pub length-firsts : (seen es : List Elem) → length (firsts seen es) ≤ length es
unfolding firsts
length-firsts seen [] = omega arith
length-firsts seen (e ∷ es) =
    let rest = firsts (seen ++ (e ∷ [])) es in
    let h = length-firsts (seen ++ (e ∷ [])) es in
    either_le (is_in e seen) rest (e ∷ rest) (suc (length es)) (omega arith) (omega arith)

pub unary_le : (op : Unary) (es : List Elem) → length (unary_elems op es) ≤ length es
unfolding unary_elems
unary_le Reverse es = omega (arith, length-reverse es)
unary_le Distinct es = length-firsts [] es
unary_le PopFront es = omega (arith, length-drop 1 es)
unary_le PopBack es = omega (arith, length-take (length es - 1) es)

pub union_le : (l r : List Elem) → length (set_elems Union l r) ≤ length l + length r
unfolding set_elems
union_le l r = omega (arith, length-firsts [] (l ++ r), length-append l r)

pub length-resized : (k : ℕ) (f : Elem) (es : List Elem) → length (resized k f es) ≡ k
unfolding resized
length-resized k f es = omega (arith, length-append (take k es) (replicate (k - length es) f), length-take k es, length-replicate (k - length es) f)

pub length-replaced : (f t : Elem) (m : ℕ) (es : List Elem) → length (replaced m f t es) ≡ length es
unfolding replaced
length-replaced f t m [] = refl
length-replaced f t m (e ∷ es) = pick_case (λ (x : List Elem). length x ≡ suc (length es)) (ltb 0 m && same_elem e f) _ _ (ap suc (length-replaced f t (m - 1) es)) (ap suc (length-replaced f t m es))

pub length_removed : (f : Elem) (m : ℕ) (es : List Elem) → length (removed m f es) ≤ length es
unfolding removed
length_removed f m [] = omega arith
length_removed f m (e ∷ es) =
    let h = length_removed f (m - 1) es in
    let l = length_removed f m es in
    either_le (ltb 0 m && same_elem e f) (removed (m - 1) f es) (e ∷ removed m f es) (suc (length es)) (omega arith) (omega arith)

-- ---- intersect: what it makes are elements of the left row, each once, whichever row is walked

same_eq_z : (a b : ℤ) → eq_z a b ≡ true → a ≡ b
unfolding eq_z
same_eq_z (pos a) (pos b) h = ap pos (eqb-true a b h)
same_eq_z (pos a) (negsuc b) h = never_true (sym h)
same_eq_z (negsuc a) (pos b) h = never_true (sym h)
same_eq_z (negsuc a) (negsuc b) h = ap negsuc (eqb-true a b h)

pub same_eq : (e f : Elem) → same_elem e f ≡ true → e ≡ f
unfolding same_elem
same_eq nul nul h = refl
same_eq nul (val b) h = never_true (sym h)
same_eq (val a) nul h = never_true (sym h)
same_eq (val a) (val b) h = ap val (same_eq_z a b h)

is_in-last : (e x : Elem) (xs : List Elem) → is_in e (xs ++ (x ∷ [])) ≡ is_in e xs || same_elem e x
unfolding is_in
is_in-last e x [] = or_false (same_elem e x)
  where
    or_false : (b : Bool) → b || false ≡ b
    or_false true = refl
    or_false false = refl
is_in-last e x (y ∷ ys) = rw (is_in-last e x ys) (or_assoc (same_elem e y) (is_in e ys) (same_elem e x))
  where
    or_assoc : (a b c : Bool) → a || (b || c) ≡ (a || b) || c
    or_assoc true b c = refl
    or_assoc false b c = refl

-- how many of the elements are not among those seen
fresh : List Elem → List Elem → ℕ
fresh seen [] = 0
fresh seen (f ∷ fs) = bit (not (is_in f seen)) + fresh seen fs

bit_le : (b : Bool) → bit b ≤ 1
bit_le true = omega arith
bit_le false = omega arith

fresh_le : (seen l : List Elem) → fresh seen l ≤ length l
unfolding fresh
fresh_le seen [] = omega arith
fresh_le seen (f ∷ fs) = omega (arith, bit_le (not (is_in f seen)), fresh_le seen fs)

fewer : (a b : Bool) → bit (not (a || b)) ≤ bit (not a)
fewer true b = omega arith
fewer false b = bit_le (not b)

one_fewer : (e x : Elem) (seen : List Elem) → bit (not (is_in e (seen ++ (x ∷ [])))) ≤ bit (not (is_in e seen))
one_fewer e x seen = rw (is_in-last e x seen) (fewer (is_in e seen) (same_elem e x))

fresh_fewer : (x : Elem) (seen l : List Elem) → fresh (seen ++ (x ∷ [])) l ≤ fresh seen l
unfolding fresh
fresh_fewer x seen [] = omega arith
fresh_fewer x seen (f ∷ fs) = omega (arith, one_fewer f x seen, fresh_fewer x seen fs)

-- one of them that is seen from now on is one less
fresh_seen : (x : Elem) (seen l : List Elem) → is_in x l ≡ true → is_in x seen ≡ false → suc (fresh (seen ++ (x ∷ [])) l) ≤ fresh seen l
unfolding fresh is_in
fresh_seen x seen [] h g = never_true (sym h)
fresh_seen x seen (f ∷ fs) h g = go (same_elem x f) refl h (λ k. fresh_seen x seen fs k g)
  where
    here : same_elem x f ≡ true → (bit (not (is_in f (seen ++ (x ∷ [])))) ≡ 0) × (bit (not (is_in f seen)) ≡ 1)
    here e = let q = same_eq x f e in rw (← q, is_in-last x x seen, g) (rw (rw (← q) at e), refl)

    go : (b : Bool) → same_elem x f ≡ b → b || is_in x fs ≡ true → (is_in x fs ≡ true → suc (fresh (seen ++ (x ∷ [])) fs) ≤ fresh seen fs)
        → suc (bit (not (is_in f (seen ++ (x ∷ [])))) + fresh (seen ++ (x ∷ [])) fs) ≤ bit (not (is_in f seen)) + fresh seen fs
    go true e k later = let p = here e in omega (arith, p.0, p.1, fresh_fewer x seen fs)
    go false e k later = omega (arith, one_fewer f x seen, later k)

common_fresh : (seen l r : List Elem) → length (firsts seen (common l r)) ≤ fresh seen l
unfolding firsts common
common_fresh seen l [] = omega arith
common_fresh seen l (e ∷ r) = go (is_in e l) refl (common_fresh (seen ++ (e ∷ [])) l r) (common_fresh seen l r)
  where
    among : is_in e l ≡ true → (b : Bool) → is_in e seen ≡ b → length (firsts (seen ++ (e ∷ [])) (common l r)) ≤ fresh (seen ++ (e ∷ [])) l
        → length (pick b (firsts (seen ++ (e ∷ [])) (common l r)) (e ∷ firsts (seen ++ (e ∷ [])) (common l r))) ≤ fresh seen l
    among h true k later = omega (arith, fresh_fewer e seen l)
    among h false k later = omega (arith, fresh_seen e seen l h k)

    go : (b : Bool) → is_in e l ≡ b → length (firsts (seen ++ (e ∷ [])) (common l r)) ≤ fresh (seen ++ (e ∷ [])) l → length (firsts seen (common l r)) ≤ fresh seen l
        → length (firsts seen (pick b (e ∷ common l r) (common l r))) ≤ fresh seen l
    go true h later without = among h (is_in e seen) refl later
    go false h later without = without

length-common : (others walked : List Elem) → length (common others walked) ≤ length walked
unfolding common
length-common others [] = omega arith
length-common others (e ∷ es) =
    let h = length-common others es in
    either_le (is_in e others) (e ∷ common others es) (common others es) (suc (length es)) (omega arith) (omega arith)

pub intersect_le : (l r : List Elem) → length (set_elems Intersect l r) ≤ length l
unfolding set_elems
intersect_le l r =
    either_le (ltb (length l) (length r)) (distinct (common l r)) (distinct (common r l)) (length l)
    (omega (arith, common_fresh [] l r, fresh_le [] l)) (omega (arith, length-firsts [] (common r l), length-common r l))

-- ---- slice: at most as many places as the row has

-- between two places of a row of n elements
pub steps_few : (n a b : ℕ) (s : ℤ) → a < n → b < n → (0 < step_count a b s) × (step_count a b s ≤ n)
unfolding step_count
steps_few n a b (pos k) h l = let d = div-le_self (b - a) k in (omega arith, omega arith)
steps_few n a b (negsuc k) h l = let d = div-le_self (a - b) (k + 1) in (omega arith, omega arith)

pub length-sliced : (a : ℕ) (s : ℤ) (k : ℕ) (es : List Elem) → length (sliced a s k es) ≡ k
unfolding sliced
length-sliced a s k es = length-tab _ 0 k

-- a bound that is a place lies in the row
unfoldable Inside : ℕ → Bound → Type 0
Inside n unfit = Unit
Inside n outside = Unit
Inside n (place p) = p < n

in_row_lem : (n p : ℕ) → Inside n (in_row n p)
unfolding in_row Inside
in_row_lem n p = go (ltb p n) refl
  where
    go : (b : Bool) → ltb p n ≡ b → Inside n (pick b (place p) outside)
    go true e = ltb-true p n e
    go false e = tt

from-inside : (L : Limits) (n : ℕ) (z : ℤ) → Inside n (from_bound L n z)
unfolding from_bound Inside
from-inside L n z = pick_case (Inside n) (fits L z) _ _ (in_row_lem n (from_place n z)) tt

to_inside : (L : Limits) (n : ℕ) (z : ℤ) → Inside n (to_bound L n z)
unfolding to_bound to_place Inside
to_inside L n z = pick_case (Inside n) (fits L z) _ _ (at z) tt
  where
    last : (i : ℕ) (b : Bool) → ltb i n ≡ b → Inside n (pick b (place (n - (i + 1))) outside)
    last i true e = let h = ltb-true i n e in omega arith
    last i false e = tt

    at : (z : ℤ) → Inside n (to_place n z)
    at (pos zero) = tt
    at (pos (suc i)) = in_row_lem n (pick (ltb i n) i (n - 1))
    at (negsuc i) = last i (ltb i n) refl

module _ (L : Limits) (es : List Elem) where
  abbrev PlanFits : Plan → Type 0
  PlanFits p = length_of (row_made (planned p es)) ≤ length es

  strided_le : (a b : ℕ) (s : ℤ) → a < length es → b < length es → PlanFits (strided L a b s)
  unfolding strided planned row_made elems_of
  strided_le a b s h l =
      pick_case PlanFits (is_zero s) _ _ (omega arith)
      (pick_case PlanFits (against a b s) _ _ (omega arith) (pick_case PlanFits (fits L s) _ _ (rw (length-sliced a s (step_count a b s) es) (steps_few (length es) a b s h l).1) (omega arith)))

  between_le : (f t : Bound) (s : ℤ) → Inside (length es) f → Inside (length es) t → PlanFits (between L f t s)
  unfolding between planned row_made elems_of Inside
  between_le unfit t s h l = omega arith
  between_le outside unfit s h l = omega arith
  between_le outside outside s h l = omega arith
  between_le outside (place b) s h l = omega arith
  between_le (place a) unfit s h l = omega arith
  between_le (place a) outside s h l = omega arith
  between_le (place a) (place b) s h l = strided_le a b s h l

  pub slice_le : (f t s : ℤ) → PlanFits (slice_plan L (length es) f t s)
  unfolding slice_plan planned row_made elems_of
  slice_le f t s = pick_case PlanFits (eqb (length es) 0) _ _ (omega arith) (between_le _ _ s (from-inside L (length es) f) (to_inside L (length es) t))

-- ---- one row and its arguments

pub unary_row : (k : Unary) (w : Row) → length_of (on_row (unary_elems k) w) ≤ length_of w
unfolding on_row elems_of
unary_row k null_row = omega arith
unary_row k (list_row es) = unary_le k es

pub union_row : (l r : Row) → length_of (on_rows (set_elems Union) l r) ≤ length_of l + length_of r
unfolding on_rows elems_of
union_row null_row r = omega arith
union_row (list_row ls) null_row = omega arith
union_row (list_row ls) (list_row rs) = union_le ls rs

pub intersect_row : (l r : Row) → length_of (on_rows (set_elems Intersect) l r) ≤ length_of l
unfolding on_rows elems_of
intersect_row null_row r = omega arith
intersect_row (list_row ls) null_row = omega arith
intersect_row (list_row ls) (list_row rs) = intersect_le ls rs

pub slice_row_lem : (L : Limits) (w : Row) (f t s : Elem) → length_of (row_made (slice_row L w f t s)) ≤ length_of w
unfolding slice_row row_made elems_of
slice_row_lem L null_row f t s = omega arith
slice_row_lem L (list_row es) nul t s = omega arith
slice_row_lem L (list_row es) (val f) nul s = omega arith
slice_row_lem L (list_row es) (val f) (val t) nul = omega arith
slice_row_lem L (list_row es) (val f) (val t) (val s) = slice_le L es f t s

pub replace_row_lem : (w : Row) (f t n : Elem) → length_of (replace_row w f t n) ≤ length_of w
unfolding replace_row elems_of
replace_row_lem null_row f t n = omega arith
replace_row_lem (list_row es) f t nul = omega arith
replace_row_lem (list_row es) f t (val n) = omega (arith, length-replaced f t (count n) es)

pub remove_row_lem : (w : Row) (f n : Elem) → length_of (remove_row w f n) ≤ length_of w
unfolding remove_row elems_of
remove_row_lem null_row f n = omega arith
remove_row_lem (list_row es) nul n = omega arith
remove_row_lem (list_row es) (val f) nul = omega arith
remove_row_lem (list_row es) (val f) (val n) = length_removed (val f) (count n) es

-- ---- all rows

-- the list that an operation goes along
unfoldable pub left_of : {C A : Type 0} → ListCall C A → C
left_of (unary k c) = c
left_of (set_op_call k c d) = c
left_of (slice c a b s) = c
left_of (resize c n v) = c
left_of (replace c a b n) = c
left_of (remove c a n) = c

rows_in_lem : (q : ListCall (List Row) (List Elem)) → rows_in q ≡ length (left_of q)
unfolding rows_in left_of
rows_in_lem (unary k ws) = refl
rows_in_lem (set_op_call k ls rs) = refl
rows_in_lem (slice ws f t s) = refl
rows_in_lem (resize ws n v) = refl
rows_in_lem (replace ws f t n) = refl
rows_in_lem (remove ws f n) = refl

left_at : (q : ListCall (List Row) (List Elem)) (r : ℕ) → left_of (at_row q r) ≡ row_of (left_of q) r
unfolding left_of at_row
left_at (unary k ws) r = refl
left_at (set_op_call k ls rs) r = refl
left_at (slice ws f t s) r = refl
left_at (resize ws n v) r = refl
left_at (replace ws f t n) r = refl
left_at (remove ws f n) r = refl

pub flat-total : (f : ℕ → Row) (a n : ℕ) → length (flat (tab f a n)) ≡ total (tab (λ r. length_of (f r)) a n)
unfolding flat total tab
flat-total f a zero = refl
flat-total f a (suc n) = omega (arith, length-append (elems_of (f a)) (flat (tab f (suc a) n)), flat-total f (suc a) n)

module _ (L : Limits) where
  -- what an operation makes of row r
  abbrev pub made_at : ListCall (List Row) (List Elem) → ℕ → Row
  made_at q r = row_made (made_of L (at_row q r))

  made-rows : (q : ListCall (List Row) (List Elem)) → rows_made L q ≡ tab (made_at q) 0 (rows_in q)
  unfolding rows_made row_by_row
  made-rows q = map-tab row_made (λ r. made_of L (at_row q r)) 0 (rows_in q)

  -- every operation makes as many rows as it takes
  pub rows-kept : (q : ListCall (List Row) (List Elem)) → length (rows_made L q) ≡ length (left_of q)
  rows-kept q = rw (made-rows q, length-tab (made_at q) 0 (rows_in q)) (rows_in_lem q)

  null_row_lem : (q : ListCall Row Elem) → is_row (left_of q) ≡ false → is_row (row_made (made_of L q)) ≡ false
  unfolding left_of made_of row_made is_row on_row on_rows slice_row resize_row replace_row remove_row
  null_row_lem (unary k null_row) h = refl
  null_row_lem (unary k (list_row es)) h = never_true h
  null_row_lem (set_op_call k null_row r) h = refl
  null_row_lem (set_op_call k (list_row ls) r) h = never_true h
  null_row_lem (slice null_row f t s) h = refl
  null_row_lem (slice (list_row es) f t s) h = never_true h
  null_row_lem (resize null_row n v) h = refl
  null_row_lem (resize (list_row es) n v) h = never_true h
  null_row_lem (replace null_row f t n) h = refl
  null_row_lem (replace (list_row es) f t n) h = never_true h
  null_row_lem (remove null_row f n) h = refl
  null_row_lem (remove (list_row es) f n) h = never_true h

  -- and a row that is null stays null, whatever the operation
  pub null_stays : (q : ListCall (List Row) (List Elem)) (r : ℕ) → is_row (row_of (left_of q) r) ≡ false → is_row (row_of (rows_made L q) r) ≡ false
  unfolding is_row
  null_stays q r h = rw (made-rows q) (go (ltb r (rows_in q)) refl)
    where
      go : (b : Bool) → ltb r (rows_in q) ≡ b → is_row (row_of (tab (made_at q) 0 (rows_in q)) r) ≡ false
      go true e = rw (get_or-tab (made_at q) 0 (rows_in q) r null_row (ltb-true r (rows_in q) e), zero-add r) (null_row_lem (at_row q r) (rw (left_at q r) h))
      go false e = rw (get_or-eq_default (tab (made_at q) 0 (rows_in q)) null_row {n = r} (rw (length-tab (made_at q) 0 (rows_in q)) (ltb-false r (rows_in q) e)))

  -- the elements that an operation makes, row after row
  pub made-total : (q : ListCall (List Row) (List Elem)) → length (flat (rows_made L q)) ≡ total (tab (λ r. length_of (made_at q r)) 0 (rows_in q))
  made-total q = rw (made-rows q) (flat-total (made_at q) 0 (rows_in q))
