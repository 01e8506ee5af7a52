-- A recipe's limits. `capped-plus` and `capped-sum`: "a limit stops at the largest offset", after each addition or at the
-- end. `no_level`: limits are "from row lengths, validity and arguments alone". Then the limits in the code's terms. That they are enough stands
-- in LentEnough.
use Prim.Native.Nat.{ℕ, zero, suc, ◌+◌, ◌*◌, ◌≤◌, ◌<◌, max}
use mathlib.Core.Path.{◌≡◌, refl, sym, ap, ◌∙◌}
use mathlib.Core.Bool.{Bool, true, false}
use mathlib.Core.List.{List, [], ◌∷◌, map}
use native.Mathlib.Nat.{zero-add}
use native.Mathlib.Omega.{arith}
use borrow.Author.Tests.{ne_eqb}
use lib.Dec.{eqb}
use lib.ListN.{length, get_or, length-append}
use Rattle.model.specs.Basics.{pick, tab, Lent, absent, given}
use Rattle.model.specs.Bitmap.{valid_at}
use Rattle.model.specs.Limits.{Limits}
use Rattle.model.specs.Column.{Elem, nul, Row, null_row, list_row, Column, Arguments, row_count, offset_at, length_at, elem_at, row_at, rows_of, shown_by, EqualArguments}
use Rattle.model.specs.Form.{elems_of, flat}
use Rattle.model.specs.Rows.{argument_of}
use Rattle.model.specs.Refusals.{total, times_of}
use Rattle.model.specs.Recipe.{Step, Recipe, column_of, code_call, recipe_unequal}
use Rattle.model.specs.Call.{limit_recipe, lists_of, arguments_of, Formed}
use Rattle.model.specs.Lengths.{length_if, or_zero, shown_in, count_over, counts_over, call_limit, capped, step_limit, TrayLimits, tray_limits, steps_limits, limits_of, formed_limits, recipe_limits_shown, recipe_limits}
use Rattle.model.proofs.TabLaws.{length-tab, length-map, get_or-tab, map-tab, tab_ext}
use Rattle.model.proofs.ColumnLaws.{pick_same, same_arguments, argument_at}
use Rattle.model.proofs.OutcomeLaws.{formed-columns, gate_open}

-- ---- the cap: "a limit stops at the largest offset"

module _ (L : Limits) where
  pub capped_le : (n : ℕ) → capped L n ≤ L.offset
  unfolding capped
  capped_le n = omega arith

  pub capped_within : (m n : ℕ) → m ≤ n → m ≤ L.offset → m ≤ capped L n
  unfolding capped
  capped_within m n h g = omega arith

  -- a sum may be cut after each addition
  pub capped-plus : (a n : ℕ) → capped L (capped L a + n) ≡ capped L (a + n)
  unfolding capped
  capped-plus a n = omega arith

  -- numbers added to a, cut after each
  unfoldable pub capped_sum : ℕ → List ℕ → ℕ
  capped_sum a [] = capped L a
  capped_sum a (n ∷ ns) = capped_sum (capped L (a + n)) ns

  pub capped-sum : (a : ℕ) (ns : List ℕ) → capped_sum a ns ≡ capped L (a + total ns)
  unfolding capped_sum total
  capped-sum a [] = ap (capped L) (omega arith)
  capped-sum a (n ∷ ns) =
      let e : a + n + total ns ≡ a + (n + total ns) = omega arith in
      capped-sum (capped L (a + n)) ns ∙ (capped-plus (a + n) (total ns) ∙ ap (capped L) e)

-- ---- the limits stop at the largest offset

pub step_stops : (L : Limits) (fs rs : List (Lent ℕ)) (es : List Elem) (s : Step) (n : ℕ) → step_limit L fs rs es s n ≤ L.offset
unfolding step_limit
step_stops L fs rs es s n = capped_le L _

-- all three
pub record Stopped (L : Limits) (m : TrayLimits) : Type 0 where
  pub one : m.one ≤ L.offset
  pub two : m.two ≤ L.offset
  pub output : m.output ≤ L.offset

steps_stop : (L : Limits) (fs rs : List (Lent ℕ)) (es : List Elem) (s : Step) (ss : List Step) (n : ℕ) → Stopped L (steps_limits L fs rs es s ss n)
unfolding steps_limits
steps_stop L fs rs es s [] n = record { one = omega arith; two = omega arith; output = step_stops L fs rs es s n }
steps_stop L fs rs es s (t ∷ ts) n =
    let k = step_stops L fs rs es s n in
    let m = steps_stop L fs rs es t ts (step_limit L fs rs es s n) in
    let two = m.two in
    record { one = omega arith; two = m.one; output = m.output }

pub limits_stop : (L : Limits) (fs rs : List (Lent ℕ)) (es : List Elem) (ss : List Step) → Stopped L (limits_of L fs rs es ss)
unfolding limits_of
limits_stop L fs rs es [] = record { one = omega arith; two = omega arith; output = capped_le L (shown_in fs) }
limits_stop L fs rs es (s ∷ ss) = steps_stop L fs rs es s ss (capped L (shown_in fs))

-- ---- "from row lengths, validity and arguments alone"

-- no level changes a limit: rows of the same lengths, null in the same places
pub no_level : (L : Limits) (p : Recipe) (ws ws' rs rs' : List Row) (es : List Elem) → map length_if ws ≡ map length_if ws' → map length_if rs ≡ map length_if rs' → recipe_limits_shown L p ws rs es ≡ recipe_limits_shown L p ws' rs' es
unfolding recipe_limits_shown formed_limits recipe_unequal
no_level L p ws ws' rs rs' es h g =
    let n : length ws ≡ length ws' = sym (length-map length_if ws) ∙ (ap length h ∙ length-map length_if ws') in
    let k : length rs ≡ length rs' = sym (length-map length_if rs) ∙ (ap length g ∙ length-map length_if rs') in
    rw (n, k, h, g)

-- two columns whose rows have one length and are null in the same places
pub record EqualLengths (c d : Column) : Type 0 where
  pub many : row_count c.offsets ≡ row_count d.offsets
  pub nulls : (r : ℕ) → r < row_count c.offsets → valid_at c.rows r ≡ valid_at d.rows r
  pub lengths : (r : ℕ) → r < row_count c.offsets → valid_at c.rows r ≡ true → length_at c r ≡ length_at d r

-- what the limits see of row r, by the column's bitmap and offsets
abbrev pub length_if_at : Column → ℕ → Lent ℕ
length_if_at c r = pick (valid_at c.rows r) (given (length_at c r)) absent

length_if_lem : (c : Column) (r : ℕ) → length_if (row_at c r) ≡ length_if_at c r
unfolding length_if row_at
length_if_lem c r = go (valid_at c.rows r)
  where
    E : ℕ → Elem
    E = elem_at c.values c.elements

    go : (b : Bool) → length_if (pick b (list_row (tab E (offset_at c.offsets r) (length_at c r))) null_row) ≡ pick b (given (length_at c r)) absent
    go true = ap given (length-tab E (offset_at c.offsets r) (length_at c r))
    go false = refl

-- and of all rows
pub lengths_of : (c : Column) → map length_if (rows_of c) ≡ tab (length_if_at c) 0 (row_count c.offsets)
unfolding rows_of
lengths_of c = map-tab length_if (row_at c) 0 (row_count c.offsets) ∙ tab_ext _ _ 0 0 (row_count c.offsets) (λ r h. length_if_lem c (0 + r))

same_lengths : {c d : Column} → EqualLengths c d → map length_if (rows_of c) ≡ map length_if (rows_of d)
same_lengths {c} {d} e =
    rw (lengths_of c, lengths_of d, ← e.many)
    (tab_ext _ _ 0 0 (row_count c.offsets) (λ r h. rw (zero-add r) (pick_same (valid_at c.rows r) (valid_at d.rows r) _ _ absent (e.nulls r h) (λ v. ap given (e.lengths r h v)))))

pub no_level_columns : (L : Limits) (p : Recipe) {c c' d d' : Column} {e e' : Arguments} → Formed (limit_recipe p c d e) → Formed (limit_recipe p c' d' e') → EqualLengths c c' → EqualLengths d d' → EqualArguments e e'
    → recipe_limits L p c d e ≡ recipe_limits L p c' d' e'
unfolding recipe_limits recipe_limits_shown lists_of arguments_of
no_level_columns L p {c} {c'} {d} {d'} {e} {e'} f f' i j k =
    rw (gate_open _ _ (formed-columns f.lists f.arguments), gate_open _ _ (formed-columns f'.lists f'.arguments), same_arguments k)
    (no_level L p (rows_of c) (rows_of c') (rows_of d) (rows_of d') (shown_by e') (same_lengths i) (same_lengths j))

-- ---- in the code's terms: row by row, from the offsets and the bitmaps

-- the shown elements of rows, from their lengths
pub shown-elements : (ws : List Row) → shown_in (map length_if ws) ≡ length (flat ws)
unfolding shown_in length_if or_zero total flat elems_of
shown-elements [] = refl
shown-elements (null_row ∷ ws) = zero-add _ ∙ shown-elements ws
shown-elements (list_row es ∷ ws) = omega (arith, length-append es (flat ws), shown-elements ws)

-- and of a column
pub shown_by_row : (c : Column) → shown_in (map length_if (rows_of c)) ≡ total (tab (λ r. pick (valid_at c.rows r) (length_at c r) 0) 0 (row_count c.offsets))
unfolding shown_in or_zero
shown_by_row c = rw (lengths_of c, map-tab or_zero (length_if_at c) 0 (row_count c.offsets)) (ap total (tab_ext _ _ 0 0 (row_count c.offsets) (λ r h. or_zero_lem (valid_at c.rows (0 + r)) _)))
  where
    or_zero_lem : (b : Bool) (n : ℕ) → or_zero (pick b (given n) absent) ≡ pick b n 0
    or_zero_lem true n = refl
    or_zero_lem false n = refl

-- the sum of resize's counts, those of argument column k of n rows
pub counts_by_row : (c : Column) (e : Arguments) (n k : ℕ) → row_count c.offsets ≡ n → k * n + n ≤ length e.values
    → counts_over (map length_if (rows_of c)) (column_of (shown_by e) n k) ≡ total (tab (λ r. pick (valid_at c.rows r) (times_of (elem_at e.values e.bits (k * n + r))) 0) 0 n)
unfolding counts_over count_over
counts_by_row c e n k q h =
    rw (lengths_of c, q, length-tab (length_if_at c) 0 n)
    (ap total (tab_ext (λ r. count_over (get_or (tab (length_if_at c) 0 n) r absent) (argument_of (column_of (shown_by e) n k) r)) (λ r. pick (valid_at c.rows r) (times_of (elem_at e.values e.bits (k * n + r))) 0) 0 0 n one))
  where
    over : (b : Bool) (m : ℕ) (v : Elem) → count_over (pick b (given m) absent) v ≡ pick b (times_of v) 0
    over true m v = refl
    over false m v = refl

    one : (r : ℕ) → r < n
        → count_over (get_or (tab (length_if_at c) 0 n) (0 + r) absent) (argument_of (column_of (shown_by e) n k) (0 + r)) ≡ pick (valid_at c.rows (0 + r)) (times_of (elem_at e.values e.bits (k * n + (0 + r)))) 0
    one r l =
        rw (zero-add r, get_or-tab (length_if_at c) 0 n r absent l, get_or-tab (λ i. get_or (shown_by e) (k * n + i) nul) 0 n r nul l, zero-add r, argument_at e (k * n + r) (omega arith))
        (over (valid_at c.rows r) (length_at c r) (elem_at e.values e.bits (k * n + r)))

-- ---- by the numbers of the codes

-- resize is 6 and union 9
pub limit_by_code : (code n m : ℕ) (fs : List (Lent ℕ)) (a b c : List Elem) → call_limit fs (code_call code n m a b c) ≡ pick (eqb code 6) (counts_over fs a) (pick (eqb code 9) (n + m) n)
unfolding call_limit code_call
limit_by_code zero n m fs a b c = refl
limit_by_code (suc zero) n m fs a b c = refl
limit_by_code (suc (suc zero)) n m fs a b c = refl
limit_by_code (suc (suc (suc zero))) n m fs a b c = refl
limit_by_code (suc (suc (suc (suc zero)))) n m fs a b c = refl
limit_by_code (suc (suc (suc (suc (suc zero))))) n m fs a b c = refl
limit_by_code (suc (suc (suc (suc (suc (suc zero)))))) n m fs a b c = refl
limit_by_code (suc (suc (suc (suc (suc (suc (suc zero))))))) n m fs a b c = refl
limit_by_code (suc (suc (suc (suc (suc (suc (suc (suc zero)))))))) n m fs a b c = refl
limit_by_code (suc (suc (suc (suc (suc (suc (suc (suc (suc zero))))))))) n m fs a b c = refl
limit_by_code (suc (suc (suc (suc (suc (suc (suc (suc (suc (suc zero)))))))))) n m fs a b c = refl
limit_by_code (suc (suc (suc (suc (suc (suc (suc (suc (suc (suc (suc k))))))))))) n m fs a b c = rw (ne_eqb (suc (suc (suc (suc (suc (suc (suc (suc (suc (suc (suc k))))))))))) 6 (omega arith), ne_eqb (suc (suc (suc (suc (suc (suc (suc (suc (suc (suc (suc k))))))))))) 9 (omega arith))

-- ---- step after step, the greatest so far kept: a of the tray that the next step writes, b of the other

abbrev pub joined : ℕ → ℕ → TrayLimits → TrayLimits
joined a b m = tray_limits (max a m.one) (max b m.two) m.output

-- the trays change places
abbrev pub swapped : TrayLimits → TrayLimits
swapped m = tray_limits m.two m.one m.output

pub joined-first : (m : TrayLimits) → joined 0 0 m ≡ m
joined-first m =
    let one : max 0 m.one ≡ m.one = omega arith in
    let two : max 0 m.two ≡ m.two = omega arith in
    rw (one, two)

module _ (L : Limits) (fs rs : List (Lent ℕ)) (es : List Elem) (s : Step) (n a b : ℕ) where
  pub joined-last : joined a b (steps_limits L fs rs es s [] n) ≡ tray_limits a b (step_limit L fs rs es s n)
  unfolding steps_limits
  joined-last =
      let one : max a 0 ≡ a = omega arith in
      let two : max b 0 ≡ b = omega arith in
      rw (one, two)

  pub joined-next : (t : Step) (ts : List Step) → joined a b (steps_limits L fs rs es s (t ∷ ts) n) ≡ swapped (joined b (max a (step_limit L fs rs es s n)) (steps_limits L fs rs es t ts (step_limit L fs rs es s n)))
  unfolding steps_limits
  joined-next t ts = rw (greatest a (step_limit L fs rs es s n) (steps_limits L fs rs es t ts (step_limit L fs rs es s n)).two)
    where
      greatest : (x y z : ℕ) → max x (max y z) ≡ max (max x y) z
      greatest x y z = omega arith
