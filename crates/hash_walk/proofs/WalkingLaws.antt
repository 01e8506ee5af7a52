-- Laws of the operations with a work area: a pair of rows, and the whole call.
use mathlib.Core.Path.{◌≡◌, refl, sym, ap, ◌∙◌}
use mathlib.Core.Bool.{Bool, true, false, ◌&&◌}
use mathlib.Core.List.{List, [], ◌∷◌, map}
use Prim.Native.Nat.{ℕ, zero, suc, ◌+◌, ◌-◌, ◌≤◌, ◌<◌}
use native.Mathlib.Omega.{arith}
use native.Mathlib.Nat.{zero-add}
use borrow.Author.Tests.{ltb-false}
use lib.Dec.{ltb}
use lib.ListN.{length}
use Rattle.model.specs.Basics.{tab, pick}
use Rattle.model.specs.Bitmap.{valid_at}
use Rattle.model.specs.Column.{Elem, Row, null_row, list_row, Column, rows_of, row_at, length_at, offset_at, row_count}
use Rattle.model.specs.Elements.{distinct, unary_elems}
use Rattle.model.specs.Form.{Room, elems_of, flat}
use Rattle.model.specs.Hash.{distinct_of, set_of, plain_of, on_hashed, lists_hashed, short_area, hashed_shown, hashed_outcome}
use Rattle.model.specs.Limits.{Limits, narrow}
use Rattle.model.specs.Rows.{unary, on_row, on_rows, on_call, lists_in, arguments_in, makes, made_of, at_row, row_of, rows_in, row_by_row, row_made, rows_made}
use Rattle.model.specs.Refusals.{unequal, first_of, refusal_of, sums_refusal, rows_refusal}
use Rattle.model.specs.Rows as Rows
use Rattle.model.specs.Outcome.{refused, gate, columns_refusal, fitted, after_three, early_refusal}
use Rattle.model.specs.declared.SetOp.{SetOp}
use Rattle.model.specs.declared.Unary.TheVariants as U
use Rattle.model.proofs.TabLaws.{length-tab, map-tab, tab_ext}
use Rattle.model.proofs.ColumnLaws.{length-rows, row_at_lem}
use Rattle.model.proofs.EarlyLaws.{gates}
use Rattle.model.proofs.OutcomeLaws.{gate_open, gate_shut}
use Rattle.column.specs.Put.{RoomInˡ}
use Rattle.column.proofs.WalkLaws.{Summing, sum_more}
use Rattle.set_rows.proofs.SetLaws.{firsts-kept, kept_le}
use Rattle.set_rows.specs.Runs.{row_elems}
use Rattle.set_rows.proofs.RunLaws.{length_row}
use Rattle.set_walk.specs.Pairs.{Begun, pair_rows}
use Rattle.set_walk.proofs.SetLaws.{made, made_le, pair_le, rises, bound_grows, bound_between, bound_small, set_after, united}
use Rattle.hash_checks.specs.Area.{hash_elems, row_need, need_at, most_needed, op_refusal}
use Rattle.hash_checks.specs.declared.HashOp.{HashOp}
use Rattle.hash_checks.specs.declared.HashOp.TheVariants.{Distinct, Pair}
use Rattle.hash_checks.proofs.AreaLaws.{longest_ge, needed_distinct, needed_pair}
use Rattle.hash_walk.specs.Hashes.{hash_at, hash_rows, hash_bound, hash_after}

-- ---- a pair of rows

distinct_le : (es : List Elem) → length (distinct es) ≤ length es
distinct_le es = rw (firsts-kept [] [] es) (kept_le false [] [] es)

hash_le : (op : HashOp) (c d : Column) (r : ℕ) → length (made (hash_elems op) c d r) ≤ hash_bound op (length_at c r) (length_at d r)
unfolding hash_elems hash_bound
hash_le Distinct c d r = omega (arith, distinct_le (row_elems c r), length_row c r)
hash_le (Pair s) c d r = made_le s c d r

hash_grows : (op : HashOp) {a b c d : ℕ} → a ≤ b → c ≤ d → hash_bound op a c ≤ hash_bound op b d
unfolding hash_bound
hash_grows Distinct h k = h
hash_grows (Pair s) h k = bound_grows s h k

hash_between : (op : HashOp) {a b c d : ℕ} → a ≤ b → c ≤ d → hash_bound op (b - a) (d - c) ≡ hash_bound op b d - hash_bound op a c
unfolding hash_bound
hash_between Distinct h k = refl
hash_between (Pair s) h k = bound_between s h k

pub hash_small : (op : HashOp) → hash_bound op narrow.offset narrow.offset ≤ 18446744073709551614
unfolding hash_bound
hash_small Distinct = omega arith
hash_small (Pair s) = bound_small s (omega arith)

-- what 8 leaves is no more than an offset holds
pub held : (op : HashOp) (k m : ℕ) → k ≡ m → k ≤ hash_bound op narrow.offset narrow.offset → op_refusal op m ≡ 0 → m ≤ narrow.offset
unfolding hash_bound op_refusal
held Distinct k m e h z = omega arith
held (Pair s) k m e h z = united narrow s m (omega arith) (rw e at h) z

-- the work area holds twice what the rows r need
pub need_fits : (op : HashOp) (c d : Column) (r slots : ℕ) → r < row_count c.offsets → most_needed op c d + most_needed op c d ≤ slots → need_at op c d r + need_at op c d r ≤ slots
unfolding most_needed
need_fits op c d r slots h s =
    let g = longest_ge (need_at op c d) 0 (row_count c.offsets) r h in
    let k = rw (zero-add r) at g in
    omega (arith, s, k)

-- where both are valid, it is their elements
pub need_valid : (op : HashOp) (c d : Column) (r n m slots : ℕ) {v : Bool} → v ≡ valid_at c.rows r && valid_at d.rows r → v ≡ true → n ≡ length_at c r → m ≡ length_at d r → need_at op c d r + need_at op c d r ≤ slots → row_need op n m + row_need op n m ≤ slots
unfolding need_at
need_valid op c d r n m slots e f p q h = rw (p, q) (rw (← e, f) at h)

-- ---- the rows made, counted by the code's n

module _ (op : HashOp) (c d : Column) where
  pub length_hashes : length (hash_rows op c d) ≡ row_count c.offsets
  unfolding hash_rows
  length_hashes = length-tab (hash_at op c d) 0 (row_count c.offsets)

  module _ (n : ℕ) (e : n ≡ row_count c.offsets) where
    pub hashes_at : tab (hash_at op c d) 0 n ≡ hash_rows op c d
    unfolding hash_rows
    hashes_at = rw e

    pub hash_room : {lo lo' lr lv le : ℕ} → RoomInˡ (row_count c.offsets) (length (flat (hash_rows op c d))) lo lr lv le → lo' ≡ lo → RoomInˡ n (length (flat (tab (hash_at op c d) 0 n))) lo' lr lv le
    hash_room h q = rw (q, hashes_at, e) h

  -- 14, 8, and what is left
  module _ (slots : ℕ) (l : Room) where
    pub after-short : {t : Bool} {k : ℕ} → t ≡ ltb slots (k + k) → k ≡ most_needed op c d → t ≡ true → hash_after op c d slots l ≡ refused 14
    unfolding hash_after gate
    after-short e f g = rw (← f, ← e, g)

    module _ {t : Bool} {k : ℕ} (e : t ≡ ltb slots (k + k)) (f : k ≡ most_needed op c d) (g : t ≡ false) where
      pub after_enough : hash_after op c d slots l ≡ gate (op_refusal op (length (flat (hash_rows op c d)))) (fitted (hash_rows op c d) l)
      unfolding hash_after
      after_enough = rw (← f, ← e, g) (gate_open 0 _ refl)

      pub area-fits : most_needed op c d + most_needed op c d ≤ slots
      area-fits = rw (← f) (ltb-false slots (k + k) (sym e ∙ g))

      module _ {m : ℕ} (q : m ≡ op_refusal op (length (flat (hash_rows op c d)))) where
        pub after_eight : (m ≡ 0 → ⊥) → hash_after op c d slots l ≡ refused m
        after_eight h = after_enough ∙ rw (← q) (gate_shut m _ h)

        pub after_goes : m ≡ 0 → hash_after op c d slots l ≡ fitted (hash_rows op c d) l
        after_goes h = after_enough ∙ gate_open _ _ (sym q ∙ h)

-- ---- the call

one_row_lem : (w : Row) → on_row distinct w ≡ on_rows (hash_elems Distinct) w w
unfolding on_row on_rows hash_elems
one_row_lem null_row = refl
one_row_lem (list_row es) = refl

none_of : (L : Limits) (ws : List Row) (a n : ℕ) → first_of (map refusal_of (tab (λ r. made_of L (at_row (unary U.Distinct ws) r)) a n)) ≡ 0
unfolding tab made_of at_row refusal_of first_of
none_of L ws a zero = refl
none_of L ws a (suc n) = none_of L ws (suc a) n

module _ (c : Column) where
  distinct-made : rows_made narrow (unary U.Distinct (rows_of c)) ≡ hash_rows Distinct c c
  unfolding rows_made row_by_row made_of at_row row_made rows_in hash_rows unary_elems
  distinct-made =
      map-tab row_made (λ r. makes (on_row distinct (row_of (rows_of c) r))) 0 (length (rows_of c))
      ∙ rw (length-rows c) (tab_ext _ _ 0 0 (row_count c.offsets) (λ r h. rw (zero-add r, row_at_lem c r h) (one_row_lem (row_at c r))))

  distinct-refusal : rows_refusal narrow (unary U.Distinct (rows_of c)) ≡ 0
  unfolding rows_refusal row_by_row sums_refusal rows_in
  distinct-refusal = rw (none_of narrow (rows_of c) 0 (length (rows_of c)))

  distinct-after : (l : Room) → after_three narrow (unary U.Distinct (rows_of c)) l ≡ fitted (hash_rows Distinct c c) l
  unfolding after_three
  distinct-after l = rw (distinct-made, distinct-refusal) (gate_open 0 _ refl)

  -- a call of distinct that 13, 1 or 2 refuses, or that goes on; k is what the code found
  module _ (slots : ℕ) (l : Room) (k : ℕ) (e : k ≡ columns_refusal (c ∷ []) []) where
    pub distinct_early : (k ≡ 0 → ⊥) → hashed_outcome narrow (distinct_of c) slots l ≡ refused k
    unfolding hashed_outcome lists_hashed
    distinct_early h = rw (← e) (gate_shut k _ h)

    pub distinct_goes : k ≡ 0 → hashed_outcome narrow (distinct_of c) slots l ≡ hash_after Distinct c c slots l
    unfolding hashed_outcome hashed_shown lists_hashed on_hashed plain_of unequal short_area hash_after op_refusal
    distinct_goes h =
        gate_open _ _ (sym e ∙ h) ∙ gate_open 0 _ refl ∙ rw (distinct-after l, needed_distinct c) (ap (gate _) (sym (gate_open 0 _ refl)))

module _ (op : SetOp) (c d : Column) (slots : ℕ) (l : Room) where
  by_early : hashed_outcome narrow (set_of op c d) slots l ≡ gate (early_refusal (Rows.set_op_call op c d)) (gate (pick (short_area slots (set_of op (rows_of c) (rows_of d))) 14 0) (after_three narrow (Rows.set_op_call op (rows_of c) (rows_of d)) l))
  unfolding hashed_outcome hashed_shown lists_hashed on_hashed plain_of early_refusal lists_in arguments_in on_call
  by_early = gates _ _ _

  module _ (k : ℕ) (e : k ≡ early_refusal (Rows.set_op_call op c d)) where
    pub set_early : (k ≡ 0 → ⊥) → hashed_outcome narrow (set_of op c d) slots l ≡ refused k
    set_early h = by_early ∙ rw (← e) (gate_shut k _ h)

    pub set_goes : k ≡ 0 → row_count d.offsets ≡ row_count c.offsets → hashed_outcome narrow (set_of op c d) slots l ≡ hash_after (Pair op) c d slots l
    unfolding short_area hash_after op_refusal hash_rows hash_elems pair_rows
    set_goes h q =
        by_early
        ∙ gate_open _ _ (sym e ∙ h)
        ∙ rw (set_after op c d narrow l q, needed_pair op c d q)

-- ---- the measuring walk after one more pair of rows

pub hash_more : (op : HashOp) (c d : Column) (n r k : ℕ) {found : ℕ} → Begun c d → n ≡ row_count c.offsets → Summing (hash_at op c d) n (hash_bound op (offset_at c.offsets r) (offset_at d.offsets r)) (hash_bound op narrow.offset narrow.offset) found r (n - r) → r < n
    → offset_at c.offsets (r + 1) ≤ narrow.offset → offset_at d.offsets (r + 1) ≤ narrow.offset → k ≡ length (elems_of (hash_at op c d r))
    → Summing (hash_at op c d) n (hash_bound op (offset_at c.offsets (r + 1)) (offset_at d.offsets (r + 1))) (hash_bound op narrow.offset narrow.offset) (found + k) (r + 1) (n - (r + 1))
hash_more op c d n r k b e s h x y q =
    let m : n - (r + 1) ≡ n - r - 1 = omega arith in
    let i = rises c r b.left (omega arith) in
    let j = rises d r b.right (omega (arith, b.equal)) in
    rw m
    (sum_more (hash_at op c d) n (hash_bound op narrow.offset narrow.offset) k _ _ s (omega arith) q
    (rw (q, ← hash_between op i j) (pair_le (hash_elems op) c d r _ (hash_le op c d r)))
    (hash_grows op i j) refl (hash_grows op x y))
