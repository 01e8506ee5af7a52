-- Laws of list-repeat: one row and its count, the counts of what is made, and the whole call.
use mathlib.Core.Path.{◌≡◌, refl, sym, ap, ◌∙◌}
use mathlib.Core.Bool.{Bool, true, false, ◌||◌}
use mathlib.Core.List.{List, [], ◌∷◌}
use Prim.Native.Nat.{ℕ, zero, suc, ◌+◌, ◌*◌}
use native.Mathlib.Omega.{arith}
use borrow.Author.Tests.{eq-eqb, ne_eqb, ltb-false}
use lib.Dec.{ltb}
use lib.IntN.{ℤ, pos}
use lib.ListN.{length, get_or, replicate, length-append, length-replicate}
use Rattle.model.specs.Basics.{pick, tab, any}
use Rattle.model.specs.Bitmap.{Bits, valid_at, short_bits}
use Rattle.model.specs.Column.{Elem, nul, val, Row, Column, Arguments, elem_at, row_at, rows_of, shown_by, row_count, offset_at, over_seven, refusal13ᵃ, refusal2ᵃ}
use Rattle.model.specs.Form.{is_outer, inner_of, inner, length_of, flat, RepeatRoom}
use Rattle.model.specs.Lengths.{room_of_outer, repeat_lengths_shown, repeat_lengths}
use Rattle.model.specs.Limits.{Limits}
use Rattle.model.specs.Refusals.{times_of, repeated_by, total, repeat_refusal}
use Rattle.model.specs.Rows.{repeat_of, row_of, argument_of}
use Rattle.model.specs.Outcome.{refused, made, gate, columns_refusal, fitted_repeat, repeats_made, repeat_shown, repeat_outcome}
use Rattle.model.proofs.BoolLaws.{never}
use Rattle.checks.proofs.RefusedLaws.{number_positive}
use Rattle.model.proofs.TabLaws.{length-tab, tab_ext}
use Rattle.model.proofs.ColumnLaws.{length-rows, length-shown, by_row}
use Rattle.model.proofs.EarlyLaws.{or_first, gates}
use Rattle.model.proofs.OutcomeLaws.{gate_open, gate_shut, thirteen_of_arguments, lists-next, arguments-next}
use Rattle.column.specs.Rows.{len_from}
use Rattle.column.proofs.RowLaws.{elems_from, flat_append}
use Rattle.column.proofs.WalkLaws.{row_from_lem}
use Rattle.repeat_walk.specs.Repeats.{Sized, repeat_at, repeat_rows, room_for_outer, early_repeat}
use Rattle.repeat_sums.specs.Counts.{times_at, repeated_at, sums, sums_of}
use Rattle.repeat_sums.specs.declared.Sums.{Sums}
use Rattle.std.specs.Prelude.{Result, Ok, Err}
use Rattle.model.specs.Answers.{number_of, refused_by}
use Rattle.model.specs.declared.Refusal.{Refusal}
use Rattle.model.specs.declared.Refusal.TheVariants.{TooMany}

-- ---- one row and its count

inner_of_lem : (w : Row) (e : Elem) → inner_of (repeat_of w e) ≡ replicate (times_of e) w
unfolding repeat_of inner_of times_of
inner_of_lem w nul = refl
inner_of_lem w (val n) = refl

is_outer_lem : (w : Row) (b : Bool) (v : ℤ) → is_outer (repeat_of w (pick b (val v) nul)) ≡ b
unfolding repeat_of is_outer
is_outer_lem w true v = refl
is_outer_lem w false v = refl

pub outer_valid : (w : Row) (cs : List ℤ) (cb : Bits) (r : ℕ) → is_outer (repeat_of w (elem_at cs cb r)) ≡ valid_at cb r
unfolding elem_at
outer_valid w cs cb r = is_outer_lem w (valid_at cb r) (get_or cs r (pos 0))

-- the rows that a turn of the walk writes
pub copies_are : (c : Column) (a : Arguments) (r t : ℕ) → t ≡ times_at a r → inner_of (repeat_at c a r) ≡ replicate t (row_at c r)
unfolding times_at
copies_are c a r t e = rw e (inner_of_lem (row_at c r) (elem_at a.values a.bits r))

-- ---- the counts of what is made

length-copies : (n : ℕ) (w : Row) → length (flat (replicate n w)) ≡ n * length_of w
unfolding flat
length-copies zero w = omega arith
length-copies (suc n) w =
    let i = length-copies n w in
    let m : suc n * length_of w ≡ length_of w + n * length_of w = omega arith in
    rw (length-append, i, m)

length_row : (c : Column) (r : ℕ) → length_of (row_at c r) ≡ len_from c.rows r (offset_at c.offsets r) (offset_at c.offsets (r + 1))
length_row c r =
    let a = offset_at c.offsets r in
    let b = offset_at c.offsets (r + 1) in
    let E = elem_at c.values c.elements in
    ap length_of (sym (row_from_lem c r a b refl refl)) ∙ ap length (elems_from c.rows r a b E) ∙ length-tab E a (len_from c.rows r a b)

repeated_by_lem : (c : Column) (a : Arguments) (r : ℕ) → repeated_by (row_at c r) (elem_at a.values a.bits r) ≡ repeated_at c a r
unfolding repeated_by repeated_at times_at
repeated_by_lem c a r = rw (length_row c r)

module _ (c : Column) (a : Arguments) where
  lists_of : (r n : ℕ) → length (inner (tab (repeat_at c a) r n)) ≡ total (tab (times_at a) r n)
  unfolding tab inner total times_at
  lists_of r zero = refl
  lists_of r (suc n) =
      let e = elem_at a.values a.bits r in
      let i = lists_of (suc r) n in
      rw (inner_of_lem (row_at c r) e, length-append, length-replicate, i)

  values_of : (r n : ℕ) → length (flat (inner (tab (repeat_at c a) r n))) ≡ total (tab (repeated_at c a) r n)
  unfolding tab inner total flat repeated_by
  values_of r zero = refl
  values_of r (suc n) =
      let e = elem_at a.values a.bits r in
      let i = values_of (suc r) n in
      rw (inner_of_lem (row_at c r) e, flat_append (replicate (times_of e) (row_at c r)) (inner (tab (repeat_at c a) (suc r) n)), length-append, length-copies, i, ← repeated_by_lem c a r)

  lists_are : length (inner (repeat_rows c a)) ≡ total (tab (times_at a) 0 (row_count c.offsets))
  unfolding repeat_rows
  lists_are = lists_of 0 (row_count c.offsets)

  values_are : length (flat (inner (repeat_rows c a))) ≡ total (tab (repeated_at c a) 0 (row_count c.offsets))
  unfolding repeat_rows
  values_are = values_of 0 (row_count c.offsets)

  pub length_repeats : length (repeat_rows c a) ≡ row_count c.offsets
  unfolding repeat_rows
  length_repeats = length-tab (repeat_at c a) 0 (row_count c.offsets)

-- ---- the refusals before the sums

module _ (c : Column) (a : Arguments) where
  pub early_starts : over_seven a.bits ≡ true → 13 ≡ early_repeat c a
  unfolding early_repeat any refusal13ᵃ
  early_starts h = rw (thirteen_of_arguments (c ∷ []) (a ∷ []) (rw h))

  module _ (s : over_seven a.bits ≡ false) (k : ℕ) (e : k ≡ columns_refusal (c ∷ []) []) where
    not_over : any refusal13ᵃ (a ∷ []) ≡ false
    unfolding any refusal13ᵃ
    not_over = rw s

    pub early_list : (k ≡ 0 → ⊥) → k ≡ early_repeat c a
    unfolding early_repeat
    early_list h = rw (lists-next (c ∷ []) (a ∷ []) not_over k e h) (sym (or_first k _ h))

    pub early_two : k ≡ 0 → short_bits a.bits (length a.values) ≡ true → 2 ≡ early_repeat c a
    unfolding early_repeat any refusal2ᵃ
    early_two h t = rw (arguments-next (c ∷ []) (a ∷ []) not_over k e h, t)

    module _ (h : k ≡ 0) (t : short_bits a.bits (length a.values) ≡ false) where
      pub early_three : (length a.values ≡ row_count c.offsets → ⊥) → 3 ≡ early_repeat c a
      unfolding early_repeat any refusal2ᵃ
      early_three q = rw (arguments-next (c ∷ []) (a ∷ []) not_over k e h, t, length-rows c, length-shown a, ne_eqb (length a.values) (row_count c.offsets) q)

      pub early_none : length a.values ≡ row_count c.offsets → 0 ≡ early_repeat c a
      unfolding early_repeat any refusal2ᵃ
      early_none q = rw (arguments-next (c ∷ []) (a ∷ []) not_over k e h, t, length-rows c, length-shown a, eq-eqb (length a.values) (row_count c.offsets) q)

-- ---- the call

-- what the sums refuse

abbrev Summed : Type 0
Summed = Result Sums Refusal

-- so many lists and values
abbrev of : ℕ → ℕ → Summed
of t v = Ok (record { lists = t; values = v })

eight_if : (b : Bool) (t v : ℕ) → ◌≡◌ {A = ℕ} (pick b 8 0) (refused_by (pick b (Err TooMany) (of t v)))
eight_if true t v = refl
eight_if false t v = refl

eight_sums : (L : Limits) (t v : ℕ) → ◌≡◌ {A = ℕ} (pick (ltb L.outer t || ltb L.repeated v) 8 0) (refused_by (sums L t v))
unfolding sums
eight_sums L t v = eight_if (ltb L.outer t || ltb L.repeated v) t v

fit_if : (b d : Bool) (t v : ℕ) (s : Sums) → Ok s ≡ pick (b || d) (Err TooMany) (of t v) → (b ≡ false) × (d ≡ false) × (s.lists ≡ t) × (s.values ≡ v)
fit_if true d t v s e = never cc
fit_if false true t v s e = never cc
fit_if false false t v s e = let q : s ≡ record { lists = t; values = v } = cc in (refl, refl, ap (λ (s : Sums). s.lists) q, ap (λ (s : Sums). s.values) q)

module _ (L : Limits) (c : Column) (a : Arguments) where
  abbrev found : Summed
  found = sums_of L c a

  module _ (e : length a.values ≡ row_count c.offsets) where
    made_repeats : repeats_made (rows_of c) (shown_by a) ≡ repeat_rows c a
    unfolding repeats_made repeat_rows
    made_repeats = by_row repeat_of c a e

    times_shown : tab (λ r. times_of (argument_of (shown_by a) r)) 0 (length (rows_of c)) ≡ tab (times_at a) 0 (row_count c.offsets)
    unfolding times_at
    times_shown = by_row (λ w n. times_of n) c a e

    values-shown : tab (λ r. repeated_by (row_of (rows_of c) r) (argument_of (shown_by a) r)) 0 (length (rows_of c)) ≡ tab (repeated_at c a) 0 (row_count c.offsets)
    values-shown = by_row repeated_by c a e ∙ tab_ext _ _ 0 0 (row_count c.offsets) (λ r h. repeated_by_lem c a (0 + r))

    refuses_eight : repeat_refusal L (rows_of c) (shown_by a) ≡ refused_by found
    unfolding repeat_refusal sums_of
    refuses_eight = rw (times_shown, values-shown) (eight_sums L (total (tab (times_at a) 0 (row_count c.offsets))) (total (tab (repeated_at c a) 0 (row_count c.offsets))))

  -- what the sums that do not exceed their limits are
  pub sums_are : (s : Sums) → Ok s ≡ found → Sized L (repeat_rows c a) s
  unfolding sums_of sums
  sums_are s q =
      let T = total (tab (times_at a) 0 (row_count c.offsets)) in
      let U = total (tab (repeated_at c a) 0 (row_count c.offsets)) in
      let f = fit_if (ltb L.outer T) (ltb L.repeated U) T U s q in
      record { lists = f.2 ∙ sym (lists_are c a); values = f.3 ∙ sym (values_are c a); few = rw f.2 (ltb-false L.outer T f.0); small = rw f.3 (ltb-false L.repeated U f.1) }

  -- the run and the measure both begin with the refusals above

  abbrev refusal : ℕ
  refusal = repeat_refusal L (rows_of c) (shown_by a)

  outcome_is : (l : RepeatRoom) → repeat_outcome L c a l ≡ gate (early_repeat c a) (gate refusal (fitted_repeat (repeats_made (rows_of c) (shown_by a)) l))
  unfolding repeat_outcome repeat_shown early_repeat
  outcome_is l = gates _ _ _

  lengths_are : repeat_lengths L c a ≡ gate (early_repeat c a) (gate refusal (made (room_of_outer (repeats_made (rows_of c) (shown_by a)))))
  unfolding repeat_lengths repeat_lengths_shown early_repeat
  lengths_are = gates _ _ _

  -- a call that is refused early, or goes on; k is what the code found
  module _ (k : ℕ) (e : k ≡ early_repeat c a) where
    pub run_early : (l : RepeatRoom) → (k ≡ 0 → ⊥) → repeat_outcome L c a l ≡ refused k
    run_early l h = outcome_is l ∙ rw (← e) (gate_shut k _ h)

    pub lengths_early : (k ≡ 0 → ⊥) → refused k ≡ repeat_lengths L c a
    lengths_early h = sym (lengths_are ∙ rw (← e) (gate_shut k _ h))

    module _ (h : k ≡ 0) (q : length a.values ≡ row_count c.offsets) where
      run_goes : (l : RepeatRoom) → repeat_outcome L c a l ≡ gate (refused_by found) (fitted_repeat (repeat_rows c a) l)
      run_goes l = outcome_is l ∙ gate_open (early_repeat c a) _ (sym e ∙ h) ∙ rw (refuses_eight q, made_repeats q)

      lengths_go : repeat_lengths L c a ≡ gate (refused_by found) (made (room_of_outer (repeat_rows c a)))
      lengths_go = lengths_are ∙ gate_open (early_repeat c a) _ (sym e ∙ h) ∙ rw (refuses_eight q, made_repeats q)

      module _ (j : Refusal) (f : Err j ≡ found) where
        pub run_eight : (l : RepeatRoom) → repeat_outcome L c a l ≡ refused (number_of j)
        run_eight l = run_goes l ∙ rw (← f) (gate_shut (number_of j) _ (number_positive j))

        pub lengths_eight : refused (number_of j) ≡ repeat_lengths L c a
        lengths_eight = sym (lengths_go ∙ rw (← f) (gate_shut (number_of j) _ (number_positive j)))

      module _ (s : Sums) (f : Ok s ≡ found) where
        pub run_fits : (l : RepeatRoom) → repeat_outcome L c a l ≡ fitted_repeat (repeat_rows c a) l
        unfolding gate
        run_fits l = run_goes l ∙ rw (← f)

        pub lengths-made : (n : ℕ) → n ≡ row_count c.offsets → made (room_for_outer n s.lists s.values) ≡ repeat_lengths L c a
        unfolding gate
        lengths-made n en = let m = sums_are s f in sym (lengths_go ∙ rw (← f, length_repeats c a, ← m.lists, ← m.values, ← en))
