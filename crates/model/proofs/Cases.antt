-- "Cases A to P are proved of the definitions by one theorem over a table of them". Each entry is a call, its columns written out
-- slice by slice, and all that it ends in: the counts and each written slice, or a refusal's number.
use Prim.Native.Nat.{ℕ, ◌-◌}
use mathlib.Core.Path.{◌≡◌, refl}
use mathlib.Core.List.{List, [], ◌∷◌, map}
use lib.IntN.{ℤ, pos, negsuc}
use Rattle.model.specs.Basics.{tab, any, absent, given}
use Rattle.model.specs.Limits.{narrow}
use Rattle.model.specs.Bitmap.{from, valid_at, short_bits, byte_of, pack_n, pack, nulls}
use Rattle.model.specs.Column.{Column, column, Arguments, arguments, count, elem_at, row_at, rows_of, shown_by, falls, bad_offsets, refusal13, refusal13ᵃ, refusal2, refusal2ᵃ}
use Rattle.model.specs.View.{View}
use Rattle.model.specs.Form.{Room, ValueRoom, RepeatRoom, is_val, value_of, is_row, elems_of, flat, offsets_from, is_outer, inner_of, inner}
use Rattle.model.specs.Elements.{eq_z, same_elem, is_in, firsts, unary_elems, common, set_elems, resized, replaced, removed, element_at}
use Rattle.model.specs.Slice.{fits, from_place, in_row, from_bound, to_place, to_bound, step_count, against, is_zero, strided, between, slice_plan, step_from, sliced}
use Rattle.model.specs.Rows.{unary, set_op_call, slice, resize, replace, remove, on_lent, on_call, lent_of, lists_in, arguments_in, on_row, on_rows, planned, stride_of, slice_row, fill_of, resize_row, replace_row, remove_row, made_of, limit_of, at_row, rows_in, row_by_row, row_made, rows_made, element_of, repeat_of}
use Rattle.model.specs.Refusals.{differs_lent, wrong_limit, unequal, first_of, refusal_of, row_count_of, plus, and_then, sum_of, sum_refusal, resize_refusal, union_refusal, sums_refusal, rows_refusal, element_refusal, total, times_of, repeated_by, repeat_refusal}
use Rattle.model.specs.Outcome.{gate, columns_refusal, fitted, fitted_values, fitted_repeat, after_three, list_shown, elements_made, elements_refusal, element_shown, repeats_made, repeat_shown, list_outcome, element_outcome, repeat_outcome}
use Rattle.model.specs.Call.{Call, list, element, list_repeat, End, refusal, counts, operation_end, answer_of, written, list_numbers, list_bitmaps, list_end, value_end, repeat_end, end}
use Rattle.model.specs.declared.Unary.TheVariants.{Reverse, Distinct}
use Rattle.model.specs.declared.SetOp.TheVariants.{Union, Intersect}

-- a column: offsets, row bitmap, values, element bitmap; [] for a bitmap is all valid
abbrev pub lists : List ℕ → List ℕ → List ℕ → List ℕ → Column
lists o r v e = column (map pos o) (from 0 r) (map pos v) (from 0 e)

-- one row of these values
abbrev pub row : ℕ → List ℕ → List ℕ → Column
row n v e = lists (0 ∷ n ∷ []) [] v e

abbrev pub S : Column
S = row 4 (10 ∷ 20 ∷ 30 ∷ 40 ∷ []) []

-- an argument column of one row: a number, or a null that lies over a number, with the spare bits set
abbrev pub one : ℤ → Arguments
one z = arguments (z ∷ []) (from 0 [])

abbrev null_over : ℤ → Arguments
null_over z = arguments (z ∷ []) (from 0 (254 ∷ []))

-- −n, for n from 1 on
abbrev pub minus : ℕ → ℤ
minus n = negsuc (n - 1)

abbrev room : Room
room = record { offsets = 9; rows = 9; values = 9; elements = 9 }

abbrev value_room : ValueRoom
value_room = record { values = 9; rows = 9 }

abbrev repeat_room : RepeatRoom
repeat_room = record { outer-offsets = 9; outer_rows = 9; lists = room }

-- what a null slot holds
abbrev N : ℤ
N = minus 9223372036854775808

-- an accepted list answer: rows, elements, null rows, null elements; offsets, row bitmap, values, element bitmap
abbrev rows : List ℕ → List ℕ → List ℕ → List ℤ → List ℕ → End
rows n o r v e = operation_end (counts n) (map pos o ∷ v ∷ []) (r ∷ e ∷ [])

-- one valid row of n elements, none of them null: its values and element bitmap
abbrev one_row : ℕ → List ℕ → List ℕ → End
one_row n v e = rows (1 ∷ n ∷ 0 ∷ 0 ∷ []) (0 ∷ n ∷ []) (1 ∷ []) (map pos v) e

-- an accepted value answer: rows, null rows; values, bitmap
abbrev values : List ℕ → List ℤ → List ℕ → End
values n v b = operation_end (counts n) (v ∷ []) (b ∷ [])

-- list-repeat's: rows, elements, null rows, null elements, inner rows, null inner rows; outer offsets, inner offsets, values;
-- outer rows' bitmap, inner rows', elements'
abbrev repeats : List ℕ → List ℕ → List ℕ → List ℕ → List ℕ → List ℕ → List ℕ → End
repeats n oo io v ob ib e =
    operation_end (counts n) (map pos oo ∷ map pos io ∷ map pos v ∷ []) (ob ∷ ib ∷ e ∷ [])

-- a refused list operation, and a refused value operation: "a refused call has none" of the written results
abbrev refused_list : ℕ → End
refused_list k = operation_end (refusal k) ([] ∷ [] ∷ []) ([] ∷ [] ∷ [])

abbrev refused_value : ℕ → End
refused_value k = operation_end (refusal k) ([] ∷ []) ([] ∷ [])

-- a part of a case, with the code of its letter
pub record Case : Type 0 where
  pub letter : ℕ
  pub call : Call Column Arguments View
  pub ends : End

abbrev case : ℕ → Call Column Arguments View → End → Case
case x q e = record { letter = x; call = q; ends = e }

pub table : List Case
table =
    -- A: reverse [1,2,-], null, []: [-,2,1], null, []. First offset 1, numbers under the null row and element and behind the last
    -- offset, spare bits set.
    case 65 (list (unary Reverse (lists (1 ∷ 4 ∷ 6 ∷ 6 ∷ []) (253 ∷ []) (77 ∷ 1 ∷ 2 ∷ 99 ∷ 8 ∷ 8 ∷ 55 ∷ []) (246 ∷ []))) room)
    (rows (3 ∷ 3 ∷ 1 ∷ 1 ∷ []) (0 ∷ 3 ∷ 3 ∷ 3 ∷ []) (5 ∷ []) (N ∷ pos 2 ∷ pos 1 ∷ []) (6 ∷ []))
    -- B: distinct [3,-,3,-,1]: [3,-,1]. The nulls lie over 1 and 2, and a 9 behind the last offset.
    ∷ case 66 (list (unary Distinct (row 5 (3 ∷ 1 ∷ 3 ∷ 2 ∷ 1 ∷ 9 ∷ []) (53 ∷ []))) room)
    (rows (1 ∷ 3 ∷ 0 ∷ 1 ∷ []) (0 ∷ 3 ∷ []) (1 ∷ []) (pos 3 ∷ N ∷ pos 1 ∷ []) (5 ∷ []))
    -- C: union [2,1,2], [1,5,-]: [2,1,5,-]. The null lies over 6.
    ∷ case 67 (list (set_op_call Union (row 3 (2 ∷ 1 ∷ 2 ∷ []) []) (row 3 (1 ∷ 5 ∷ 6 ∷ []) (3 ∷ []))) room)
    (rows (1 ∷ 4 ∷ 0 ∷ 1 ∷ []) (0 ∷ 4 ∷ []) (1 ∷ []) (pos 2 ∷ pos 1 ∷ pos 5 ∷ N ∷ []) (7 ∷ []))
    -- D: intersect [1,2], [2,1]: [1,2]
    ∷ case 68 (list (set_op_call Intersect (row 2 (1 ∷ 2 ∷ []) []) (row 2 (2 ∷ 1 ∷ []) [])) room) (one_row 2 (1 ∷ 2 ∷ []) (3 ∷ []))
    -- E: intersect [1,2], [2,9,1]: [2,1]
    ∷ case 69 (list (set_op_call Intersect (row 2 (1 ∷ 2 ∷ []) []) (row 3 (2 ∷ 9 ∷ 1 ∷ []) [])) room) (one_row 2 (2 ∷ 1 ∷ []) (3 ∷ []))
    -- F: slice S 0 to 5: S
    ∷ case 70 (list (slice S (one (pos 0)) (one (pos 5)) absent) room) (one_row 4 (10 ∷ 20 ∷ 30 ∷ 40 ∷ []) (15 ∷ []))
    -- G: slice S −9 to −1: S
    ∷ case 71 (list (slice S (one (minus 9)) (one (minus 1)) absent) room) (one_row 4 (10 ∷ 20 ∷ 30 ∷ 40 ∷ []) (15 ∷ []))
    -- H: slice S 4 to 1 stride −2: [40,20]
    ∷ case 72 (list (slice S (one (pos 4)) (one (pos 1)) (given (one (minus 2)))) room) (one_row 2 (40 ∷ 20 ∷ []) (3 ∷ []))
    -- I: slice S 1 to 0 stride 0: []
    ∷ case 73 (list (slice S (one (pos 1)) (one (pos 0)) (given (one (pos 0)))) room) (one_row 0 [] [])
    -- J: slice S 1 to 2 stride 0: refusal 5
    ∷ case 74 (list (slice S (one (pos 1)) (one (pos 2)) (given (one (pos 0)))) room) (refused_list 5)
    -- K: element −4 of S: 10
    ∷ case 75 (element S (one (minus 4)) value_room) (values (1 ∷ 0 ∷ []) (pos 10 ∷ []) (1 ∷ []))
    -- K: 0: null
    ∷ case 75 (element S (one (pos 0)) value_room) (values (1 ∷ 1 ∷ []) (N ∷ []) (0 ∷ []))
    -- K: 2147483647 of []: null
    ∷ case 75 (element (row 0 (11 ∷ []) []) (one (pos 2147483647)) value_room) (values (1 ∷ 1 ∷ []) (N ∷ []) (0 ∷ []))
    -- K: 2147483648 of []: refusal 4
    ∷ case 75 (element (row 0 (11 ∷ []) []) (one (pos 2147483648)) value_room) (refused_value 4)
    -- L: resize [1,2] to 4, null fill: [1,2,-,-]. The fill lies over 6.
    ∷ case 76 (list (resize (row 2 (1 ∷ 2 ∷ []) []) (one (pos 4)) (given (null_over (pos 6)))) room)
    (rows (1 ∷ 4 ∷ 0 ∷ 2 ∷ []) (0 ∷ 4 ∷ []) (1 ∷ []) (pos 1 ∷ pos 2 ∷ N ∷ N ∷ []) (3 ∷ []))
    -- M: replace [-,7,-], null by 5, n 1: [5,7,-]. The nulls of the row lie over 3 and 4, the one to replace over 7.
    ∷ case 77 (list (replace (row 3 (3 ∷ 7 ∷ 4 ∷ []) (2 ∷ [])) (null_over (pos 7)) (one (pos 5)) (one (pos 1))) room)
    (rows (1 ∷ 3 ∷ 0 ∷ 1 ∷ []) (0 ∷ 3 ∷ []) (1 ∷ []) (pos 5 ∷ pos 7 ∷ N ∷ []) (3 ∷ []))
    -- N: remove 7 from [7,-,7,7], n 2: [-,7]. The null lies over 7.
    ∷ case 78 (list (remove (row 4 (7 ∷ 7 ∷ 7 ∷ 7 ∷ []) (13 ∷ [])) (one (pos 7)) (one (pos 2))) room)
    (rows (1 ∷ 2 ∷ 0 ∷ 1 ∷ []) (0 ∷ 2 ∷ []) (1 ∷ []) (N ∷ pos 7 ∷ []) (2 ∷ []))
    -- N: n −1: unchanged
    ∷ case 78 (list (remove (row 4 (7 ∷ 7 ∷ 7 ∷ 7 ∷ []) (13 ∷ [])) (one (pos 7)) (one (minus 1))) room)
    (rows (1 ∷ 4 ∷ 0 ∷ 1 ∷ []) (0 ∷ 4 ∷ []) (1 ∷ []) (pos 7 ∷ N ∷ pos 7 ∷ pos 7 ∷ []) (13 ∷ []))
    -- O: list-repeat of null over 8,8 and [4], counts 1, 2: [null], [[4],[4]]; outer offsets 0,1,3, inner 0,0,1,2
    ∷ case 79 (list_repeat (lists (0 ∷ 2 ∷ 3 ∷ []) (2 ∷ []) (8 ∷ 8 ∷ 4 ∷ []) []) (arguments (pos 1 ∷ pos 2 ∷ []) (from 0 [])) repeat_room)
    (repeats (2 ∷ 2 ∷ 0 ∷ 0 ∷ 3 ∷ 1 ∷ []) (0 ∷ 1 ∷ 3 ∷ []) (0 ∷ 0 ∷ 1 ∷ 2 ∷ []) (4 ∷ 4 ∷ []) (3 ∷ []) (6 ∷ []) (3 ∷ []))
    -- P: slice [10,20,30] 2 to 3 stride 2147483647: [20]
    ∷ case 80 (list (slice (row 3 (10 ∷ 20 ∷ 30 ∷ []) []) (one (pos 2)) (one (pos 3)) (given (one (pos 2147483647)))) room) (one_row 1 (20 ∷ []) (1 ∷ []))
    ∷ []

pub cases : map (λ (c : Case). end narrow c.call) table ≡ map (λ (c : Case). c.ends) table
unfolding table
    end answer_of written list_numbers list_bitmaps list_end value_end repeat_end list_outcome element_outcome repeat_outcome gate columns_refusal fitted fitted_values fitted_repeat after_three list_shown elements_made elements_refusal element_shown repeats_made repeat_shown
    tab any valid_at short_bits byte_of pack_n pack nulls count elem_at row_at rows_of shown_by falls bad_offsets refusal13 refusal13ᵃ refusal2 refusal2ᵃ
    is_val value_of is_row elems_of flat offsets_from is_outer inner_of inner
    eq_z same_elem is_in firsts unary_elems common set_elems resized replaced removed element_at
    fits from_place in_row from_bound to_place to_bound step_count against is_zero strided between slice_plan step_from sliced
    on_lent on_call lent_of lists_in arguments_in on_row on_rows planned stride_of slice_row fill_of resize_row replace_row remove_row made_of limit_of at_row rows_in row_by_row row_made rows_made element_of repeat_of
    differs_lent wrong_limit unequal first_of refusal_of row_count_of plus and_then sum_of sum_refusal resize_refusal union_refusal sums_refusal rows_refusal element_refusal total times_of repeated_by repeat_refusal
cases = refl
