-- How much to lend by examples, one theorem over a table: calls that ask how much to lend, and what they answer.
use Prim.Native.Nat.{ℕ}
use mathlib.Core.Path.{◌≡◌, refl}
use mathlib.Core.List.{List, [], ◌∷◌, map}
use lib.IntN.{ℤ, pos}
use Rattle.model.specs.Basics.{tab, any, given}
use Rattle.model.specs.Limits.{narrow}
use Rattle.model.specs.Bitmap.{from, valid_at, short_bits}
use Rattle.model.specs.Column.{Column, Arguments, arguments, count, elem_at, row_at, rows_of, shown_by, falls, bad_offsets, refusal13, refusal13ᵃ, refusal2, refusal2ᵃ}
use Rattle.model.specs.View.{View}
use Rattle.model.specs.Form.{elems_of, flat, inner_of, inner}
use Rattle.model.specs.Elements.{unary_elems}
use Rattle.model.specs.Slice.{fits, from_place, in_row, from_bound, to_place, to_bound, is_zero, strided, between, slice_plan}
use Rattle.model.specs.Rows.{unary, slice, on_lent, on_call, lent_of, lists_in, arguments_in, on_row, planned, stride_of, slice_row, made_of, at_row, rows_in, row_by_row, row_made, rows_made, any_value_of, element_of, repeat_of}
use Rattle.model.specs.Refusals.{differs_lent, unequal, first_of, refusal_of, sums_refusal, rows_refusal, element_refusal, total, times_of, repeated_by, repeat_refusal}
use Rattle.model.specs.Outcome.{gate, columns_refusal, elements_made, elements_refusal, repeats_made}
use Rattle.model.specs.Recipe.{steps_of, columns_of, wrong_number, wrong_step, malformed, code_call, recipe_unequal}
use Rattle.model.specs.Lengths.{list_lengths_shown, any_value_lengths_shown, element_lengths_shown, repeat_lengths_shown, list_lengths, any_value_lengths, element_lengths, repeat_lengths, length_if, or_zero, shown_in, count_over, counts_over, call_limit, capped, step_limit, steps_limits, limits_of, formed_limits, recipe_limits_shown, recipe_limits}
use Rattle.model.specs.Call.{Call, measure_list, measure_any_value, measure_element, measure_repeat, limit_recipe, Answer, refusal, counts, answer_of, end}
use Rattle.model.specs.declared.Unary.TheVariants.{Reverse}
use Rattle.model.proofs.Cases.{lists, row, S, one, minus}

pub record Lending : Type 0 where
  pub call : Call Column Arguments View
  pub answers : Answer

abbrev lends : Call Column Arguments View → List ℕ → Lending
lends q ns = record { call = q; answers = counts ns }

abbrev refuses : Call Column Arguments View → ℕ → Lending
refuses q k = record { call = q; answers = refusal k }

-- a recipe's limits: its numbers, the argument columns lent, the two lists and the arguments; tray one, tray two and the output
abbrev limits : List ℕ → ℕ → Column → Column → List ℤ → List ℕ → Call Column Arguments View
limits ns k c d vs bs = limit_recipe (record { numbers = ns; columns = k }) c d (arguments vs (from 0 bs))

-- [1,2], null, []: the null row lies over 8, 8
abbrev three : Column
three = lists (0 ∷ 2 ∷ 4 ∷ 4 ∷ []) (5 ∷ []) (1 ∷ 2 ∷ 8 ∷ 8 ∷ []) []

-- [7], [7,7], null: the null row lies over 9
abbrev others : Column
others = lists (0 ∷ 1 ∷ 3 ∷ 4 ∷ []) (3 ∷ []) (7 ∷ 7 ∷ 7 ∷ 9 ∷ []) []

-- [1], [2]
abbrev two : Column
two = lists (0 ∷ 1 ∷ 2 ∷ []) [] (1 ∷ 2 ∷ []) []

pub table : List Lending
table =
    -- a recipe's limits. One resize to 3 of [1,2]: the 3 takes the place of the 2
    lends (limits (6 ∷ 0 ∷ 1 ∷ 0 ∷ []) 2 (row 2 (1 ∷ 2 ∷ []) []) (row 0 [] []) (pos 3 ∷ pos 9 ∷ []) []) (0 ∷ 0 ∷ 3 ∷ [])
    -- counts 3, 4, −1 over [1,2], null, []: the 4 stands at a null row and the −1 below zero
    ∷ lends (limits (6 ∷ 0 ∷ 0 ∷ 0 ∷ []) 1 three three (pos 3 ∷ pos 4 ∷ minus 1 ∷ []) []) (0 ∷ 0 ∷ 3 ∷ [])
    -- a null count, over 4
    ∷ lends (limits (6 ∷ 0 ∷ 0 ∷ 0 ∷ []) 1 two two (pos 3 ∷ pos 4 ∷ []) (1 ∷ [])) (0 ∷ 0 ∷ 3 ∷ [])
    -- union adds the second list's shown elements, also those beside a row null in the first
    ∷ lends (limits (9 ∷ 0 ∷ 0 ∷ 0 ∷ []) 0 three others [] []) (0 ∷ 0 ∷ 5 ∷ [])
    -- no steps: the first list's shown elements, and not the values of its null row
    ∷ lends (limits [] 0 three others [] []) (0 ∷ 0 ∷ 2 ∷ [])
    -- other steps keep what came in; two steps: the first writes tray one
    ∷ lends (limits (0 ∷ 0 ∷ 0 ∷ 0 ∷ 10 ∷ 0 ∷ 0 ∷ 0 ∷ []) 0 three others [] []) (2 ∷ 0 ∷ 2 ∷ [])
    -- resize to 5 and 6, then resize to 1 and 2: 11 for tray one, 3 for the output
    ∷ lends (limits (6 ∷ 0 ∷ 0 ∷ 0 ∷ 6 ∷ 1 ∷ 1 ∷ 0 ∷ []) 2 two two (pos 5 ∷ pos 6 ∷ pos 1 ∷ pos 2 ∷ []) []) (11 ∷ 0 ∷ 3 ∷ [])
    -- five steps, 11, 3, 5, 7 and 9: tray one takes the greater of 11 and 5, tray two that of 3 and 7
    ∷ lends (limits (6 ∷ 0 ∷ 0 ∷ 0 ∷ 6 ∷ 1 ∷ 1 ∷ 0 ∷ 9 ∷ 0 ∷ 0 ∷ 0 ∷ 9 ∷ 0 ∷ 0 ∷ 0 ∷ 9 ∷ 0 ∷ 0 ∷ 0 ∷ []) 2 two two (pos 5 ∷ pos 6 ∷ pos 1 ∷ pos 2 ∷ []) []) (11 ∷ 7 ∷ 9 ∷ [])
    -- by rows valid in the first list, and not by those carried: the first step's null count makes row 1 null, the second step's 4 still counts
    ∷ lends (limits (6 ∷ 0 ∷ 0 ∷ 0 ∷ 6 ∷ 1 ∷ 1 ∷ 0 ∷ []) 2 two two (pos 2 ∷ pos 9 ∷ pos 3 ∷ pos 4 ∷ []) (13 ∷ [])) (2 ∷ 0 ∷ 7 ∷ [])
    -- a limit stops at the largest offset: counts of 2147483647 and 1, and then union's 2 more
    ∷ lends (limits (6 ∷ 0 ∷ 0 ∷ 0 ∷ 9 ∷ 0 ∷ 0 ∷ 0 ∷ []) 1 two two (pos 2147483647 ∷ pos 1 ∷ []) []) (2147483647 ∷ 0 ∷ 2147483647 ∷ [])
    -- 10 before all else, 13 before 1, 1 before 2, 2 before 3, and 3
    ∷ refuses (limits (6 ∷ []) 0 (lists (1 ∷ 0 ∷ []) [] [] []) two [] []) 10
    ∷ refuses (limit_recipe (record { numbers = []; columns = 0 }) (lists (1 ∷ 0 ∷ []) [] [] []) two (arguments [] (from 8 []))) 13
    ∷ refuses (limits [] 0 three (lists (1 ∷ 0 ∷ []) [] [] []) (pos 1 ∷ []) []) 1
    ∷ refuses (limits [] 0 two (lists (0 ∷ 1 ∷ []) [] (1 ∷ 1 ∷ 1 ∷ 1 ∷ 1 ∷ 1 ∷ 1 ∷ 1 ∷ 1 ∷ []) (255 ∷ [])) [] []) 2
    ∷ refuses (limits [] 0 two three [] []) 3
    ∷ refuses (limits [] 1 two two (pos 1 ∷ []) []) 3
    -- what an operation needs: offsets, row bitmap, values, element bitmap. Reverse of [1,2], null, []
    ∷ lends (measure_list (unary Reverse three)) (4 ∷ 1 ∷ 2 ∷ 1 ∷ [])
    -- of no rows: one offset
    ∷ lends (measure_list (unary Reverse (lists [] [] [] []))) (1 ∷ 0 ∷ 0 ∷ 0 ∷ [])
    -- slice of [10,20,30,40] from 1 to 2 by stride 0: the run's 5
    ∷ refuses (measure_list (slice S (one (pos 1)) (one (pos 2)) (given (one (pos 0))))) 5
    -- one value a row
    ∷ lends (measure_any_value three) (3 ∷ 1 ∷ [])
    ∷ lends (measure_element S (one (minus 4))) (1 ∷ 1 ∷ [])
    ∷ refuses (measure_element S (one (pos 2147483648))) 4
    -- list-repeat of [1,2], null, [] by 2, 3 and 0: outer offsets and bitmap, inner ones, values and element bitmap
    ∷ lends (measure_repeat three (arguments (pos 2 ∷ pos 3 ∷ pos 0 ∷ []) (from 0 []))) (4 ∷ 1 ∷ 6 ∷ 1 ∷ 4 ∷ 1 ∷ [])
    ∷ []

pub lendings : map (λ (x : Lending). (end narrow x.call).answer) table ≡ map (λ (x : Lending). x.answers) table
unfolding table
    end answer_of gate columns_refusal list_lengths any_value_lengths element_lengths repeat_lengths recipe_limits list_lengths_shown any_value_lengths_shown element_lengths_shown repeat_lengths_shown formed_limits recipe_limits_shown
    length_if or_zero shown_in count_over counts_over call_limit capped step_limit steps_limits limits_of
    steps_of columns_of wrong_number wrong_step malformed code_call recipe_unequal
    tab any valid_at short_bits count elem_at row_at rows_of shown_by falls bad_offsets refusal13 refusal13ᵃ refusal2 refusal2ᵃ elems_of flat inner_of inner
    unary_elems fits from_place in_row from_bound to_place to_bound is_zero strided between slice_plan
    on_lent on_call lent_of lists_in arguments_in on_row planned stride_of slice_row made_of at_row rows_in row_by_row row_made rows_made any_value_of element_of repeat_of
    differs_lent unequal first_of refusal_of sums_refusal rows_refusal element_refusal total times_of repeated_by repeat_refusal elements_made elements_refusal repeats_made
lendings = refl
