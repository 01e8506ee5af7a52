-- That two runs agree, one claim about any call: "Take any two runs of one operation or one recipe .. they share one answer, however the
-- columns are laid out and whatever all bytes not shown hold .. each is exactly what the definitions give from those equal
-- things alone."
use mathlib.Core.Path.{◌≡◌, refl}
use lib.ListN.{length}
use Rattle.model.specs.Basics.{Lent}
use Rattle.model.specs.Limits.{Limits}
use Rattle.model.specs.Column.{Column, Arguments, rows_of, shown_by, EqualRows}
use Rattle.model.specs.View.{View, import_outcome, export_outcome}
use Rattle.model.specs.Hash.{Hashed, on_hashed, hashed_outcome}
use Rattle.model.specs.Rows.{ListCall, on_lent, on_call}
use Rattle.model.specs.Outcome.{list_outcome, any_value_outcome, element_outcome, repeat_outcome}
use Rattle.model.specs.Recipe.{recipe_shown, recipe_outcome}
use Rattle.model.specs.Window.{window_shown, window_outcome}
use Rattle.model.specs.Lengths.{list_lengths, any_value_lengths, element_lengths, repeat_lengths, recipe_limits, recipe_limits_shown}
use Rattle.model.specs.Call.{Call, list, any_value, element, list_repeat, recipe, measure_list, measure_any_value, measure_element, measure_repeat, limit_recipe, window, import_view, export_view, End, shown, lists_of, arguments_of, views_of, end, end_shown, Formed, SameLent, same_absent, same_given, SameCall, same_unary, same_set_op, same_slice, same_resize, same_replace, same_remove, Alike, alike_list, alike_any_value, alike_element, alike_list_repeat, alike_recipe, alike_measure_list, alike_measure_any_value, alike_measure_element, alike_measure_repeat, alike_limit_recipe, alike_window, alike_import, alike_export, grade_column, grade_recipe, alike_grade_column, alike_grade_recipe, hashed, SameHashed, same_distinct_of, same_set_of, alike_hashed}
use Rattle.model.specs.Grade.{grade_shown, grade_outcome}
use Rattle.model.specs.Run.{Run}
use Rattle.model.proofs.ColumnLaws.{same_rows, same_arguments, no_units}
use Rattle.model.proofs.OutcomeLaws.{formed-columns, gate_open}
use Rattle.model.proofs.RunLaws.{run_ends}
use Rattle.model.proofs.ViewLaws.{same_views, formed-view}

-- two alike calls show one thing
same_lent : {s s' : Lent Arguments} → SameLent s s' → on_lent shown_by s ≡ on_lent shown_by s'
unfolding on_lent
same_lent same_absent = refl
same_lent (same_given e) = cc (same_arguments e)

same_call : {q q' : ListCall Column Arguments} → SameCall q q' → on_call rows_of shown_by q ≡ on_call rows_of shown_by q'
unfolding on_call
same_call (same_unary k e) = cc (same_rows e)
same_call (same_set_op k e f) = cc (same_rows e, same_rows f)
same_call (same_slice e f g h) = cc (same_rows e, same_arguments f, same_arguments g, same_lent h)
same_call (same_resize e f h) = cc (same_rows e, same_arguments f, same_lent h)
same_call (same_replace e f g h) = cc (same_rows e, same_arguments f, same_arguments g, same_arguments h)
same_call (same_remove e f h) = cc (same_rows e, same_arguments f, same_arguments h)

same_hashed : {h h' : Hashed Column} → SameHashed h h' → on_hashed rows_of h ≡ on_hashed rows_of h'
unfolding on_hashed
same_hashed (same_distinct_of e) = cc (same_rows e)
same_hashed (same_set_of k e f) = cc (same_rows e, same_rows f)

same_shown : {q q' : Call Column Arguments View} → Alike q q' → shown q ≡ shown q'
unfolding shown
same_shown (alike_list l s) = cc (same_call s)
same_shown (alike_any_value l e) = cc (same_rows e)
same_shown (alike_element l e f) = cc (same_rows e, same_arguments f)
same_shown (alike_list_repeat l e f) = cc (same_rows e, same_arguments f)
same_shown (alike_recipe s p a b o t e f g) = cc (same_rows e, same_rows f, same_arguments g)
same_shown (alike_measure_list s) = cc (same_call s)
same_shown (alike_measure_any_value e) = cc (same_rows e)
same_shown (alike_measure_element e f) = cc (same_rows e, same_arguments f)
same_shown (alike_measure_repeat e f) = cc (same_rows e, same_arguments f)
same_shown (alike_limit_recipe p e f g) = cc (same_rows e, same_rows f, same_arguments g)
same_shown (alike_window p x y a b o e f g) = cc (same_rows e, same_rows f, same_arguments g)
same_shown (alike_import l e) = cc (same_views e)
same_shown (alike_export l e) = cc (same_rows e)
same_shown (alike_grade_column k g e) = cc (same_rows e)
same_shown (alike_grade_recipe k s p a b o g t e f h) = cc (same_rows e, same_rows f, same_arguments h)
same_shown (alike_hashed n l s) = cc (same_hashed s)

-- a call on well-formed columns ends in what they show
from-shown : (L : Limits) (q : Call Column Arguments View) → Formed q → end L q ≡ end_shown L (shown q)
unfolding end end_shown shown lists_of arguments_of views_of import_outcome export_outcome list_outcome any_value_outcome element_outcome repeat_outcome recipe_outcome recipe_shown list_lengths any_value_lengths element_lengths repeat_lengths recipe_limits recipe_limits_shown window_outcome window_shown grade_outcome grade_shown hashed_outcome
from-shown L (list q l) f = rw (gate_open _ _ (formed-columns f.lists f.arguments))
from-shown L (any_value c l) f = rw (gate_open _ _ (formed-columns f.lists f.arguments))
from-shown L (element c a l) f = rw (gate_open _ _ (formed-columns f.lists f.arguments))
from-shown L (list_repeat c a l) f = rw (gate_open _ _ (formed-columns f.lists f.arguments))
from-shown L (recipe s p c d e a b o t) f = rw (gate_open _ _ (formed-columns f.lists f.arguments))
from-shown L (measure_list q) f = rw (gate_open _ _ (formed-columns f.lists f.arguments))
from-shown L (measure_any_value c) f = rw (gate_open _ _ (formed-columns f.lists f.arguments))
from-shown L (measure_element c a) f = rw (gate_open _ _ (formed-columns f.lists f.arguments))
from-shown L (measure_repeat c a) f = rw (gate_open _ _ (formed-columns f.lists f.arguments))
from-shown L (limit_recipe p c d e) f = rw (gate_open _ _ (formed-columns f.lists f.arguments))
from-shown L (window p x y c d e a b o) f = rw (gate_open _ _ (formed-columns f.lists f.arguments))
from-shown L (import_view v l) f = rw (gate_open _ _ (formed-view f.views))
from-shown L (export_view c l) f = rw (gate_open _ _ (formed-columns f.lists f.arguments))
from-shown L (grade_column k c g) f = rw (gate_open _ _ (formed-columns f.lists f.arguments))
from-shown L (grade_recipe k s p c d e a b o g t) f = rw (gate_open _ _ (formed-columns f.lists f.arguments))
from-shown L (hashed h n l) f = rw (gate_open _ _ (formed-columns f.lists f.arguments))

-- what is claimed of two calls that are alike, the first of which ends in e and the second in e'
pub record Agree (L : Limits) (q q' : Call Column Arguments View) (e e' : End) : Type 0 where
  -- "The refusal number or all counts are the same, the written results are equal, and so is the tally after"
  pub shares : e ≡ e'
  -- "each is exactly what the definitions give from those equal things alone"
  pub exact : e ≡ end_shown L (shown q)
  -- and those things, what is shown of the two calls, are equal
  pub shows : shown q ≡ shown q'

-- the claim over the definitions, for every call
pub agreement : (L : Limits) (q q' : Call Column Arguments View) → Formed q → Formed q' → Alike q q' → Agree L q q' (end L q) (end L q')
agreement L q q' f f' a = record { shares = cc (from-shown L q f, from-shown L q' f', same_shown a); exact = from-shown L q f; shows = same_shown a }

-- the claim over runs of the code: a run is what the contract of a public function says of its answer and slices
pub runs_agree : (L : Limits) {q q' : Call Column Arguments View} {e e' : End} → Run L q e → Run L q' e' → Formed q → Formed q' → Alike q q' → Agree L q q' e e'
runs_agree L {q} {q'} r r' f f' a = rw (run_ends L r, run_ends L r') (agreement L q q' f f' a)

-- "It shows the same rows as a zero-row column with one offset, for two runs too.": any call that takes a list at some place (K, in
-- which lists that show equal rows make alike calls), with no offsets there or one
pub no_units_agree : (L : Limits) (K : Column → Call Column Arguments View) → ((c d : Column) → EqualRows c d → Alike (K c) (K d)) → (c d : Column) → length c.offsets ≡ 0 → length d.offsets ≡ 1 → (e e' : End) → Run L (K c) e → Run L (K d) e' → Formed (K c) → Formed (K d) → Agree L (K c) (K d) e e'
no_units_agree L K same c d g h e e' r r' f f' = runs_agree L r r' f f' (same c d (no_units c d g h))
