-- How much to lend: the lengths that each operation needs, and a recipe's limits.
use Rattle.std.specs.Prelude.{ℕ, ◌+◌, ◌≤◌, ◌<◌, min, max, ◌≡◌, Bool, true, ◌&&◌, List, [], ◌∷◌, map, length, get_or, leb}
use Rattle.model.specs.Basics.{pick, tab, Lent, absent, given}
use Rattle.model.specs.Limits.{Limits}
use Rattle.model.specs.Bitmap.{bytes_for}
use Rattle.model.specs.Column.{Elem, Row, null_row, list_row, Column, Arguments, offset_at, rows_of, shown_by}
use Rattle.model.specs.Form.{Room, ValueRoom, RepeatRoom, Outer, flat, inner}
use Rattle.model.specs.Rows.{ListCall, unary, set_op_call, slice, resize, replace, remove, on_call, lists_in, arguments_in, rows_made, argument_of, any_value_of}
use Rattle.model.specs.Refusals.{differs, unequal, rows_refusal, total, times_of, repeat_refusal}
use Rattle.model.specs.Outcome.{Outcome, made, gate, columns_refusal, elements_made, elements_refusal, repeats_made}
use Rattle.model.specs.Recipe.{Step, Recipe, steps_of, column_of, code_call, malformed, recipe_unequal}
use Rattle.model.specs.declared.SetOp.TheVariants.{Union, Intersect}

-- ---- "the exact slice lengths each operation needs"

-- result form's lengths, of so many rows and elements
abbrev pub room_for : ℕ → ℕ → Room
room_for rows elems = record { offsets = rows + 1; rows = bytes_for rows; values = elems; elements = bytes_for elems }

abbrev pub value_room_for : ℕ → ValueRoom
value_room_for rows = record { values = rows; rows = bytes_for rows }

-- what is made needs these: rows, one value a row, and outer rows
abbrev pub room_of_rows : List Row → Room
room_of_rows ws = room_for (length ws) (length (flat ws))

abbrev pub room_of_values : List Elem → ValueRoom
room_of_values es = value_room_for (length es)

abbrev pub room_of_outer : List Outer → RepeatRoom
room_of_outer os = record { outer-offsets = length os + 1; outer_rows = bytes_for (length os); lists = room_of_rows (inner os) }

-- is as much lent as is needed, in every slice: the first is needed, the second lent
abbrev pub holds : Room → Room → Bool
holds n l = leb n.offsets l.offsets && leb n.rows l.rows && leb n.values l.values && leb n.elements l.elements

abbrev pub holds_values : ValueRoom → ValueRoom → Bool
holds_values n l = leb n.values l.values && leb n.rows l.rows

abbrev pub holds_repeat : RepeatRoom → RepeatRoom → Bool
holds_repeat n l = leb n.outer-offsets l.outer-offsets && leb n.outer_rows l.outer_rows && holds n.lists l.lists

-- "with the refusals it would give before 9": each operation as it runs, and where it would come to 9 or its result, that result's lengths
unfoldable pub list_lengths_shown : Limits → ListCall (List Row) (List Elem) → Outcome Room
list_lengths_shown L q = gate (pick (unequal q) 3 0) (gate (rows_refusal L q) (made (room_of_rows (rows_made L q))))

unfoldable pub any_value_lengths_shown : List Row → Outcome ValueRoom
any_value_lengths_shown ws = made (room_of_values (map any_value_of ws))

unfoldable pub element_lengths_shown : Limits → List Row → List Elem → Outcome ValueRoom
element_lengths_shown L ws is = gate (pick (differs (length ws) is) 3 0) (gate (elements_refusal L ws is) (made (room_of_values (elements_made ws is))))

unfoldable pub repeat_lengths_shown : Limits → List Row → List Elem → Outcome RepeatRoom
repeat_lengths_shown L ws ns = gate (pick (differs (length ws) ns) 3 0) (gate (repeat_refusal L ws ns) (made (room_of_outer (repeats_made ws ns))))

-- on the columns lent
unfoldable pub list_lengths : Limits → ListCall Column Arguments → Outcome Room
list_lengths L q = gate (columns_refusal (lists_in q) (arguments_in q)) (list_lengths_shown L (on_call rows_of shown_by q))

unfoldable pub any_value_lengths : Column → Outcome ValueRoom
any_value_lengths c = gate (columns_refusal (c ∷ []) []) (any_value_lengths_shown (rows_of c))

unfoldable pub element_lengths : Limits → Column → Arguments → Outcome ValueRoom
element_lengths L c a = gate (columns_refusal (c ∷ []) (a ∷ [])) (element_lengths_shown L (rows_of c) (shown_by a))

unfoldable pub repeat_lengths : Limits → Column → Arguments → Outcome RepeatRoom
repeat_lengths L c a = gate (columns_refusal (c ∷ []) (a ∷ [])) (repeat_lengths_shown L (rows_of c) (shown_by a))

-- ---- "For a recipe give an upper limit on the elements in each tray and the output, from row lengths, validity and arguments alone"

-- a row's validity and length, and nothing of its elements: a null row has no length
unfoldable pub length_if : Row → Lent ℕ
length_if null_row = absent
length_if (list_row es) = given (length es)

unfoldable pub or_zero : Lent ℕ → ℕ
or_zero absent = 0
or_zero (given n) = n

-- the shown elements of rows of these lengths
unfoldable pub shown_in : List (Lent ℕ) → ℕ
shown_in ns = total (map or_zero ns)

-- "its valid counts above zero over rows valid in the first list": one row's, from its length there and its count
unfoldable pub count_over : Lent ℕ → Elem → ℕ
count_over absent n = 0
count_over (given m) n = times_of n

unfoldable pub counts_over : List (Lent ℕ) → List Elem → ℕ
counts_over fs ns = total (tab (λ r. count_over (get_or fs r absent) (argument_of ns r)) 0 (length fs))

-- "resize by the sum of its valid counts above zero over rows valid in the first list, union by adding the second list's shown elements, other
-- steps by what came in": of an operation on a list of at most so many elements; fs are the first list's rows
unfoldable pub call_limit : List (Lent ℕ) → ListCall ℕ (List Elem) → ℕ
call_limit fs (unary k n) = n
call_limit fs (set_op_call Union n m) = n + m
call_limit fs (set_op_call Intersect n m) = n
call_limit fs (slice n f t s) = n
call_limit fs (resize n c v) = counts_over fs c
call_limit fs (replace n f t k) = n
call_limit fs (remove n f k) = n

-- "a limit stops at the largest offset"
unfoldable pub capped : Limits → ℕ → ℕ
capped L n = min L.offset n

-- a step's limit, where n is the limit of what came in; rs are the second list's rows
unfoldable pub step_limit : Limits → List (Lent ℕ) → List (Lent ℕ) → List Elem → Step → ℕ → ℕ
step_limit L fs rs es s n =
    capped L
    (call_limit fs (code_call s.code n (shown_in rs) (column_of es (length rs) s.first) (column_of es (length rs) s.second) (column_of es (length rs) s.third)))

-- the limits of tray one, tray two and the output
pub record TrayLimits : Type 0 where
  pub one : ℕ
  pub two : ℕ
  pub output : ℕ

abbrev pub tray_limits : ℕ → ℕ → ℕ → TrayLimits
tray_limits a b o = record { one = a; two = b; output = o }

-- "Steps 1, 3, 5.. write tray one, 2, 4, 6.. tray two, the last the output": each is the greatest of the steps that write it, and 0 where
-- none does. s writes tray one unless it is the last, and to the steps after it the trays change places.
unfoldable pub steps_limits : Limits → List (Lent ℕ) → List (Lent ℕ) → List Elem → Step → List Step → ℕ → TrayLimits
steps_limits L fs rs es s [] n = tray_limits 0 0 (step_limit L fs rs es s n)
steps_limits L fs rs es s (t ∷ ts) n =
    let m = step_limit L fs rs es s n in
    let later = steps_limits L fs rs es t ts m in
    tray_limits (max m later.two) later.one later.output

-- what comes in first are the first list's shown elements, which a recipe of no steps copies into the output
unfoldable pub limits_of : Limits → List (Lent ℕ) → List (Lent ℕ) → List Elem → List Step → TrayLimits
limits_of L fs rs es [] = tray_limits 0 0 (capped L (shown_in fs))
limits_of L fs rs es (s ∷ ss) = steps_limits L fs rs es s ss (capped L (shown_in fs))

-- "The limits give 10, 1, 2 or 3 as the run would, and move no tally.", and 13, which the limits give too. They name no station.
unfoldable pub formed_limits : Limits → Recipe → List Row → List Row → List Elem → Outcome TrayLimits
formed_limits L p ws rs es =
    gate (pick (recipe_unequal p.columns ws rs es) 3 0) (made (limits_of L (map length_if ws) (map length_if rs) es (steps_of p.numbers)))

unfoldable pub recipe_limits_shown : Limits → Recipe → List Row → List Row → List Elem → Outcome TrayLimits
recipe_limits_shown L p ws rs es = gate (pick (malformed p) 10 0) (formed_limits L p ws rs es)

unfoldable pub recipe_limits : Limits → Recipe → Column → Column → Arguments → Outcome TrayLimits
recipe_limits L p c d e =
    gate (pick (malformed p) 10 0) (gate (columns_refusal (c ∷ d ∷ []) (e ∷ [])) (formed_limits L p (rows_of c) (rows_of d) (shown_by e)))

-- ---- "Lending that much, with offsets and bitmaps to match, rules out 9."

-- what is lent to a recipe of so many steps on so many rows is that much; a tray counts only where a step writes it
pub record LentEnough (steps rows : ℕ) (m : TrayLimits) (a b o : Room) : Type 0 where
  pub one : 1 < steps → holds (room_for rows m.one) a ≡ true
  pub two : 2 < steps → holds (room_for rows m.two) b ≡ true
  pub output : holds (room_for rows m.output) o ≡ true

-- the width's 8s stand at or below its largest offset, where limits stop
pub record EightsWithin (L : Limits) : Type 0 where
  pub resized : L.resized ≤ L.offset
  pub united : L.united ≤ L.offset

-- a column's offsets are of the width, as those of every slice of it are
abbrev pub OffsetsFit : Limits → Column → Type 0
OffsetsFit L c = (r : ℕ) → offset_at c.offsets r ≤ L.offset
