-- The code's answer to how much to lend, told as a call's answer is: what a contract says of it makes the call a run (Run).
use mathlib.Core.Path.{◌≡◌, refl, sym, ap, ◌∙◌}
use Rattle.std.specs.Prelude.{Ok, Err}
use Rattle.model.specs.Asked.{asked_list, asked_values, asked_repeat, asked_recipe}
use Rattle.model.specs.Call.{answer_of, room_counts, value_room_counts, repeat_room_counts, limit_counts}
use Rattle.model.specs.Contract.{told_lengths, told_value_lengths, told_repeat_lengths, told_limits, ListMeasures, ValueMeasures, RepeatMeasures, RecipeLimited}
use Rattle.model.specs.Form.{Room, ValueRoom, RepeatRoom}
use Rattle.model.specs.Lengths.{TrayLimits}
use Rattle.model.specs.Outcome.{Outcome}
use Rattle.model.specs.Answers.{ListLengths, ValueLengths, RepeatLengths, RecipeLimits}

list-told : (a : ListLengths) → told_lengths a ≡ answer_of room_counts (asked_list a)
unfolding told_lengths answer_of asked_list
list-told (Ok c) = refl
list-told (Err k) = refl

values-told : (a : ValueLengths) → told_value_lengths a ≡ answer_of value_room_counts (asked_values a)
unfolding told_value_lengths answer_of asked_values
values-told (Ok c) = refl
values-told (Err k) = refl

repeat_told : (a : RepeatLengths) → told_repeat_lengths a ≡ answer_of repeat_room_counts (asked_repeat a)
unfolding told_repeat_lengths answer_of asked_repeat
repeat_told (Ok c) = refl
repeat_told (Err k) = refl

limits-told : (a : RecipeLimits) → told_limits a ≡ answer_of limit_counts (asked_recipe a)
unfolding told_limits answer_of asked_recipe
limits-told (Ok c) = refl
limits-told (Err k) = refl

pub list_measures : {x : Outcome Room} {a : ListLengths} → asked_list a ≡ x → ListMeasures x a
list_measures {a = a} h = record { answer = list-told a ∙ ap (answer_of room_counts) h }

pub value_measures : {x : Outcome ValueRoom} {a : ValueLengths} → asked_values a ≡ x → ValueMeasures x a
value_measures {a = a} h = record { answer = values-told a ∙ ap (answer_of value_room_counts) h }

pub repeat_measures : {x : Outcome RepeatRoom} {a : RepeatLengths} → asked_repeat a ≡ x → RepeatMeasures x a
repeat_measures {a = a} h = record { answer = repeat_told a ∙ ap (answer_of repeat_room_counts) h }

pub recipe_limited : {x : Outcome TrayLimits} {a : RecipeLimits} → asked_recipe a ≡ x → RecipeLimited x a
recipe_limited {a = a} h = record { answer = limits-told a ∙ ap (answer_of limit_counts) h }
