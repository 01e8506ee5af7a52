-- The answers of the code to how much to lend, as the definitions give them.
use Rattle.std.specs.Prelude.{Ok, Err}
use Rattle.model.specs.Form.{Room, ValueRoom, RepeatRoom}
use Rattle.model.specs.Contract.{room, value_room, repeat_room}
use Rattle.model.specs.Lengths.{TrayLimits, tray_limits}
use Rattle.model.specs.Outcome.{Outcome, refused, made}
use Rattle.model.specs.Answers.{number_of, ListLengths, ValueLengths, RepeatLengths, RecipeLimits}

unfoldable pub asked_list : ListLengths → Outcome Room
asked_list (Ok l) = made (room l.offsets l.rows l.values l.elements)
asked_list (Err k) = refused (number_of k)

unfoldable pub asked_values : ValueLengths → Outcome ValueRoom
asked_values (Ok l) = made (value_room l.values l.rows)
asked_values (Err k) = refused (number_of k)

unfoldable pub asked_repeat : RepeatLengths → Outcome RepeatRoom
asked_repeat (Ok l) = made (repeat_room l.offsets l.rows l.inner_offsets l.inner_rows l.values l.elements)
asked_repeat (Err k) = refused (number_of k)

unfoldable pub asked_recipe : RecipeLimits → Outcome TrayLimits
asked_recipe (Ok l) = made (tray_limits l.one l.two l.output)
asked_recipe (Err k) = refused (number_of k)
