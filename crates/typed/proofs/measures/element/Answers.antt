-- What element needs; or 100.
use mathlib.Core.Path.{refl}
use borrow.Author.Tests.{lt-ltb, le-ltb}
use Rattle.model.specs.Call.{value_room_counts}
use Rattle.typed.proofs.LengthLaws.{short_lengths, own_lengths}
use Rattle.typed.proofs.measures.element.Goals as goal

pub returns-then-lengths-lt2 : goal.returns-then-lengths-lt2
returns-then-lengths-lt2 g c = short_lengths value_room_counts _ refl (lt-ltb _ 2 c.if-lengths-lt2.true)

pub returns : goal.returns
returns g c = own_lengths value_room_counts _ refl (le-ltb _ 2 c.if-lengths-lt2.false) c.general_array_element_lengths-answer.ensures c.put_values.ensures
