-- What list-repeat needs; or 100.
use mathlib.Core.Path.{refl}
use borrow.Author.Tests.{lt-ltb, le-ltb}
use Rattle.model.specs.Call.{repeat_room_counts}
use Rattle.typed.proofs.LengthLaws.{short_lengths, own_lengths}
use Rattle.typed.proofs.measures.list_repeat.Goals as goal

pub returns-then-lengths-lt6 : goal.returns-then-lengths-lt6
returns-then-lengths-lt6 g c = short_lengths repeat_room_counts _ refl (lt-ltb _ 6 c.if-lengths-lt6.true)

pub returns : goal.returns
returns g c = own_lengths repeat_room_counts _ refl (le-ltb _ 6 c.if-lengths-lt6.false) c.general_list_repeat_lengths-answer.ensures c.put_repeat.ensures
