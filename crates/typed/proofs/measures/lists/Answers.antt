-- What union or intersect needs; or 100.
use borrow.Author.Tests.{lt-ltb, le-ltb}
use Rattle.model.specs.Call.{room_counts}
use Rattle.entry_codes.proofs.CallLaws.{no_set-lengths, set-lengths}
use Rattle.typed.proofs.LengthLaws.{no_such_lengths, short_lengths, own_lengths}
use Rattle.typed.proofs.measures.lists.Goals as goal

pub returns-in_default : goal.returns-in_default
returns-in_default g c = no_such_lengths room_counts _ (no_set-lengths _ _ _ _ c.set_of-named.ensures c.in_default.is)

pub returns-then-lengths-lt4 : goal.returns-then-lengths-lt4
returns-then-lengths-lt4 g c = short_lengths room_counts _ (set-lengths _ _ _ _ c.set_of-named.ensures c.in-Some.is) (lt-ltb _ 4 c.if-lengths-lt4.true)

pub returns : goal.returns
returns g c =
    own_lengths room_counts _ (set-lengths _ _ _ _ c.set_of-named.ensures c.in-Some.is) (le-ltb _ 4 c.if-lengths-lt4.false) c.generic_set_lists_lengths-answer.ensures c.put_list.ensures
