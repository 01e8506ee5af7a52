-- What the operation that the code names needs; or 100.
use borrow.Author.Tests.{lt-ltb, le-ltb}
use Rattle.model.specs.Call.{room_counts}
use Rattle.entry_codes.proofs.CallLaws.{no_list-lengths, list-lengths}
use Rattle.typed.proofs.LengthLaws.{no_such_lengths, short_lengths, own_lengths}
use Rattle.typed.proofs.measures.list.Goals as goal

pub returns-in_default : goal.returns-in_default
returns-in_default g c = no_such_lengths room_counts _ (no_list-lengths _ _ _ _ _ _ c.one_of-named.ensures c.in_default.is)

pub returns-then-lengths-lt4 : goal.returns-then-lengths-lt4
returns-then-lengths-lt4 g c = short_lengths room_counts _ (list-lengths _ _ _ _ _ _ c.one_of-named.ensures c.in-Some.is) (lt-ltb _ 4 c.if-lengths-lt4.true)

pub returns : goal.returns
returns g c =
    own_lengths room_counts _ (list-lengths _ _ _ _ _ _ c.one_of-named.ensures c.in-Some.is) (le-ltb _ 4 c.if-lengths-lt4.false) c.lengths-answer.ensures c.put_list.ensures
