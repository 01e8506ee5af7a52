-- 100, or the answer told.
use borrow.Author.Tests.{lt-ltb, le-ltb}
use Rattle.typed.proofs.RecipeLaws.{short-told, long-told}
use Rattle.typed.proofs.windowed.settle.Goals as goal
use Rattle.typed.proofs.windowed.settle.Reads as reads
use Rattle.typed.proofs.windowed.settle.Lts as lts
use Rattle.typed.proofs.put_list.Reads as put-list-reads

-- src/windows.rt:35:9
pub returns-then-counts-lt4 : goal.returns-then-counts-lt4
returns-then-counts-lt4 c = short-told _ _ (lt-ltb _ 4 c.if-counts-lt4.true)

-- src/windows.rt:37:5
-- src/windows.rt:31:1
-- src/windows.rt:31:1
pub returns : goal.returns
returns c = long-told _ _ (le-ltb _ 4 c.if-counts-lt4.false) c.put_list.ensures
