use Rattle.kept_elements.proofs.KeepLaws.{keeps_old, keeps_shared, keeps_new}
use Rattle.kept_elements.proofs.set_ops.is_kept.Goals as goal

pub returns-then-is_among : goal.returns-then-is_among
returns-then-is_among c = keeps_old c.args.shared _ _ _ c.is_among.ensures c.if-is_among.true

pub returns-then-shared : goal.returns-then-shared
returns-then-shared c = keeps_shared c.args.shared _ _ _ c.is_among.ensures c.if-is_among.false c.is_among-found.ensures c.if-shared.true

pub returns-else-shared : goal.returns-else-shared
returns-else-shared c = keeps_new c.args.shared _ _ _ c.is_among.ensures c.if-is_among.false c.is_among-found.ensures c.if-shared.false
