use mathlib.Core.Path.{sym, ◌∙◌}
use Rattle.bitmap.specs.Reads.{bits_in}
use Rattle.model.proofs.SignedLaws.{back64}
use Rattle.arguments.proofs.TakenLaws.{cell_valid, cell_null}
use Rattle.arguments.proofs.taken.cell_at.Goals as goal

pub returns-then-is_valid : goal.returns-then-is_valid
returns-then-is_valid c =
    let k = c.args.column in
    rw (back64 _ c.result-1.given) (cell_valid k.values.now (bits_in k.bits) c.args.i (sym c.is_valid.ensures ∙ c.if-is_valid.true))

pub returns : goal.returns
returns c =
    let k = c.args.column in
    cell_null k.values.now (bits_in k.bits) c.args.i (sym c.is_valid.ensures ∙ c.if-is_valid.false)
