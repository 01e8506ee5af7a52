-- The rows from the row on lose the first one at each turn, which refuses nothing.
use Rattle.std.proofs.Common.{◌-◌, length, sym, ◌∙◌, arith}
use Rattle.bitmap.specs.Reads.{bits_in}
use Rattle.column.specs.Columns.{values_in}
use Rattle.model.proofs.OutcomeLaws.{first-refusal, later-refusal, no_refusal}
use Rattle.value_places.specs.Found.{four_at}
use Rattle.value_places.proofs.FoundLaws.{four_yes, four_no}
use Rattle.value_places.proofs.index_refusal.Goals as goal

pub returns-then-is_unfit : goal.returns-then-is_unfit
returns-then-is_unfit g c =
    let l = c.loop-r in let rb = bits_in c.args.rows in let is = values_in c.args.indexes in let L = g.O.Offset.LIMITS in
    let y = four_yes L rb is l.r (sym c.is_unfit.ensures ∙ c.if-is_unfit.true) in
    sym y ∙ sym (first-refusal (four_at L rb is) l.r _ (omega arith) (λ z. omega arith)) ∙ l.invariant

pub loop-r-preserved : goal.loop-r-preserved
loop-r-preserved g c =
    let l = c.loop-r in let rb = bits_in c.args.rows in let is = values_in c.args.indexes in let L = g.O.Offset.LIMITS in
    let y = four_no L rb is l.r (sym c.is_unfit.ensures ∙ c.if-is_unfit.false) in
    grind (arith, later-refusal (four_at L rb is) l.r (length is.values - l.r) (omega arith) y)

pub returns : goal.returns
returns g c =
    let l = c.loop-r in
    sym (no_refusal (four_at g.O.Offset.LIMITS (bits_in c.args.rows) (values_in c.args.indexes)) l.r _ (omega arith)) ∙ l.invariant
