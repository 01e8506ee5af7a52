use Rattle.std.proofs.Common.{◌≡◌, ◌+◌, ◌-◌, arith}
use Rattle.grade_rows.proofs.RunLaws.{begun, more, found, some_valid, none_valid}
use Rattle.grade_rows.proofs.elements_grade.Goals as goal

pub loop-p-init : goal.loop-p-init
loop-p-init c = let e : c.args.a + c.args.n - c.args.a ≡ c.args.n = omega arith in rw e (begun _ _ _ _ _ c.requires.positive)

pub returns-then-k-run : goal.returns-then-k-run
returns-then-k-run c = found c.loop-p.invariant (omega arith) _ c.is_valid-valid.ensures _ c.run_after-run.ensures c.if-k-run.true

pub loop-p-preserved : goal.loop-p-preserved
loop-p-preserved c =
    let e : c.args.a + c.args.n - (c.loop-p.p + 1) ≡ c.args.a + c.args.n - c.loop-p.p - 1 = omega arith in
    rw e (more c.loop-p.invariant (omega arith) _ c.is_valid-valid.ensures _ c.run_after-run.ensures c.if-k-run.false)

pub returns-then-seen : goal.returns-then-seen
returns-then-seen c = some_valid c.loop-p.invariant (omega arith) c.if-seen.true

pub returns-else-seen : goal.returns-else-seen
returns-else-seen c = none_valid c.loop-p.invariant (omega arith) c.if-seen.false
