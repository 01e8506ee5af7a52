use Rattle.std.proofs.Common.{ℕ, ℤ, List, Ok, ◌≡◌, ap, arith}
use Rattle.column.specs.Front.{AtFront}
use Rattle.model.specs.Column.{Column, row_count}
use Rattle.model.specs.Answers.{ListAnswer}
use Rattle.model.specs.declared.ListCounts.{ListCounts}
use Rattle.grade_rows.specs.Grades.{Counted}
use Rattle.grade_rows.proofs.CallLaws.{none_made, some-made, rows_are, elements_are}
use Rattle.grade_rows.proofs.FrontLaws.{none-graded, front-graded, front_rows}
use Rattle.grade_rows.proofs.grade_front.Goals as goal

-- the rows at the front
at : {k : ℕ} {a : ListAnswer} {c : ListCounts} {o : List ℤ} {r : List ℕ} {v : List ℤ} {e : List ℕ} {g : ℕ} → Counted k a o r v e g → a ≡ Ok c → AtFront c.rows c.elements o r v e
at h e = rw (rows_are e, elements_are e) (h.front (some-made e))

pub returns-in_default : goal.returns-in_default
returns-in_default g c = none-graded _ _ _ _ _ _ _ (none_made c.in_default.is)

pub front-written-requires : goal.front-written-requires
front-written-requires g c = at c.requires c.in-Ok.is

pub grade_rows-requires : goal.grade_rows-requires
grade_rows-requires g c =
    let f = at c.requires c.in-Ok.is in
    let o = c.args.out.now in
    let n = front_rows c.in-Ok.counts.rows c.in-Ok.counts.elements (g.O.Offset.numbers o.offsets.now) o.rows.now o.elements.now.values.now o.elements.now.bits.now f.offsets in
    let m = ap (λ (x : Column). row_count x.offsets) c.front-written.ensures in
    record {
      positive = c.requires.positive (some-made c.in-Ok.is);
      column = rw c.front-written.ensures f.formed;
      room = omega (arith, n, m, rows_are c.in-Ok.is, c.requires.room (some-made c.in-Ok.is));
    }

pub returns : goal.returns
returns g c =
    front-graded _ _ _ _ _ _ _ (some-made c.in-Ok.is) (rows_are c.in-Ok.is) (elements_are c.in-Ok.is) (rw c.front-written.ensures at c.grade_rows.ensures)
