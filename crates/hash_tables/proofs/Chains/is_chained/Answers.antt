use Rattle.std.proofs.Common.{◌≡◌, ◌+◌, ◌∙◌, sym, arith}
use Rattle.column.specs.Columns.{elem_in}
use Rattle.hash_tables.proofs.TableLaws.{chained-step, chained-none}
use Rattle.hash_tables.proofs.Chains.is_chained.Goals as goal

pub returns-then-same_elem : goal.returns-then-same_elem
returns-then-same_elem c =
    let a = c.args in
    let p = chained-step (elem_in a.self.column) a.self.from a.self.count a.self.slot a.self.area.now (elem_in a.elements a.i) c.requires.down c.in-Some.j (omega (arith, c.in-Some.ensures)) c.loop-j.invariant.within in
    sym (rw (← c.same_elem.ensures, c.if-same_elem.true) at p) ∙ c.loop-j.invariant.same

pub loop-j-preserved : goal.loop-j-preserved
loop-j-preserved c =
    let a = c.args in
    let j = c.in-Some.j in
    let s : c.loop-j.s ≡ j + 1 = omega (arith, c.in-Some.ensures) in
    let p = chained-step (elem_in a.self.column) a.self.from a.self.count a.self.slot a.self.area.now (elem_in a.elements a.i) c.requires.down j s c.loop-j.invariant.within in
    record {
      same = rw c.wide-s.ensures (sym (rw (← c.same_elem.ensures, c.if-same_elem.false) at p) ∙ c.loop-j.invariant.same);
      within = omega (arith, c.wide-s.ensures, c.loop-j.invariant.within, c.requires.down j (omega (arith, c.loop-j.invariant.within)));
    }

pub returns : goal.returns
returns c =
    let a = c.args in
    sym (chained-none (elem_in a.self.column) a.self.from a.self.count a.self.slot a.self.area.now (elem_in a.elements a.i) c.loop-j.s (omega (arith, c.in_default.ensures)))
    ∙ c.loop-j.invariant.same
