use Rattle.std.proofs.Common.{arith, ap, refl, ◌≡◌, ◌<◌, ◌+◌, ◌-◌, List, length}
use Rattle.model.specs.Column.{Row}
use Rattle.model.specs.Form.{flat}
use Rattle.column.proofs.SameLaws.{lists_on}
use Rattle.bare_walk.proofs.BareLaws.{bare_begun, bare_reads, bare_room, bare_small, bare_more, bare_done, bare_rows_lem}
use Rattle.bare_walk.proofs.write_bare.Goals as goal

pub loop-r-init : goal.loop-r-init
loop-r-init g c =
    let a = c.args in
    let e : c.row_count-n.result - 0 ≡ c.row_count-n.result = omega arith in
    record {
      walk = rw e (bare_begun a.op (g.O.Offset.numbers a.list.offsets.now) a.list.elements.values.now c.row_count-n.result _ _ c.first_offset-a.ensures);
      rows = refl;
      bits = refl;
      same = record { offsets = refl; rows = refl; elements = refl; values = refl; bits = refl };
    }

pub overflow_sub-len : goal.overflow_sub-len
overflow_sub-len g c =
    let a = c.args in
    let h : 0 < c.row_count-n.result - c.loop-r.r = omega (arith, c.loop-r-test.true) in
    let b = bare_reads a.op (g.O.Offset.numbers a.list.offsets.now) a.list.elements.values.now c.row_count-n.result c.loop-r.invariant.walk h c.offset_at-b.result c.offset_at-b.ensures.value c.row_count-n.ensures c.requires.column in
    b.0

pub put_values-at-requires-clause-inside : goal.put_values-at-requires-clause-inside
put_values-at-requires-clause-inside g c =
    let a = c.args in
    let h : 0 < c.row_count-n.result - c.loop-r.r = omega (arith, c.loop-r-test.true) in
    let b = bare_reads a.op (g.O.Offset.numbers a.list.offsets.now) a.list.elements.values.now c.row_count-n.result c.loop-r.invariant.walk h c.offset_at-b.result c.offset_at-b.ensures.value c.row_count-n.ensures c.requires.column in
    omega (arith, b.0, b.1)

pub put_values-at-requires-clause-room : goal.put_values-at-requires-clause-room
put_values-at-requires-clause-room g c =
    let a = c.args in
    let I = g.O.Offset.numbers a.list.offsets.now in
    let n = c.row_count-n.result in
    let h : 0 < n - c.loop-r.r = omega (arith, c.loop-r-test.true) in
    let total = ap (λ (ws : List Row). length (flat ws)) (bare_rows_lem a.op I a.list.elements.values.now n c.row_count-n.ensures) in
    bare_room a.op I a.list.elements.values.now n c.loop-r.invariant.walk h c.offset_at-b.result c.offset_at-b.ensures.value (omega (arith, total, c.requires.places))

pub put_offset-requires-in-loop-r-clause-v_le_offset : goal.put_offset-requires-in-loop-r-clause-v_le_offset
put_offset-requires-in-loop-r-clause-v_le_offset g c =
    let a = c.args in
    let I = g.O.Offset.numbers a.list.offsets.now in
    let n = c.row_count-n.result in
    let h : 0 < n - c.loop-r.r = omega (arith, c.loop-r-test.true) in
    let total = ap (λ (ws : List Row). length (flat ws)) (bare_rows_lem a.op I a.list.elements.values.now n c.row_count-n.ensures) in
    let k = bare_small a.op I a.list.elements.values.now n c.loop-r.invariant.walk h c.offset_at-b.result c.offset_at-b.ensures.value c.put_values-at.ensures in
    omega (arith, k, total, c.requires.small)

pub loop-r-preserved : goal.loop-r-preserved
loop-r-preserved g c =
    let a = c.args in
    let n = c.row_count-n.result in
    let h : 0 < n - c.loop-r.r = omega (arith, c.loop-r-test.true) in
    let d : n - (c.loop-r.r + 1) ≡ n - c.loop-r.r - 1 = omega arith in
    let i = c.loop-r.invariant in
    record {
      walk = rw d (bare_more a.op (g.O.Offset.numbers a.list.offsets.now) a.list.elements.values.now n i.walk h c.offset_at-b.result c.offset_at-b.ensures.value c.put_values-at.ensures c.put_offset-in-loop-r.ensures);
      rows = i.rows;
      bits = i.bits;
      same = lists_on i.same (record { offsets = refl; rows = refl; elements = refl; values = refl; bits = refl });
    }

pub returns : goal.returns
returns g c =
    let a = c.args in
    let I = g.O.Offset.numbers a.list.offsets.now in
    let O = g.O.Offset.numbers a.out.now.offsets.now in
    let n = c.row_count-n.result in
    let i = c.loop-r.invariant in
    let all = bare_rows_lem a.op I a.list.elements.values.now n c.row_count-n.ensures in
    let total = ap (λ (ws : List Row). length (flat ws)) all in
    rw (← all)
    (record {
      written = bare_done a.op I a.list.elements.values.now n O i.walk (omega (arith, c.loop-r-test.false)) c.put_offset.ensures (omega (arith, c.row_count-n.ensures, c.requires.room, g.met.O.Offset.numbers_length a.out.now.offsets.now)) (omega (arith, total, c.requires.places));
      rows = i.rows;
      bits = i.bits;
      same = i.same;
    })
