use Rattle.std.proofs.Common.{refl, ◌≡◌, ◌+◌, ◌-◌, sym, ◌∙◌, arith}
use Rattle.column.proofs.SameLaws.{wrote, values_on}
use Rattle.column.proofs.WriteLaws.{begun, skipped, written, room, done}
use Rattle.bitmap.specs.Reads.{bits_in}
use Rattle.model.specs.Column.{elem_at}
use Rattle.set_elements.proofs.ElementLaws.{later_all, later-none, later_new, later_old}
use Rattle.kept_elements.proofs.distinct.write_distinct.Goals as goal
use Rattle.kept_elements.proofs.distinct.write_distinct.Goals.{then-not-is_among, else-not-is_among}

pub loop-k-init : goal.loop-k-init
loop-k-init c =
    let z : c.args.n - 0 ≡ c.args.n = omega arith in
    (rw z (begun _ (later_all (elem_at c.args.elements.values.now (bits_in c.args.elements.bits)) c.args.a c.args.n)), record { values = refl; bits = refl })

pub put_elem-requires-clause-k_in_bounds : goal.put_elem-requires-clause-k_in_bounds
put_elem-requires-clause-k_in_bounds c =
    let l = c.loop-k in
    let a = c.args in
    let E = elem_at a.elements.values.now (bits_in a.elements.bits) in
    (room l.invariant.0 _ _ (later_new E a.a l.k (a.n - l.k) (omega arith) (sym c.is_among.ensures ∙ c.if-not-is_among.true)) c.requires.room).0

pub put_elem-requires-clause-k_in_bounds_2 : goal.put_elem-requires-clause-k_in_bounds_2
put_elem-requires-clause-k_in_bounds_2 c =
    let l = c.loop-k in
    let a = c.args in
    let E = elem_at a.elements.values.now (bits_in a.elements.bits) in
    (room l.invariant.0 _ _ (later_new E a.a l.k (a.n - l.k) (omega arith) (sym c.is_among.ensures ∙ c.if-not-is_among.true)) c.requires.room).1

pub loop-k-preserved : goal.loop-k-preserved
loop-k-preserved c =
    let l = c.loop-k in
    let a = c.args in
    let E = elem_at a.elements.values.now (bits_in a.elements.bits) in
    let among = sym c.is_among.ensures in
    let e : a.n - l.k - 1 ≡ a.n - (l.k + 1) = omega arith in
    elim c.if-not-is_among.branch [
      | then-not-is_among w ↦
          rw (w.out-is, w.p-is)
          (written l.invariant.0 _ _ (rw e at (later_new E a.a l.k (a.n - l.k) (omega arith) (among ∙ w.if-not-is_among.true))) w.put_elem.ensures.values_after w.put_elem.ensures.bits_after, values_on l.invariant.1 w.put_elem.ensures.same)
      | else-not-is_among w ↦ rw (w.out-is, w.p-is) (skipped l.invariant.0 _ (rw e at (later_old E a.a l.k (a.n - l.k) (omega arith) (among ∙ w.if-not-is_among.false))), l.invariant.1)
    ]

pub returns : goal.returns
returns c =
    let l = c.loop-k in
    let a = c.args in
    wrote (done l.invariant.0 (later-none (elem_at a.elements.values.now (bits_in a.elements.bits)) a.a l.k (a.n - l.k) (omega arith))) l.invariant.1.values l.invariant.1.bits
