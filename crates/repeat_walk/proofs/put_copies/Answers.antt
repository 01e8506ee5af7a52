-- A turn writes the row's elements once more, and its bit.
use Rattle.std.proofs.Common.{◌≡◌, ℕ, ◌+◌, ◌-◌, Bool, refl, sym, ap, ◌∙◌, arith}
use Rattle.model.specs.Basics.{tab}
use Rattle.model.specs.Bitmap.{valid_at}
use Rattle.model.specs.Column.{Column, elem_at, offset_at, row_at}
use Rattle.model.specs.Form.{elems_of, is_row}
use Rattle.column.specs.Columns.{column_in}
use Rattle.column.specs.Rows.{len_from}
use Rattle.column.proofs.RowLaws.{elems_from, is_row-from, len_from_le}
use Rattle.column.proofs.SameLaws.{lists_on}
use Rattle.column.proofs.WalkLaws.{between, row_from_lem}
use Rattle.repeat_walk.proofs.OuterLaws.{copy_place, copy_small, copy_more, copy_done}
use Rattle.repeat_walk.proofs.put_copies.Goals as goal

elems : (c : Column) (r p q n : ℕ) → p ≡ offset_at c.offsets r → q ≡ offset_at c.offsets (r + 1) → n ≡ len_from c.rows r p q → elems_of (row_at c r) ≡ tab (elem_at c.values c.elements) p n
elems c r p q n ep eq en = ap elems_of (sym (row_from_lem c r p q ep eq)) ∙ elems_from c.rows r p q (elem_at c.values c.elements) ∙ ap (tab (elem_at c.values c.elements) p) (sym en)

on : (c : Column) (r : ℕ) (t : Bool) → t ≡ valid_at c.rows r → is_row (row_at c r) ≡ t
on c r t e = ap is_row (sym (row_from_lem c r _ _ refl refl)) ∙ is_row-from c.rows r _ _ (elem_at c.values c.elements) ∙ sym e

pub row_len-len-requires-clause-a_le_b : goal.row_len-len-requires-clause-a_le_b
row_len-len-requires-clause-a_le_b g c =
    (between (column_in g.O.Offset.numbers c.args.list) _ c.args.r _ _ c.requires.list c.row_count-n.ensures (omega (arith, c.row_count-n.ensures, c.requires.there)) c.offset_at-a.ensures.value c.offset_at-b.ensures.value).rises

pub write_forward-at-requires : goal.write_forward-at-requires
write_forward-at-requires g c =
    let C = column_in g.O.Offset.numbers c.args.list in let r = c.args.r in
    let b = between C _ r _ _ c.requires.list c.row_count-n.ensures (omega (arith, c.row_count-n.ensures, c.requires.there)) c.offset_at-a.ensures.value c.offset_at-b.ensures.value in
    let n = len_from_le C.rows r c.offset_at-a.result c.offset_at-b.result b.rises in
    record {
      column = record { inside = omega (arith, b.inside, n, c.row_len-len.ensures); bits = c.requires.list.elements };
      room = copy_place _ _ c.args.first _ c.args.times _ (omega arith) (elems C r _ _ _ c.offset_at-a.ensures.value c.offset_at-b.ensures.value c.row_len-len.ensures) c.loop-i.invariant.copying;
    }

pub put_offset-requires-clause-v_le_offset : goal.put_offset-requires-clause-v_le_offset
put_offset-requires-clause-v_le_offset g c =
    let C = column_in g.O.Offset.numbers c.args.list in
    copy_small _ _ c.args.first _ c.args.times _ (omega arith) (elems C c.args.r _ _ _ c.offset_at-a.ensures.value c.offset_at-b.ensures.value c.row_len-len.ensures) c.loop-i.invariant.copying c.write_forward-at.ensures.written

pub loop-i-preserved : goal.loop-i-preserved
loop-i-preserved g c =
    let C = column_in g.O.Offset.numbers c.args.list in let w = c.write_forward-at.ensures in
    let e : c.args.first + c.args.times - (c.loop-i.i + 1) ≡ c.args.first + c.args.times - c.loop-i.i - 1 = omega arith in
    record {
      copying =
          rw e
          (copy_more _ _ c.args.first _ c.args.times _ (omega arith) (elems C c.args.r _ _ _ c.offset_at-a.ensures.value c.offset_at-b.ensures.value c.row_len-len.ensures) c.loop-i.invariant.copying w.written _ (on C c.args.r _ c.is_valid-valid.ensures) c.push_bit.ensures c.put_offset.ensures);
      same = lists_on c.loop-i.invariant.same (record { offsets = refl; rows = refl; elements = refl; values = w.same.values; bits = w.same.bits });
    }

pub returns : goal.returns
returns g c = record { written = copy_done _ _ c.args.first _ c.args.times c.loop-i.invariant.copying (omega arith); same = c.loop-i.invariant.same }
