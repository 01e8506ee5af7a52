-- The row lies between its two offsets, within the values.
use Rattle.std.proofs.Common.{◌≡◌, ℕ, ◌+◌, ◌≤◌, ◌<◌, length, refl, ap, ◌∙◌, arith}
use Rattle.column.specs.Columns.{column_in, elem_in}
use Rattle.column.specs.Put.{Readable}
use Rattle.column.specs.Rows.{len_from}
use Rattle.column.proofs.RowLaws.{len_from_le}
use Rattle.column.proofs.WalkLaws.{between, row_from_lem}
use Rattle.model.specs.Column.{Column, Row, offset_at, row_count}
use Rattle.value_places.specs.Values.{value_made}
use Rattle.value_places.proofs.ValueLaws.{indexed_at, value_from}
use Rattle.value_walk.proofs.put_value.Goals as goal

-- where row r lies, which begins at a, ends at b and shows k elements
record Lies (c : Column) (a b k : ℕ) : Type 0 where
  rises : a ≤ b
  shown : a + k ≤ b
  inside : b ≤ length c.values

lies : (c : Column) (r a b k : ℕ) → Readable c → r < row_count c.offsets → a ≡ offset_at c.offsets r → b ≡ offset_at c.offsets (r + 1) → k ≡ len_from c.rows r a b → Lies c a b k
lies c r a b k w h p q e =
    let t = between c _ r a b w refl h p q in
    record { rises = t.rises; shown = omega (arith, e, len_from_le c.rows r a b t.rises); inside = t.inside }

pub row_len-k-requires-clause-a_le_b : goal.row_len-k-requires-clause-a_le_b
row_len-k-requires-clause-a_le_b g c =
    (lies _ c.args.r _ _ _ c.requires.column c.requires.r_lt_rows c.offset_at-a.ensures.value c.offset_at-b.ensures.value refl).rises

pub place_of-i-requires-clause-column : goal.place_of-i-requires-clause-column
place_of-i-requires-clause-column g c =
    let l = lies _ c.args.r _ _ _ c.requires.column c.requires.r_lt_rows c.offset_at-a.ensures.value c.offset_at-b.ensures.value c.row_len-k.ensures in
    record { inside = omega (arith, l.shown, l.inside); bits = c.requires.column.elements }

pub place_of-i-requires-clause-indexed : goal.place_of-i-requires-clause-indexed
place_of-i-requires-clause-indexed g c = indexed_at c.args.op _ c.args.r c.requires.indexed c.requires.r_lt_rows

pub place_of-i-requires-clause-small : goal.place_of-i-requires-clause-small
place_of-i-requires-clause-small g c =
    let l = lies _ c.args.r _ _ _ c.requires.column c.requires.r_lt_rows c.offset_at-a.ensures.value c.offset_at-b.ensures.value c.row_len-k.ensures in
    omega (arith, l.shown, c.offset_at-b.ensures.upper_bound)

pub overflow_add-a : goal.overflow_add-a
overflow_add-a g c =
    let l = lies _ c.args.r _ _ _ c.requires.column c.requires.r_lt_rows c.offset_at-a.ensures.value c.offset_at-b.ensures.value c.row_len-k.ensures in
    omega (arith, l.shown, c.offset_at-b.type_inv)

pub write_found-requires-clause-end_in_bounds : goal.write_found-requires-clause-end_in_bounds
write_found-requires-clause-end_in_bounds g c =
    let l = lies _ c.args.r _ _ _ c.requires.column c.requires.r_lt_rows c.offset_at-a.ensures.value c.offset_at-b.ensures.value c.row_len-k.ensures in
    omega (arith, l.shown, l.inside)

pub returns : goal.returns
returns g c =
    let C = column_in g.O.Offset.numbers c.args.list in
    let l = lies C c.args.r _ _ _ c.requires.column c.requires.r_lt_rows c.offset_at-a.ensures.value c.offset_at-b.ensures.value c.row_len-k.ensures in
    let v = value_from g.O.Offset.LIMITS c.args.op C.rows (elem_in c.args.list.elements) c.args.r _ _ _ _ (omega (arith, l.shown, c.row_len-k.ensures, c.offset_at-b.ensures.upper_bound)) c.row_len-k.ensures c.place_of-i.ensures in
    let w = v ∙ ap (λ (w : Row). value_made c.args.op w c.args.r) (row_from_lem C c.args.r _ _ c.offset_at-a.ensures.value c.offset_at-b.ensures.value) in
    record { values_after = rw w at c.write_found.ensures.values_after; bits_after = rw w at c.write_found.ensures.bits_after; same = c.write_found.ensures.same }
