-- Laws of what replace and remove make: no row is refused, and remove takes no third column.
use Rattle.std.specs.Prelude.{Option, None, Some}
use Prim.Native.Nat.{ℕ, zero, suc, ◌+◌, ◌-◌, ◌≤◌, ◌<◌}
use mathlib.Core.Path.{◌≡◌, refl, sym, ◌∙◌, subst}
use mathlib.Core.Bool.{Bool, true, false}
use mathlib.Core.List.{List}
use native.Mathlib.Omega.{arith}
use lib.Dec.{T}
use lib.IntN.{ℤ}
use lib.ListN.{length}
use Rattle.model.specs.Basics.{pick, tab}
use Rattle.model.specs.Bitmap.{Bits, valid_at}
use Rattle.model.specs.Column.{Elem, Row, null_row, list_row, Column, Arguments, elem_at, offset_at, row_count, count}
use Rattle.model.specs.Elements.{replaced, removed}
use Rattle.model.specs.Form.{elems_of, flat, is_row}
use Rattle.model.specs.Limits.{Limits}
use Rattle.model.specs.Outcome.{made, gate}
use Rattle.model.specs.Refusals.{first_of}
use Rattle.model.specs.Rows.{row_made}
use Rattle.model.proofs.TabLaws.{length-tab}
use Rattle.bitmap.specs.Push.{push_bit}
use Rattle.column.specs.Put.{Readable, RoomForElemsˡ, Writesˡ}
use Rattle.column.specs.Rows.{RoomForRowˡ, WritesRowˡ}
use Rattle.column.proofs.WalkLaws.{Summing, between, sum_more}
use Rattle.column.proofs.WriteLaws.{begun, done}
use Rattle.rows.specs.Cells.{Cell, elem_of}
use Rattle.matches.specs.declared.remove.Removal.{Removal}
use Rattle.matches.specs.declared.replace.Replacement.{Replacement}
use Rattle.matches.proofs.RowOpLaws.{length-replaced}
use Rattle.ops.specs.Ops.{replace_op, remove_op, valid_op, row_op_of, op_elems, op_made, table}
use Rattle.ops.specs.declared.ListOp.{ListOp}
use Rattle.ops.specs.declared.ListOp.TheVariants as L
use Rattle.ops.specs.RowOp.{RowOp}
use Rattle.ops.specs.RowOp as R
use Rattle.arguments.specs.Taken.{taken_at, op_at, Serves, Served}
use Rattle.made_rows.specs.Made.{made_from, made_at, row_made_at, refusal_at, call_rows, op_refusal, rows_measure}
use Rattle.made_rows.proofs.CallLaws.{row_of_lem, refusal_of_lem, length_of_lem, length_le}
use Rattle.match_rows.specs.Changes.{replacing, removing}
use Rattle.match_rows.specs.Limits.{limit_at, replaced_length}

-- ---- the columns that are taken

pub replace-served : {n : ℕ} {x y z : Arguments} → Served L.Replace n x y z → (Serves false n x) × (Serves false n y) × (Serves true n z)
unfolding table
replace-served s = (s.first refl, s.second refl, s.third refl)

pub remove-served : {n : ℕ} {x y z : Arguments} → Served L.Remove n x y z → (Serves false n x) × (Serves true n y)
unfolding table
remove-served s = (s.first refl, s.second refl)

-- remove takes no third column
module _ (x y z z' : Arguments) where
  pub third-served : {n : ℕ} → Served L.Remove n x y z → Served L.Remove n x y z'
  unfolding table
  third-served s = record { first = s.first; second = s.second; third = λ e. absurd (subst T (sym e) tt) }

  module _ (N : Limits) (c : Column) where
    pub third-rows : call_rows N L.Remove c x y z ≡ call_rows N L.Remove c x y z'
    unfolding call_rows made_at made_from op_at row_op_of valid_op
    third-rows = refl

    pub third_measure : rows_measure N L.Remove c x y z ≡ rows_measure N L.Remove c x y z'
    unfolding rows_measure call_rows made_at made_from op_at row_op_of valid_op
    third_measure = refl

-- ---- what is done to a row

replace_valid : (v : Bool) (f t k : Cell) → replace_op f t (pick v k None) ≡ pick v (replace_op f t k) R.Null
unfolding replace_op
replace_valid true f t k = refl
replace_valid false f t k = refl

remove_null : (f : Cell) → remove_op f None ≡ R.Null
unfolding remove_op
remove_null None = refl
remove_null (Some v) = refl

remove_valid : (v : Bool) (f k : Cell) → remove_op f (pick v k None) ≡ pick v (remove_op f k) R.Null
remove_valid true f k = refl
remove_valid false f k = remove_null f

module _ (N : Limits) (rb : Bits) (x y z : Arguments) (r n : ℕ) where
  replace_op_lem : (f t k : Cell) → f ≡ taken_at true false x r → t ≡ taken_at true false y r → k ≡ limit_at rb z r → replace_op f t k ≡ op_at N L.Replace rb x y z r n
  unfolding op_at row_op_of valid_op table limit_at
  replace_op_lem f t k ef et ek = rw (ef, et, ek) (replace_valid (valid_at rb r) _ _ _)

  remove_op_lem : (f k : Cell) → f ≡ taken_at true false x r → k ≡ limit_at rb y r → remove_op f k ≡ op_at N L.Remove rb x y z r n
  unfolding op_at row_op_of valid_op table limit_at
  remove_op_lem f k ef ek = rw (ef, ek) (remove_valid (valid_at rb r) _ _)

-- ---- the code's row between a and b is row r's

length-kept : (f t k : Cell) (es : List Elem) (n : ℕ) → length es ≡ n → replaced_length k n ≡ length (op_elems (replace_op f t k) es)
unfolding replaced_length replace_op op_elems
length-kept f t None es n e = refl
length-kept f t (Some v) es n e = sym (length-replaced (elem_of f) (elem_of t) (count v) es ∙ e)

kept_le : (k : Cell) (n : ℕ) → replaced_length k n ≤ n
unfolding replaced_length
kept_le None n = omega arith
kept_le (Some v) n = omega arith

module _ (N : Limits) (c : Column) (x y z : Arguments) (r a b : ℕ) (ea : a ≡ offset_at c.offsets r) (eb : b ≡ offset_at c.offsets (r + 1)) where
  abbrev elems : List Elem
  elems = tab (elem_at c.values c.elements) a (b - a)

  pub replaced_row : (o : RowOp) (f t k : Cell) → o ≡ replace_op f t k → f ≡ taken_at true false x r → t ≡ taken_at true false y r → k ≡ limit_at c.rows z r → row_made (op_made o elems) ≡ row_made_at N L.Replace c x y z r
  replaced_row o f t k eo ef et ek = row_of_lem N L.Replace c x y z r a b o ea eb (eo ∙ replace_op_lem N c.rows x y z r (b - a) f t k ef et ek)

  module _ (k : Cell) (m : ℕ) (e : m ≡ replaced_length k (b - a)) where
    replaced-long : k ≡ limit_at c.rows z r → m ≡ length (elems_of (row_made_at N L.Replace c x y z r))
    replaced-long ek =
        let f = taken_at true false x r in
        let t = taken_at true false y r in
        e
        ∙ length-kept f t k elems (b - a) (length-tab (elem_at c.values c.elements) a (b - a))
        ∙ length_of_lem N L.Replace c x y z r a b (replace_op f t k) ea eb (replace_op_lem N c.rows x y z r (b - a) f t k refl refl ek)

    replaced_le : m ≤ b - a
    replaced_le = rw e (kept_le k (b - a))

    -- what was found, after one row more
    pub sum_replaced : k ≡ limit_at c.rows z r → {n found : ℕ} → Readable c → n ≡ row_count c.offsets → r < n → b ≤ N.offset → Summing (row_made_at N L.Replace c x y z) n a N.offset found r (n - r) → Summing (row_made_at N L.Replace c x y z) n b N.offset (found + m) (r + 1) (n - (r + 1))
    sum_replaced ek {n} {found} w q h t s =
        let d : n - (r + 1) ≡ n - r - 1 = omega arith in
        rw d (sum_more (row_made_at N L.Replace c x y z) n N.offset m a b s (omega arith) (replaced-long ek) replaced_le (between c n r a b w q h ea eb).rises refl t)

  module _ (o : RowOp) (f k : Cell) (eo : o ≡ remove_op f k) (ef : f ≡ taken_at true false x r) (ek : k ≡ limit_at c.rows y r) where
    is_op : o ≡ op_at N L.Remove c.rows x y z r (b - a)
    is_op = eo ∙ remove_op_lem N c.rows x y z r (b - a) f k ef ek

    pub removed_row : row_made (op_made o elems) ≡ row_made_at N L.Remove c x y z r
    removed_row = row_of_lem N L.Remove c x y z r a b o ea eb is_op

    module _ (m : ℕ) (e : m ≡ length (op_elems o elems)) where
      removed-long : m ≡ length (elems_of (row_made_at N L.Remove c x y z r))
      removed-long = e ∙ length_of_lem N L.Remove c x y z r a b o ea eb is_op

      removed_le : m ≤ b - a
      unfolding table
      removed_le = rw e (length_le N L.Remove c x y z r a b o ea eb is_op refl)

      pub sum_removed : {n found : ℕ} → Readable c → n ≡ row_count c.offsets → r < n → b ≤ N.offset → Summing (row_made_at N L.Remove c x y z) n a N.offset found r (n - r) → Summing (row_made_at N L.Remove c x y z) n b N.offset (found + m) (r + 1) (n - (r + 1))
      sum_removed {n} {found} w q h t s =
          let d : n - (r + 1) ≡ n - r - 1 = omega arith in
          rw d (sum_more (row_made_at N L.Remove c x y z) n N.offset m a b s (omega arith) removed-long removed_le (between c n r a b w q h ea eb).rises refl t)

-- ---- nothing is refused

first-none : (K : ℕ → ℕ) → ((r : ℕ) → K r ≡ 0) → (a n : ℕ) → first_of (tab K a n) ≡ 0
unfolding tab first_of
first-none K h a zero = refl
first-none K h a (suc n) = rw (h a) (first-none K h (suc a) n)

all_made : (N : Limits) (op : ListOp) (c : Column) (x y z : Arguments) → ((r : ℕ) → refusal_at N op c x y z r ≡ 0) → rows_measure N op c x y z ≡ made (length (flat (call_rows N op c x y z)))
unfolding rows_measure gate
all_made N op c x y z h = rw (first-none (refusal_at N op c x y z) h 0 _)

replace-none : (f t k : Cell) → op_refusal (replace_op f t k) ≡ 0
unfolding op_refusal replace_op
replace-none f t None = refl
replace-none f t (Some v) = refl

remove-none : (f k : Cell) → op_refusal (remove_op f k) ≡ 0
unfolding op_refusal remove_op
remove-none None k = refl
remove-none (Some v) None = refl
remove-none (Some v) (Some k) = refl

module _ (N : Limits) (c : Column) (x y z : Arguments) where
  pub replace-measured : rows_measure N L.Replace c x y z ≡ made (length (flat (call_rows N L.Replace c x y z)))
  replace-measured = all_made N L.Replace c x y z (λ r. sym (refusal_of_lem N L.Replace c x y z r _ _ _ refl refl (replace_op_lem N c.rows x y z r _ _ _ _ refl refl refl)) ∙ replace-none _ _ _)

  pub remove-measured : rows_measure N L.Remove c x y z ≡ made (length (flat (call_rows N L.Remove c x y z)))
  remove-measured = all_made N L.Remove c x y z (λ r. sym (refusal_of_lem N L.Remove c x y z r _ _ _ refl refl (remove_op_lem N c.rows x y z r _ _ _ refl refl)) ∙ remove-none _ _)

-- ---- a row put, by what is done to it

module _ (by : Option Replacement) (es : List Elem) where
  pub replaced_null : by ≡ None → row_made (op_made (replacing by) es) ≡ null_row
  unfolding row_made op_made replacing
  replaced_null e = rw e

  pub replaced-made : (b : Replacement) → by ≡ Some b → row_made (op_made (replacing by) es) ≡ list_row (replaced b.limit (elem_of b.from) (elem_of b.to) es)
  unfolding row_made op_made op_elems replacing
  replaced-made b e = rw e

module _ (by : Option Removal) (es : List Elem) where
  pub removed_null : by ≡ None → row_made (op_made (removing by) es) ≡ null_row
  unfolding row_made op_made removing
  removed_null e = rw e

  pub removed-made : (b : Removal) → by ≡ Some b → row_made (op_made (removing by) es) ≡ list_row (removed b.limit (elem_of b.element) es)
  unfolding row_made op_made op_elems removing
  removed-made b e = rw e

module _ (w : Row) (r at : ℕ) where
  pub null_put : {ro ro' : List ℕ} (v : List ℤ) (e : List ℕ) (b : Bool) → w ≡ null_row → b ≡ false → ro' ≡ push_bit ro r b → WritesRowˡ w r at ro ro' v v e e at
  unfolding is_row elems_of
  null_put v e b q z p =
      let d = done (begun {vo₀ = v} {eo₀ = e} _ refl) refl in
      rw q (record { rows = rw z at p; values = d.values; elements = d.elements; place = d.next })

  module _ (es : List Elem) (q : w ≡ list_row es) where
    pub list_put : {ro ro' : List ℕ} {v v' : List ℤ} {e e' : List ℕ} {k : ℕ} (b : Bool) → b ≡ true → ro' ≡ push_bit ro r b → Writesˡ es at v v' e e' k → WritesRowˡ w r at ro ro' v v' e e' k
    unfolding is_row elems_of
    list_put b z p d = rw q (record { rows = rw z at p; values = d.values; elements = d.elements; place = d.next })

    pub list-room : {lr lv le : ℕ} → RoomForRowˡ w r at lr lv le → RoomForElemsˡ es at lv le
    unfolding elems_of
    list-room m = let h = rw q at m in record { values = h.values; elements = h.elements }
