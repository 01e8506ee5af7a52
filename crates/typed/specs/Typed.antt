-- What a typed C entry returns, and what its slices hold then, for every call. Slices hold numbers as they lie: nothing is decoded.
use Rattle.std.specs.Prelude.{ℕ, Bool, ◌≡◌, List, map, length, replicate, ltb, ℤ}
use Rattle.model.specs.Basics.{pick, Lent, absent, given}
use Rattle.model.specs.Bitmap.{pack}
use Rattle.model.specs.Column.{Elem, Row}
use Rattle.model.specs.Form.{Room, ValueRoom, RepeatRoom, Outer, is_outer, outer_length, inner, offsets_from, over, flat, form_offsets, form_rows, form_values, form_elements}
use Rattle.model.specs.Outcome.{Outcome, refused, gate}
use Rattle.model.specs.View.{ViewRoom, view_offsets, view_sizes}
use Rattle.model.specs.Grade.{grades_of}
use Rattle.model.specs.Call.{Answer, list_counts, value_counts, repeat_counts, row_counts}
use Rattle.model.specs.Contract.{MutSlice, after, room_of, value_room, repeat_room_of, view_room}
use Rattle.column.specs.Outputs.{SameLists, SameOuters, SameValues, repeat_room_in, room_in, value_room_in}
use Rattle.column.specs.declared.elements.ValueOutput.{ValueOutput}
use Rattle.column.specs.declared.lists.ListOutput.{ListOutput}
use Rattle.column.specs.declared.lists.OuterOutput.{OuterOutput}
use Rattle.view_checks.specs.Views.{view_room_in}
use Rattle.view_checks.specs.declared.ViewOutput.{ViewOutput}
use Rattle.views.specs.ViewOutputs.{SameViews}
use Rattle.entry.specs.Entry.{number_of}
use Rattle.entry.specs.Inner.{number_in, counts_in}

-- ---- the entry's own refusal

-- a slice of counts has fewer places than they take
abbrev pub short : ℕ → MutSlice ℕ → Bool
short need c = ltb (length c.entry.now) need

-- 100 where the entry has no such operation, or where the counts do not fit (`b`); otherwise the operation's own outcome
unfoldable pub served : {A L : Type 0} → Lent (L → Outcome A) → Bool → L → Outcome A
served absent b l = refused 100
served (given f) b l = gate (pick b 100 0) (f l)

-- ---- what is returned and written

-- the number n of an answer, and the slice of its counts at entry and at exit: places past them keep their content
pub record Told (a : Answer) (n : ℕ) (c c' : List ℕ) : Type 0 where
  pub number : n ≡ number_in a
  pub counts : c' ≡ over (counts_in a) c

-- the number n, and each slice at entry and at exit, of a list answer; a refusal writes none of them
pub record TypedList (x : Outcome (List Row)) (n : ℕ) (o o' : List ℤ) (r r' : List ℕ) (v v' : List ℤ) (e e' c c' : List ℕ) : Type 0 where
  pub number : n ≡ number_of x
  pub offsets : o' ≡ after form_offsets x o
  pub rows : r' ≡ after form_rows x r
  pub values : v' ≡ after (λ ws. form_values (flat ws)) x v
  pub elements : e' ≡ after (λ ws. form_elements (flat ws)) x e
  pub counts : c' ≡ after list_counts x c

-- of a list answer with a work area, which had so many slots: they are 0, whatever is returned
pub record TypedHash (x : Outcome (List Row)) (n slots : ℕ) (o o' : List ℤ) (r r' : List ℕ) (v v' : List ℤ) (e e' w c c' : List ℕ) : Type 0 where
  pub list : TypedList x n o o' r r' v v' e e' c c'
  pub area : w ≡ replicate slots 0

-- of a value answer
pub record TypedValues (x : Outcome (List Elem)) (n : ℕ) (v v' : List ℤ) (r r' c c' : List ℕ) : Type 0 where
  pub number : n ≡ number_of x
  pub values : v' ≡ after form_values x v
  pub rows : r' ≡ after form_elements x r
  pub counts : c' ≡ after value_counts x c

-- of list-repeat's
pub record TypedRepeat (x : Outcome (List Outer)) (n : ℕ) (o o' : List ℤ) (r r' : List ℕ) (io io' : List ℤ) (ir ir' : List ℕ) (v v' : List ℤ) (e e' c c' : List ℕ) : Type 0 where
  pub number : n ≡ number_of x
  pub offsets : o' ≡ after (λ os. offsets_from 0 (map outer_length os)) x o
  pub rows : r' ≡ after (λ os. pack (map is_outer os)) x r
  pub inner-offsets : io' ≡ after (λ os. form_offsets (inner os)) x io
  pub inner-rows : ir' ≡ after (λ os. form_rows (inner os)) x ir
  pub values : v' ≡ after (λ os. form_values (flat (inner os))) x v
  pub elements : e' ≡ after (λ os. form_elements (flat (inner os))) x e
  pub counts : c' ≡ after repeat_counts x c

-- of a view's
pub record TypedView (x : Outcome (List Row)) (n : ℕ) (o o' s s' : List ℤ) (r r' : List ℕ) (v v' : List ℤ) (e e' c c' : List ℕ) : Type 0 where
  pub number : n ≡ number_of x
  pub offsets : o' ≡ after view_offsets x o
  pub sizes : s' ≡ after view_sizes x s
  pub rows : r' ≡ after form_rows x r
  pub values : v' ≡ after (λ ws. form_values (flat ws)) x v
  pub elements : e' ≡ after (λ ws. form_elements (flat ws)) x e
  pub counts : c' ≡ after list_counts x c

-- of a graded column's, the grades by k at entry and at exit
pub record TypedGrades (k : ℕ) (x : Outcome (List Row)) (n : ℕ) (g g' c c' : List ℕ) : Type 0 where
  pub number : n ≡ number_of x
  pub grades : g' ≡ after (grades_of k) x g
  pub counts : c' ≡ after row_counts x c

-- ---- the contracts: f is what the operation comes to for the lengths lent; the number returned, the outputs and the counts

abbrev pub ListServed : Lent (Room → Outcome (List Row)) → ℕ → MutSlice ℤ → MutSlice ℕ → MutSlice ℤ → MutSlice ℕ → MutSlice ℕ → Type 0
ListServed f n o r v e c =
    TypedList (served f (short 4 c) (room_of o r v e)) n
    o.entry.now o.exit.now r.entry.now r.exit.now v.entry.now v.exit.now e.entry.now e.exit.now c.entry.now c.exit.now

-- the operation takes the slots of the work area too
abbrev pub HashServed : (ℕ → Lent (Room → Outcome (List Row))) → ℕ → MutSlice ℤ → MutSlice ℕ → MutSlice ℤ → MutSlice ℕ → MutSlice ℕ → MutSlice ℕ → Type 0
HashServed f n o r v e w c =
    TypedHash (served (f (length w.entry.now)) (short 4 c) (room_of o r v e)) n (length w.entry.now)
    o.entry.now o.exit.now r.entry.now r.exit.now v.entry.now v.exit.now e.entry.now e.exit.now w.exit.now c.entry.now c.exit.now

abbrev pub ValueServed : (ValueRoom → Outcome (List Elem)) → ℕ → MutSlice ℤ → MutSlice ℕ → MutSlice ℕ → Type 0
ValueServed f n v r c =
    TypedValues (served (given f) (short 2 c) (value_room (length v.entry.now) (length r.entry.now))) n
    v.entry.now v.exit.now r.entry.now r.exit.now c.entry.now c.exit.now

abbrev pub RepeatServed : (RepeatRoom → Outcome (List Outer)) → ℕ → MutSlice ℤ → MutSlice ℕ → MutSlice ℤ → MutSlice ℕ → MutSlice ℤ → MutSlice ℕ → MutSlice ℕ → Type 0
RepeatServed f n o r io ir v e c =
    TypedRepeat (served (given f) (short 6 c) (repeat_room_of o r io ir v e)) n
    o.entry.now o.exit.now r.entry.now r.exit.now io.entry.now io.exit.now ir.entry.now ir.exit.now v.entry.now v.exit.now e.entry.now e.exit.now c.entry.now c.exit.now

abbrev pub ViewServed : (ViewRoom → Outcome (List Row)) → ℕ → MutSlice ℤ → MutSlice ℤ → MutSlice ℕ → MutSlice ℤ → MutSlice ℕ → MutSlice ℕ → Type 0
ViewServed f n o s r v e c =
    TypedView (served (given f) (short 4 c) (view_room (length o.entry.now) (length s.entry.now) (length r.entry.now) (length v.entry.now) (length e.entry.now))) n
    o.entry.now o.exit.now s.entry.now s.exit.now r.entry.now r.exit.now v.entry.now v.exit.now e.entry.now e.exit.now c.entry.now c.exit.now

abbrev pub GradeServed : ℕ → (ℕ → Outcome (List Row)) → ℕ → MutSlice ℕ → MutSlice ℕ → Type 0
GradeServed k f n g c =
    TypedGrades k (served (given f) (short 1 c) (length g.entry.now)) n g.entry.now g.exit.now c.entry.now c.exit.now

-- ---- the same over outputs, which hold those slices as the call returns; numbers are those of the offsets

pub record ListServedIn {A : Type 0} (numbers : List A → List ℤ) (f : Lent (Room → Outcome (List Row))) (n : ℕ) (o o' : ListOutput A) (c : MutSlice ℕ) : Type 0 where
  pub served :
      TypedList (served f (short 4 c) (room_in o)) n (numbers o.offsets.now) (numbers o'.offsets.now) o.rows.now o'.rows.now
      o.elements.now.values.now o'.elements.now.values.now o.elements.now.bits.now o'.elements.now.bits.now c.entry.now c.exit.now
  pub same : SameLists o o'

pub record ValueServedIn (f : ValueRoom → Outcome (List Elem)) (n : ℕ) (o o' : ValueOutput) (c : MutSlice ℕ) : Type 0 where
  pub served : TypedValues (served (given f) (short 2 c) (value_room_in o)) n o.values.now o'.values.now o.bits.now o'.bits.now c.entry.now c.exit.now
  pub same : SameValues o o'

-- with a work area, which holds what it says as the call returns
pub record HashServedIn {A : Type 0} (numbers : List A → List ℤ) (f : ℕ → Lent (Room → Outcome (List Row))) (n : ℕ) (o o' : ListOutput A) (w c : MutSlice ℕ) : Type 0 where
  pub served :
      TypedHash (served (f (length w.entry.now)) (short 4 c) (room_in o)) n (length w.entry.now) (numbers o.offsets.now) (numbers o'.offsets.now) o.rows.now o'.rows.now
      o.elements.now.values.now o'.elements.now.values.now o.elements.now.bits.now o'.elements.now.bits.now w.exit.now c.entry.now c.exit.now
  pub same : SameLists o o'

pub record ViewServedIn (f : ViewRoom → Outcome (List Row)) (n : ℕ) (o o' : ViewOutput) (c : MutSlice ℕ) : Type 0 where
  pub served :
      TypedView (served (given f) (short 4 c) (view_room_in o)) n o.offsets.now o'.offsets.now o.sizes.now o'.sizes.now o.rows.now o'.rows.now
      o.elements.now.values.now o'.elements.now.values.now o.elements.now.bits.now o'.elements.now.bits.now c.entry.now c.exit.now
  pub same : SameViews o o'

pub record RepeatServedIn {A : Type 0} (numbers : List A → List ℤ) (f : RepeatRoom → Outcome (List Outer)) (n : ℕ) (o o' : OuterOutput A) (i i' : ListOutput A) (c : MutSlice ℕ) : Type 0 where
  pub served :
      TypedRepeat (served (given f) (short 6 c) (repeat_room_in o i)) n (numbers o.offsets.now) (numbers o'.offsets.now) o.rows.now o'.rows.now
      (numbers i.offsets.now) (numbers i'.offsets.now) i.rows.now i'.rows.now
      i.elements.now.values.now i'.elements.now.values.now i.elements.now.bits.now i'.elements.now.bits.now c.entry.now c.exit.now
  pub outer : SameOuters o o'
  pub lists : SameLists i i'

-- ---- how much to lend: x is what the measure comes to, f its lengths in the order of the slices, and `need` how many they are

-- 100 as above, or the measure's own
unfoldable pub measured : {A : Type 0} → Lent (Outcome A) → Bool → Outcome A
measured absent b = refused 100
measured (given x) b = gate (pick b 100 0) x

pub record TypedLengths {A : Type 0} (f : A → List ℕ) (x : Outcome A) (n : ℕ) (c c' : List ℕ) : Type 0 where
  pub number : n ≡ number_of x
  pub lengths : c' ≡ after f x c

abbrev pub LengthsServed : {A : Type 0} → (A → List ℕ) → ℕ → Lent (Outcome A) → ℕ → MutSlice ℕ → Type 0
LengthsServed f need x n c = TypedLengths f (measured x (short need c)) n c.entry.now c.exit.now
