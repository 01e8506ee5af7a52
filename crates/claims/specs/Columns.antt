-- What a public function takes, at entry and at exit, and what it means that a call is a run, written into the slices that were lent. A function over
-- offsets of either width is spoken of at any type of offsets (`Width`), so at both, `i32` and `i64`.
use Rattle.std.specs.Prelude.{List, ℕ, ℤ, length}
use Rattle.std.specs.Borrow.{MutBor}
use Rattle.std.specs.declared.clone.Clone as CloneOf
use Rattle.std.specs.declared.cmp.PartialEq as PartialEqOf
use Rattle.std.specs.declared.cmp.PartialOrd as PartialOrdOf
use Rattle.std.specs.declared.ops.Add as AddOf
use Rattle.std.specs.declared.ops.Mul as MulOf
use Rattle.std.specs.declared.ops.Sub as SubOf
use Rattle.std.specs.contracts.prelude.I32Clone.TheImpl as I32Clone
use Rattle.std.specs.contracts.prelude.I32PartialEq.TheImpl as I32PartialEq
use Rattle.std.specs.contracts.prelude.I32PartialOrd.TheImpl as I32PartialOrd
use Rattle.std.specs.contracts.prelude.I32Add.TheImpl as I32Add
use Rattle.std.specs.contracts.prelude.I32Mul.TheImpl as I32Mul
use Rattle.std.specs.contracts.prelude.I32Sub.TheImpl as I32Sub
use Rattle.std.specs.contracts.prelude.I64Clone.TheImpl as I64Clone
use Rattle.std.specs.contracts.prelude.I64PartialEq.TheImpl as I64PartialEq
use Rattle.std.specs.contracts.prelude.I64PartialOrd.TheImpl as I64PartialOrd
use Rattle.std.specs.contracts.prelude.I64Add.TheImpl as I64Add
use Rattle.std.specs.contracts.prelude.I64Mul.TheImpl as I64Mul
use Rattle.std.specs.contracts.prelude.I64Sub.TheImpl as I64Sub
use Rattle.model.specs.contracts.offsets.I32Offset.TheImpl as I32Offset
use Rattle.model.specs.contracts.offsets.I64Offset.TheImpl as I64Offset
use Rattle.model.specs.declared.offsets.Offset as OffsetOf
use denote.Exit as Exit
use denote.Param as Param
use denote.Param.Laws as ParamLaws
use denote.Param.Shared as Shared
use denote.RattleType.{RattleType}
use denote.Struct.Field as Field
use denote.Struct.Laws as FieldLaws
use denote.Triple.Both.{Both}
use mathlib.Core.Path.{refl}
use mir.Syntax.{Dict, ty_int, w32, w64}
use Rattle.model.specs.Basics.{absent, given}
use Rattle.model.specs.Limits.{Limits, narrow}
use Rattle.model.specs.Form.{ValueRoom, RepeatRoom}
use Rattle.model.specs.Rows.{ListCall}
use Rattle.model.specs.Column.{Column, Arguments}
use Rattle.model.specs.View.{View}
use Rattle.model.specs.Hash.{Hashed}
use Rattle.model.specs.Call.{Call, End, list, recipe, window, import_view, export_view, grade_column, grade_recipe, hashed}
use Rattle.model.specs.Contract.{MutSlice}
use Rattle.model.specs.Run.{Run, list_run_end, value_run_end, repeat_run_end, recipe_run_end, view_run_end, grade_run_end, graded_run_end, hashed_run_end}
use Rattle.model.specs.Answers.{GradeAnswer, ListAnswer, RepeatAnswer, ValueAnswer}
use Rattle.column.specs.Columns.{column_in, values_in}
use Rattle.column.specs.Outputs.{room_in, value_room_in, repeat_room_in, SameLists, SameOuters, SameValues}
use Rattle.column.specs.declared.elements.ValueOutput.{ValueOutput}
use Rattle.column.specs.declared.lists.ListOutput.{ListOutput}
use Rattle.column.specs.declared.lists.OuterOutput.{OuterOutput}
use Rattle.recipe_refusal.specs.Refused.{recipe_in}
use Rattle.recipe_refusal.specs.declared.Inputs.{Inputs}
use Rattle.recipe_refusal.specs.declared.Recipe.{Recipe}
use Rattle.view_checks.specs.Views.{view_room_in}
use Rattle.view_checks.specs.declared.ViewOutput.{ViewOutput}
use Rattle.views.specs.ViewOutputs.{SameViews}
use Rattle.tally.specs.Tallies.{tally_of}
use Rattle.tally.specs.declared.RecipeAnswer.{RecipeAnswer}
use Rattle.tally.specs.declared.Tally.{Tally}

-- a type of offsets: what a contract over `O: Offset` is of
pub record Width : Type 2 where
  pub row : RattleType
  pub laws : ParamLaws.Laws row
  pub copy : ParamLaws.IsCopy row
  pub Offset : OffsetOf.Ghosts row.Denot
  pub offset : Dict
  pub Clone : CloneOf.Ghosts row.Denot
  pub clone : Dict
  pub PartialOrd : PartialOrdOf.Ghosts row.Denot
  pub partial_ord : Dict
  pub PartialEq : PartialEqOf.Ghosts row.Denot
  pub partial_eq : Dict
  pub Add : AddOf.Ghosts row.Denot row.Denot row.Denot
  pub add : Dict
  pub Sub : SubOf.Ghosts row.Denot row.Denot row.Denot
  pub sub : Dict
  pub Mul : MulOf.Ghosts row.Denot row.Denot row.Denot
  pub mul : Dict

-- its values
abbrev pub Offsets : Width → Type 0
Offsets W = W.row.Denot

-- what its width decides, and the numbers that offsets are
abbrev pub limits : Width → Limits
limits W = W.Offset.LIMITS

abbrev pub numbers : (W : Width) → List (Offsets W) → List ℤ
numbers W = W.Offset.numbers

-- a contract over `O: Offset` at a type of offsets
abbrev pub at : (W : Width)
    → {R : (O : RattleType) → ParamLaws.Laws O → ParamLaws.IsCopy O → Type 1}
    → ((O : RattleType) (l : ParamLaws.Laws O) (c : ParamLaws.IsCopy O) → OffsetOf.Ghosts O.Denot → Dict → CloneOf.Ghosts O.Denot → Dict → PartialOrdOf.Ghosts O.Denot → Dict → PartialEqOf.Ghosts O.Denot → Dict
    → AddOf.Ghosts O.Denot O.Denot O.Denot → Dict → SubOf.Ghosts O.Denot O.Denot O.Denot → Dict → MulOf.Ghosts O.Denot O.Denot O.Denot → Dict → R O l c)
    → R W.row W.laws W.copy
at W F = F W.row W.laws W.copy W.Offset W.offset W.Clone W.clone W.PartialOrd W.partial_ord W.PartialEq W.partial_eq W.Add W.add W.Sub W.sub W.Mul W.mul

-- 32 bits, and 64
abbrev pub i32 : Width
i32 = record {
  row = Param.arg (ty_int w32) Exit.no (Field.i32-field).row;
  laws = ParamLaws.arg_laws (ty_int w32) Exit.no (Field.i32-field).row (ParamLaws.of_field Field.i32-field FieldLaws.i32-laws refl (Shared.copy_shared Field.i32-field FieldLaws.i32-copy)) refl;
  copy = ParamLaws.arg_copy (ty_int w32) Exit.no (Field.i32-field).row (ParamLaws.of_copyable Field.i32-field FieldLaws.i32-copy) refl;
  Offset = I32Offset.ghosts;
  offset = I32Offset.dict;
  Clone = I32Clone.ghosts;
  clone = I32Clone.dict;
  PartialOrd = I32PartialOrd.ghosts;
  partial_ord = I32PartialOrd.dict;
  PartialEq = I32PartialEq.ghosts;
  partial_eq = I32PartialEq.dict;
  Add = I32Add.ghosts;
  add = I32Add.dict;
  Sub = I32Sub.ghosts;
  sub = I32Sub.dict;
  Mul = I32Mul.ghosts;
  mul = I32Mul.dict;
}

abbrev pub i64 : Width
i64 = record {
  row = Param.arg (ty_int w64) Exit.no (Field.i64-field).row;
  laws = ParamLaws.arg_laws (ty_int w64) Exit.no (Field.i64-field).row (ParamLaws.of_field Field.i64-field FieldLaws.i64-laws refl (Shared.copy_shared Field.i64-field FieldLaws.i64-copy)) refl;
  copy = ParamLaws.arg_copy (ty_int w64) Exit.no (Field.i64-field).row (ParamLaws.of_copyable Field.i64-field FieldLaws.i64-copy) refl;
  Offset = I64Offset.ghosts;
  offset = I64Offset.dict;
  Clone = I64Clone.ghosts;
  clone = I64Clone.dict;
  PartialOrd = I64PartialOrd.ghosts;
  partial_ord = I64PartialOrd.dict;
  PartialEq = I64PartialEq.ghosts;
  partial_eq = I64PartialEq.dict;
  Add = I64Add.ghosts;
  add = I64Add.dict;
  Sub = I64Sub.ghosts;
  sub = I64Sub.dict;
  Mul = I64Mul.ghosts;
  mul = I64Mul.dict;
}

-- a parameter, at entry and at exit
abbrev pub Passed : Type 0 → Type 0
Passed A = Both A A

abbrev pub MutPassed : Type 0 → Type 0
MutPassed A = Passed (MutBor A)

-- 32-bit offsets are the numbers that they hold, as 64-bit ones are
abbrev pub itself : List ℤ → List ℤ
itself l = l

-- a call of q that answered a and had o for its output is a run, and o holds as it returns the slices that were lent in it; L and n are the limits
-- and the numbers of the width
abbrev pub list_ended : {A : Type 0} → (List A → List ℤ) → ListAnswer → ListOutput A → End
list_ended n a o = list_run_end a (n o.offsets.now) o.rows.now o.elements.now.values.now o.elements.now.bits.now

abbrev pub ListRuns : {A : Type 0} → Limits → (List A → List ℤ) → ListCall Column Arguments → ListAnswer → MutPassed (ListOutput A) → Type 0
ListRuns L n q a o = Run L (list q (room_in o.entry.now)) (list_ended n a o.exit.now) × SameLists o.entry.now o.exit.now

-- the same with a value answer
abbrev pub ValueRuns : Limits → (ValueRoom → Call Column Arguments View) → ValueAnswer → MutPassed ValueOutput → Type 0
ValueRuns L q a o = Run L (q (value_room_in o.entry.now)) (value_run_end a o.exit.now.values.now o.exit.now.bits.now) × SameValues o.entry.now o.exit.now

-- and with list-repeat's, whose outer lists are b and inner lists o
abbrev pub RepeatRuns : {A : Type 0} → Limits → (List A → List ℤ) → (RepeatRoom → Call Column Arguments View) → RepeatAnswer → MutPassed (OuterOutput A) → MutPassed (ListOutput A) → Type 0
RepeatRuns L n q a b o =
    Run L
    (q (repeat_room_in b.entry.now o.entry.now))
    (repeat_run_end a (n b.exit.now.offsets.now) b.exit.now.rows.now (n o.exit.now.offsets.now) o.exit.now.rows.now o.exit.now.elements.now.values.now o.exit.now.elements.now.bits.now)
    × SameOuters b.entry.now b.exit.now
    × SameLists o.entry.now o.exit.now

-- the trays l and m and the output o hold, as a call returns, the slices that were lent in them
abbrev pub SameThree : {A : Type 0} → MutPassed (ListOutput A) → MutPassed (ListOutput A) → MutPassed (ListOutput A) → Type 0
SameThree l m o = SameLists l.entry.now l.exit.now × SameLists m.entry.now m.exit.now × SameLists o.entry.now o.exit.now

-- a recipe p of station s on its inputs i, through the trays l and m into o; t is the tally that went in
abbrev pub RecipeRuns : {A : Type 0} → Limits → (List A → List ℤ) → ℕ → Recipe → Inputs A → MutPassed (ListOutput A) → MutPassed (ListOutput A) → MutPassed (ListOutput A) → Tally → RecipeAnswer → Type 0
RecipeRuns L n s p i l m o t a =
    Run L (recipe s (recipe_in p) (column_in n i.list) (column_in n i.second) (values_in i.arguments) (room_in l.entry.now) (room_in m.entry.now) (room_in o.entry.now) (tally_of t))
    (recipe_run_end a.answer
    (n o.exit.now.offsets.now) o.exit.now.rows.now o.exit.now.elements.now.values.now o.exit.now.elements.now.bits.now
    (n l.exit.now.offsets.now) l.exit.now.rows.now l.exit.now.elements.now.values.now l.exit.now.elements.now.bits.now
    (n m.exit.now.offsets.now) m.exit.now.rows.now m.exit.now.elements.now.values.now m.exit.now.elements.now.bits.now
    (given (tally_of a.tally)))
    × SameThree l m o

-- a recipe looked at for rows a up to b, which names no station and takes no tally
abbrev pub WindowRuns : {A : Type 0} → Limits → (List A → List ℤ) → Recipe → ℕ → ℕ → Inputs A → MutPassed (ListOutput A) → MutPassed (ListOutput A) → MutPassed (ListOutput A) → ListAnswer → Type 0
WindowRuns L n p a b i l m o w =
    Run L (window (recipe_in p) a b (column_in n i.list) (column_in n i.second) (values_in i.arguments) (room_in l.entry.now) (room_in m.entry.now) (room_in o.entry.now))
    (recipe_run_end w
    (n o.exit.now.offsets.now) o.exit.now.rows.now o.exit.now.elements.now.values.now o.exit.now.elements.now.bits.now
    (n l.exit.now.offsets.now) l.exit.now.rows.now l.exit.now.elements.now.values.now l.exit.now.elements.now.bits.now
    (n m.exit.now.offsets.now) m.exit.now.rows.now m.exit.now.elements.now.values.now m.exit.now.elements.now.bits.now
    absent)
    × SameThree l m o

-- with a work area w
abbrev pub HashRuns : Hashed Column → ListAnswer → MutPassed (ListOutput ℤ) → MutSlice ℕ → Type 0
HashRuns h a o w =
    Run narrow (hashed h (length w.entry.now) (room_in o.entry.now))
    (hashed_run_end a o.exit.now.offsets.now o.exit.now.rows.now o.exit.now.elements.now.values.now o.exit.now.elements.now.bits.now w.exit.now)
    × SameLists o.entry.now o.exit.now

-- an import, and an export, that answered a
abbrev pub ImportRuns : View → ListAnswer → MutPassed (ListOutput ℤ) → Type 0
ImportRuns c a o = Run narrow (import_view c (room_in o.entry.now)) (list_ended itself a o.exit.now) × SameLists o.entry.now o.exit.now

abbrev pub ExportRuns : Column → ListAnswer → MutPassed ViewOutput → Type 0
ExportRuns c a o =
    Run narrow (export_view c (view_room_in o.entry.now))
    (view_run_end a o.exit.now.offsets.now o.exit.now.sizes.now o.exit.now.rows.now o.exit.now.elements.now.values.now o.exit.now.elements.now.bits.now)
    × SameViews o.entry.now o.exit.now

-- a column graded by k that answered a, g being the grades
abbrev pub GradeRuns : ℕ → Column → GradeAnswer → MutSlice ℕ → Type 0
GradeRuns k c a g = Run narrow (grade_column k c (length g.entry.now)) (grade_run_end a g.exit.now)

-- a recipe graded by k into g, the rest as of a recipe
abbrev pub GradedRuns : ℕ → ℕ → Recipe → Inputs ℤ → MutPassed (ListOutput ℤ) → MutPassed (ListOutput ℤ) → MutPassed (ListOutput ℤ) → MutSlice ℕ → Tally → RecipeAnswer → Type 0
GradedRuns k s p i l m o g t a =
    Run narrow (grade_recipe k s (recipe_in p) (column_in itself i.list) (column_in itself i.second) (values_in i.arguments) (room_in l.entry.now) (room_in m.entry.now) (room_in o.entry.now) (length g.entry.now) (tally_of t))
    (graded_run_end a.answer
    o.exit.now.offsets.now o.exit.now.rows.now o.exit.now.elements.now.values.now o.exit.now.elements.now.bits.now
    l.exit.now.offsets.now l.exit.now.rows.now l.exit.now.elements.now.values.now l.exit.now.elements.now.bits.now
    m.exit.now.offsets.now m.exit.now.rows.now m.exit.now.elements.now.values.now m.exit.now.elements.now.bits.now
    (tally_of a.tally) g.exit.now)
    × SameThree l m o
