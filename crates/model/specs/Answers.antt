-- What a function answers: what it counts, or why it is refused.
use Rattle.std.specs.Prelude.{ℕ, Result, Ok, Err}
use Rattle.model.specs.declared.Refusal.{Refusal}
use Rattle.model.specs.declared.Refusal.TheVariants.{BadOffsets, ShortBitmap, RowCountsDiffer, WideIndex, ZeroStride, WideStride, NegativeCount, TooMany, ShortOutput, MalformedRecipe, ViewOutside, ZeroRun, BadStartingBit, ShortArea, NoSuchStation, RowsOutside}
use Rattle.model.specs.declared.ListCounts.{ListCounts}
use Rattle.model.specs.declared.ValueCounts.{ValueCounts}
use Rattle.model.specs.declared.RepeatCounts.{RepeatCounts}
use Rattle.model.specs.declared.ListSlots.{ListSlots}
use Rattle.model.specs.declared.ValueSlots.{ValueSlots}
use Rattle.model.specs.declared.RepeatSlots.{RepeatSlots}
use Rattle.model.specs.declared.TrayElements.{TrayElements}

-- "A refusal returns its number alone"
abbrev pub number_of : Refusal → ℕ
number_of BadOffsets = 1
number_of ShortBitmap = 2
number_of RowCountsDiffer = 3
number_of WideIndex = 4
number_of ZeroStride = 5
number_of WideStride = 6
number_of NegativeCount = 7
number_of TooMany = 8
number_of ShortOutput = 9
number_of MalformedRecipe = 10
number_of ViewOutside = 11
number_of ZeroRun = 12
number_of BadStartingBit = 13
number_of ShortArea = 14
number_of NoSuchStation = 15
number_of RowsOutside = 16

-- the number of the refusal, 0 where there is none
abbrev pub refused_by : {A : Type 0} → Result A Refusal → ℕ
refused_by (Ok x) = 0
refused_by (Err k) = number_of k

abbrev pub ListAnswer : Type 0
ListAnswer = Result ListCounts Refusal

abbrev pub ValueAnswer : Type 0
ValueAnswer = Result ValueCounts Refusal

abbrev pub RepeatAnswer : Type 0
RepeatAnswer = Result RepeatCounts Refusal

abbrev pub GradeAnswer : Type 0
GradeAnswer = Result ℕ Refusal

abbrev pub ListLengths : Type 0
ListLengths = Result ListSlots Refusal

abbrev pub ValueLengths : Type 0
ValueLengths = Result ValueSlots Refusal

abbrev pub RepeatLengths : Type 0
RepeatLengths = Result RepeatSlots Refusal

abbrev pub RecipeLimits : Type 0
RecipeLimits = Result TrayElements Refusal
