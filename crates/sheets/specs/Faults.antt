-- The refusal of a fault, and its column.
use Rattle.std.specs.Prelude.{ℕ}
use Rattle.answers.specs.declared.Refusal.{Refusal}
use Rattle.answers.specs.declared.Refusal.TheVariants as refused
use Rattle.sheets.specs.declared.fault.Fault.{Fault}
use Rattle.sheets.specs.declared.fault.Fault.TheVariants.{WrongLength, UnknownWord, BadField}

abbrev pub refusal_of : Fault → Refusal
refusal_of WrongLength = refused.WrongLength
refusal_of UnknownWord = refused.UnknownWord
refusal_of (BadField column) = refused.BadField

-- the first column of what is bad, and 0 for the whole line
abbrev pub column_of : Fault → ℕ
column_of WrongLength = 0
column_of UnknownWord = 1
column_of (BadField column) = column
