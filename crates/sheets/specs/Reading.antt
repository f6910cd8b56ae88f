-- What a line reads as.
use Rattle.std.specs.Prelude.{◌≡◌, ℕ, ◌+◌, ◌⊎◌, List, length, take, drop, Some, None, Option, Ok, Err, Result, ◌≢◌}
use Rattle.std.specs.Borrow.{Bor}
use Rattle.sheet_words.specs.declared.Word.{Word}
use Rattle.sheet_words.specs.declared.Word.TheVariants.{Pair}
use Rattle.sheet_words.specs.declared.Word.TheVariants as sole
use Rattle.sheet_words.specs.Words.{word_of}
use Rattle.sheets.specs.declared.fault.Fault.{Fault}
use Rattle.sheets.specs.declared.fault.Fault.TheVariants.{WrongLength, UnknownWord, BadField}
use Rattle.sheets.specs.declared.token.Token.{Token}
use Rattle.sheets.specs.declared.token.Token.TheVariants.{Box}
use Rattle.sheets.specs.Columns.{HoldsNumber}
use Rattle.sheets.specs.Slips.{Slip, meaning, written, blank, Mark, Writable}

-- columns 9 to 14, columns 15 to 20, and both
abbrev pub first : List ℕ → List ℕ
first line = take 6 (drop 8 line)

abbrev pub second : List ℕ → List ℕ
second line = take 6 (drop 14 line)

abbrev pub mark_in : List ℕ → List ℕ
mark_in line = take 12 (drop 8 line)

-- the column of the first bad field, where A says that the first is good and B that the second is
abbrev pub BadAt : Type 0 → Type 0 → ℕ → Type 0
BadAt A B column = ((column ≡ 9) × (A → ⊥)) ⊎ ((column ≡ 15) × A × (B → ⊥))

-- the bad field of a line, by the word that it begins with
abbrev pub FirstBad : Word → List ℕ → ℕ → Type 0
FirstBad (Pair w) line = BadAt (HoldsNumber (first line)) (HoldsNumber (second line))
FirstBad sole.Handback line = BadAt (HoldsNumber (first line)) (second line ≡ blank)
FirstBad sole.Box line = λ column. (column ≡ 9) × (Mark (mark_in line) → ⊥)
FirstBad sole.Send line = BadAt (first line ≡ blank) (second line ≡ blank)

-- a line reads as a token whose line it is, or as its first fault
abbrev pub Reads : List ℕ → Result Token Fault → Type 0
Reads line (Ok t) = Writable (meaning t) × (line ≡ written (meaning t))
Reads line (Err WrongLength) = length line ≢ 20
Reads line (Err UnknownWord) = (length line ≡ 20) × ((w : Word) → take 8 line ≢ word_of w)
Reads line (Err (BadField column)) =
    (length line ≡ 20) × ((w : Word) × (take 8 line ≡ word_of w) × FirstBad w line column)

-- an answer is a token of this meaning
abbrev pub Means : Result Token Fault → Slip → Type 0
Means (Ok t) s = meaning t ≡ s
Means (Err e) s = ⊥

-- the line of a token that can be written reads as that token
abbrev pub ReadsBack : List ℕ → Result Token Fault → Type 0
ReadsBack line r = (t : Token) → Writable (meaning t) → line ≡ written (meaning t) → Means r (meaning t)

-- the shelf mark is the bytes of the line from column 9 on, at their own place in memory
abbrev pub Lent : Bor (List ℕ) → Bor (List ℕ) → Type 0
Lent line mark =
    (mark.now ≡ mark_in line.now) × (mark.ref_ptr.0 ≡ line.ref_ptr.0) × (mark.ref_ptr.1 ≡ line.ref_ptr.1 + 8)

abbrev pub BoxLent : Bor (List ℕ) → Result Token Fault → Type 0
BoxLent line r = (mark : Bor (List ℕ)) → r ≡ Ok (Box mark) → Lent line mark

-- what was read of a line's two fields, or the first that is bad
abbrev pub BothRead : {A B : Type 0} → Option A → Option B → Result (A × B) Fault → Type 0
BothRead a b (Ok p) = (a ≡ Some p.0) × (b ≡ Some p.1)
BothRead a b (Err WrongLength) = ⊥
BothRead a b (Err UnknownWord) = ⊥
BothRead a b (Err (BadField column)) = BadAt (a ≢ None) (b ≢ None) column
