-- What the writers leave in the caller's line.
use Rattle.std.specs.Prelude.{◌≡◌, ℕ, ◌≤◌, ◌⊎◌, List, ◌++◌, length, Ok, Err, Result, ◌≢◌, slice_index}
use Rattle.answers.specs.declared.Refusal.{Refusal}
use Rattle.answers.specs.declared.Refusal.TheVariants.{WrongLength, BadField}
use Rattle.sheets.specs.declared.token.Token.{Token}
use Rattle.sheets.specs.Columns.{six}
use Rattle.sheets.specs.Slips.{Slip, meaning, written, Writable}

-- the bytes `line`, if there is room for exactly that many and they can be written; else all is as it was
abbrev pub Put : ℕ → Type 0 → List ℕ → List ℕ → Result (Unit {0}) Refusal → List ℕ → Type 0
Put size Good line before (Ok u) after = (length before ≡ size) × Good × (after ≡ line)
Put size Good line before (Err e) after =
    (((length before ≢ size) × (e ≡ WrongLength)) ⊎ ((length before ≡ size) × (Good → ⊥) × (e ≡ BadField)))
    × (after ≡ before)

abbrev pub PutSlip : Slip → List ℕ → Result (Unit {0}) Refusal → List ℕ → Type 0
PutSlip s = Put 20 (Writable s) (written s)

-- the line of what can be written, and of nothing else
abbrev pub LineOf : Slip → Result (List ℕ) Refusal → Type 0
LineOf s (Ok line) = Writable s × (line ≡ written s)
LineOf s (Err e) = (Writable s → ⊥) × (e ≡ BadField)

abbrev pub Writes : Token → List ℕ → Result (Unit {0}) Refusal → List ℕ → Type 0
Writes t = PutSlip (meaning t)

-- four numbers, each in six columns
abbrev pub four : List ℕ → List ℕ
four ns = six (slice_index ns 0) ++ (six (slice_index ns 1) ++ (six (slice_index ns 2) ++ six (slice_index ns 3)))

abbrev pub FourFit : List ℕ → Type 0
FourFit ns = (slice_index ns 0 ≤ 999999) × (slice_index ns 1 ≤ 999999) × (slice_index ns 2 ≤ 999999) × (slice_index ns 3 ≤ 999999)

abbrev pub PutFour : List ℕ → List ℕ → Result (Unit {0}) Refusal → List ℕ → Type 0
PutFour ns = Put 24 (FourFit ns) (four ns)
