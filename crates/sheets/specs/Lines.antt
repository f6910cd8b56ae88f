-- The lines of a sheet.
use Rattle.std.specs.Prelude.{◌≡◌, ℕ, ◌<◌, cond, ◌⊎◌, List, [], ◌∷◌, ◌++◌, length, drop, Some, None, Option, ◌==◌, ◌≢◌, slice_index}
use Rattle.std.specs.Borrow.{Bor}
use Rattle.sheets.specs.declared.lines.Lines.{Lines}

-- one byte more in front of the first line
abbrev pub onto : ℕ → List (List ℕ) → List (List ℕ)
onto b [] = (b ∷ []) ∷ []
onto b (line ∷ lines) = (b ∷ line) ∷ lines

-- a line feed ends each line and is no part of it, and may be lacking after the last
unfoldable pub lines_of : List ℕ → List (List ℕ)
lines_of [] = []
lines_of (b ∷ bs) = cond (b == 10) ([] ∷ lines_of bs) (onto b (lines_of bs))

-- the lines that are still to come
abbrev pub lines_left : Lines → List (List ℕ)
lines_left lines = lines_of (drop lines.place lines.sheet.now)

-- what one call gives: the first of the lines that are left, with the others still to come, or nothing at the end
abbrev pub Gives : Lines → Option (Bor (List ℕ)) → Lines → Type 0
Gives before None after = (lines_left before ≡ []) × (after.place ≡ before.place)
Gives before (Some line) after = lines_left before ≡ line.now ∷ lines_left after

-- the same call goes on in the same sheet
abbrev pub Goes : Lines → Option (Bor (List ℕ)) → Lines → Type 0
Goes before line after = (after.sheet ≡ before.sheet) × Gives before line after

-- lines put together again, each with its line feed
abbrev pub fed : List (List ℕ) → List ℕ
fed [] = []
fed (line ∷ lines) = line ++ (10 ∷ fed lines)

-- no line holds a line feed
abbrev pub Feedless : List (List ℕ) → Type 0
Feedless [] = Unit {0}
Feedless (line ∷ lines) = ((k : ℕ) → k < length line → slice_index line k ≢ 10) × Feedless lines

-- a sheet that is empty or ends with a line feed
abbrev pub Ended : List ℕ → Type 0
Ended [] = Unit {0}
Ended (b ∷ []) = b ≡ 10
Ended (b ∷ c ∷ bs) = Ended (c ∷ bs)

-- the lines of a sheet hold no line feed, and make the sheet again, with the line feed that may be lacking at its end
abbrev pub LinesMakeTheSheet : Type 0
LinesMakeTheSheet =
    (sheet : List ℕ)
    → Feedless (lines_of sheet)
    × ((Ended sheet × (fed (lines_of sheet) ≡ sheet)) ⊎ ((Ended sheet → ⊥) × (fed (lines_of sheet) ≡ sheet ++ (10 ∷ []))))
