-- What stands in the columns of a line that reads.
use Rattle.std.specs.Prelude.{◌≡◌, ℕ, ◌+◌, ◌*◌, ◌<◌, ◌≤◌, ◌⊎◌, List, ◌≢◌, slice_index}
use Rattle.sheets.specs.Columns.{counts}
use Rattle.sheets.specs.Slips.{Slip, pair_slip, handback_slip, box_slip, send_slip, blank, Mark}
use Rattle.sheets.specs.Reading.{first, second, mark_in}

-- the number that the digits of six columns make
abbrev pub value : List ℕ → ℕ
value field =
    counts (slice_index field 0) * 100000 + counts (slice_index field 1) * 10000 + counts (slice_index field 2) * 1000
    + counts (slice_index field 3) * 100 + counts (slice_index field 4) * 10 + counts (slice_index field 5)

-- a number as it should stand in its six columns
pub record Proper (field : List ℕ) (n : ℕ) : Type 0 where
  -- no stray byte: each is a space or a digit
  pub clean : (i : ℕ) → i < 6 → (slice_index field i ≡ 32) ⊎ ((48 ≤ slice_index field i) × (slice_index field i ≤ 57))
  -- not blank, nor left-justified: a digit in the last column, and no space on a digit's right
  pub ended : slice_index field 5 ≢ 32
  pub right : (i : ℕ) → i < 5 → slice_index field (i + 1) ≡ 32 → slice_index field i ≡ 32
  -- no leading zero, unless it is the whole number
  pub lead : slice_index field 0 ≢ 48
  pub next : (i : ℕ) → i < 4 → slice_index field i ≡ 32 → slice_index field (i + 1) ≢ 48
  -- the digits make the number
  pub makes : value field ≡ n

abbrev pub Clean : Slip → List ℕ → Type 0
Clean (pair_slip w a b) line = Proper (first line) a × Proper (second line) b
Clean (handback_slip a) line = Proper (first line) a × (second line ≡ blank)
Clean (box_slip mark) line = (mark_in line ≡ mark) × Mark mark
Clean send_slip line = (first line ≡ blank) × (second line ≡ blank)
