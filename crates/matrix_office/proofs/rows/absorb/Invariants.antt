use Rattle.std.proofs.Common.{◌≡◌, ℕ, ◌<◌, ◌≤◌, get_or}
use Rattle.offices.specs.Members.{holds}
use Rattle.matrix_office.specs.Rows.{joined}
use Rattle.offices.specs.Members.{row_holds, nobody}
use Rattle.matrix_office.proofs.rows.absorb.Given as goal

abbrev pub invariant-loop-row : goal.invariant-loop-row
invariant-loop-row l =
    ((a b : ℕ) → a < l.row-index → row_holds l.rows a b ≡ joined (row_holds l.initial.rows) l.senior (holds l.below) a b)
    × ((a : ℕ) → l.row-index ≤ a → get_or l.rows a nobody ≡ get_or l.initial.rows a nobody)
