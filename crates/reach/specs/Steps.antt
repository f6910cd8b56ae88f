-- The steps that a table has.
use Rattle.std.specs.Prelude.{◌≡◌, ℕ, Bool, false, ◌&&◌, ◌||◌, ◌==◌, nat_lt}
use Rattle.reach.specs.Rows.{rows_have}
use Rattle.reach.specs.declared.step_table.StepTable.{StepTable}

-- a step leads from the code a to the code b
abbrev pub has_step : StepTable → ℕ → ℕ → Bool
has_step t = rows_have t.rows

abbrev pub NoStep : StepTable → Type 0
NoStep t = (a b : ℕ) → has_step t a b ≡ false

-- the table with a step from u to v more; from 1,024 on there is no code
abbrev pub WithStep : StepTable → ℕ → ℕ → StepTable → Type 0
WithStep t u v t' = (a b : ℕ) → has_step t' a b ≡ (has_step t a b || ((a == u && nat_lt u 1024) && (b == v && nat_lt v 1024)))
