-- What the rows of a matrix say, and what one pass over them adds.
use Rattle.std.specs.Prelude.{ℕ, Bool, ◌&&◌, ◌||◌}
use Rattle.offices.specs.Members.{row_holds}
use Rattle.matrix_office.specs.declared.matrix.Matrix.{Matrix}

abbrev pub matrix_over : Matrix → ℕ → ℕ → Bool
matrix_over m = row_holds m.rows

-- what was so already, and what follows once s is over every role that `below` holds
abbrev pub joined : (ℕ → ℕ → Bool) → ℕ → (ℕ → Bool) → ℕ → ℕ → Bool
joined over s below a b = over a b || (over a s && below b)
