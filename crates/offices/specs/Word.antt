-- The bits of a number.
use Rattle.std.specs.Prelude.{ℕ, Bool, ◌==◌}
use Rattle.std.specs.Int.{bit_at}

unfoldable pub bit : ℕ → ℕ → Bool
bit w i = bit_at w i == 1
