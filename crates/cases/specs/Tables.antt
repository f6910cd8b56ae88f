-- A table of steps, a row for each node.
use Rattle.std.specs.Prelude.{ℕ, Bool, false, ◌&&◌, List, [], nat_lt, slice_index_or}

-- whether a step leads from a to b
abbrev pub cell : ℕ → List (List Bool) → ℕ → ℕ → Bool
cell n rows a b = (nat_lt a n && nat_lt b n) && slice_index_or (slice_index_or rows a []) b false
