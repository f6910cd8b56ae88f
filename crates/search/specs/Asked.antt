-- What a search is asked: the steps of a graph, and the starts that a list marks.
use Rattle.std.specs.Prelude.{◌≡◌, ℕ, ◌<◌, Bool, true, false, List, slice_index_or}

-- a step leads from a to b
abbrev pub Steps : (ℕ → ℕ → Bool) → ℕ → ℕ → Type 0
Steps leads a b = leads a b ≡ true

-- v is one of the n nodes, and marked
abbrev pub Marked : ℕ → List Bool → ℕ → Type 0
Marked n marks v = (v < n) × (slice_index_or marks v false ≡ true)
