-- How many different things there are of a kind.
use Rattle.std.specs.Prelude.{ℕ, ◌≤◌, List, [], ◌∷◌, length}
use mathlib.Core.List.{Memᴰ}

-- no two of the list are the same
abbrev pub AllDiffer : {A : Type 0} → List A → Type 0
AllDiffer [] = Unit {0}
AllDiffer (x ∷ xs) = (Memᴰ x xs → ⊥) × AllDiffer xs

-- at least n different ones have P
abbrev pub Many : {A : Type 0} → (A → Type 0) → ℕ → Type 0
Many {A} P n = (xs : List A) × AllDiffer xs × ((x : A) → Memᴰ x xs → P x) × (n ≤ length xs)
