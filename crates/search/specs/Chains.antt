-- Chains in a graph, the best of them, and how many nodes they lead to.
use Rattle.std.specs.Prelude.{◌≡◌, ℕ, zero, suc, ◌+◌, ◌<◌, ◌≤◌, Bool, cond, ◌⊎◌, List, [], ◌∷◌, length, Decides}

-- xs is a chain from a to b: each node is reached from the one before by a step S, and one node alone is a chain
pub data Chain (S : ℕ → ℕ → Type 0) : ℕ → ℕ → List ℕ → Type 0 where
  alone : {a : ℕ} → Chain S a a (a ∷ [])
  onward : {a b c : ℕ} {xs : List ℕ} → S a b → Chain S b c xs → Chain S a c (a ∷ xs)

-- some chain leads from a to b
abbrev pub Reaches : (ℕ → ℕ → Type 0) → ℕ → ℕ → Type 0
Reaches S a b = (xs : List ℕ) × Chain S a b xs

-- some chain leads from one of the starts to b
abbrev pub Reached : (ℕ → ℕ → Type 0) → (ℕ → Type 0) → ℕ → Type 0
Reached S Start b = (a : ℕ) × Start a × Reaches S a b

-- the same list, or the smaller number where the two first differ
abbrev pub Before : List ℕ → List ℕ → Type 0
Before [] ys = Unit {0}
Before (x ∷ xs) [] = ⊥
Before (x ∷ xs) (y ∷ ys) = (x < y) ⊎ ((x ≡ y) × Before xs ys)

-- the best chain from the starts to b: none is shorter, and of those as long it comes before each
pub record Best (S : ℕ → ℕ → Type 0) (Start : ℕ → Type 0) (b : ℕ) (xs : List ℕ) : Type 0 where
  pub from : ℕ
  pub starts : Start from
  pub leads : Chain S from b xs
  pub shortest : (a : ℕ) (ys : List ℕ) → Start a → Chain S a b ys → length xs ≤ length ys
  pub first : (a : ℕ) (ys : List ℕ) → Start a → Chain S a b ys → length ys ≡ length xs → Before xs ys

-- v is nearer to the starts than b, by fewest steps
abbrev pub Nearer : (ℕ → ℕ → Type 0) → (ℕ → Type 0) → ℕ → ℕ → Type 0
Nearer S Start b v =
    (a : ℕ) × (xs : List ℕ) × Start a × Chain S a v xs
    × ((a' : ℕ) (ys : List ℕ) → Start a' → Chain S a' b ys → length xs < length ys)

-- how many of the numbers below n pass the test
abbrev pub tally : (ℕ → Bool) → ℕ → ℕ
tally p zero = 0
tally p (suc n) = tally p n + cond (p n) 1 0

-- exactly c of the numbers below n have P
abbrev pub Number : ℕ → (ℕ → Type 0) → ℕ → Type 0
Number n P c = (p : ℕ → Bool) × ((v : ℕ) → v < n → Decides (p v) (P v)) × (c ≡ tally p n)
