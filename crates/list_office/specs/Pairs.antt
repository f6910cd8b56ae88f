-- Lists of pairs, and the seniority that follows from them.
use Rattle.std.specs.Prelude.{◌≡◌, ℕ, ◌<◌, Bool, true, false, ◌&&◌, ◌||◌, List, [], ◌∷◌, fold, ◌==◌}
use Rattle.offices.specs.Order.{Order, itself_alone, grown}
use Rattle.list_office.specs.declared.pair.Pair.{Pair}

-- the pair of a and b is among these
abbrev pub has_pair : List Pair → ℕ → ℕ → Bool
has_pair [] a b = false
has_pair (p ∷ ps) a b = (a == p.senior && b == p.junior) || has_pair ps a b

-- each of n roles over itself, and then each pair with what follows from it
unfoldable pub closed_by : ℕ → List Pair → ℕ → ℕ → Bool
closed_by n ps = fold (λ over p. grown over p.senior p.junior) (itself_alone n) ps

-- the steps are the pairs
abbrev pub Rows : (ℕ → ℕ → Bool) → List Pair → Type 0
Rows steps ps = (a b : ℕ) → steps a b ≡ has_pair ps a b

-- pairs of existing roles, and no two roles each over the other
pub record Acyclic (n : ℕ) (ps : List Pair) : Type 0 where
  pub inside : (a b : ℕ) → has_pair ps a b ≡ true → (a < n) × (b < n)
  pub order : Order n (closed_by n ps)
