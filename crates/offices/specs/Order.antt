-- Seniority as a partial order, the closure of some pairs, and what one pair adds.
use Rattle.std.specs.Prelude.{◌≡◌, ℕ, ◌<◌, Bool, true, ◌&&◌, ◌||◌, Decides, ◌==◌, nat_lt}
use Rattle.search.specs.Chains.{Reaches}

-- a partial order on the roles below n, and false outside them
pub record Order (n : ℕ) (over : ℕ → ℕ → Bool) : Type 0 where
  pub inside : (a b : ℕ) → over a b ≡ true → (a < n) × (b < n)
  pub itself : (a : ℕ) → a < n → over a a ≡ true
  pub apart : (a b : ℕ) → over a b ≡ true → over b a ≡ true → a ≡ b
  pub across : (a b c : ℕ) → over a b ≡ true → over b c ≡ true → over a c ≡ true

-- over is the reflexive and transitive closure of the pairs P on the roles below n:
-- a role is over another exactly if a chain of pairs leads from it to the other
abbrev pub Closes : ℕ → (ℕ → ℕ → Bool) → (ℕ → ℕ → Type 0) → Type 0
Closes n over P = (a b : ℕ) → Decides (over a b) ((a < n) × Reaches P a b)

-- each role below n over itself alone
abbrev pub itself_alone : ℕ → ℕ → ℕ → Bool
itself_alone n a b = nat_lt a n && b == a

-- what was so already, and what follows once s is over j
abbrev pub grown : (ℕ → ℕ → Bool) → ℕ → ℕ → ℕ → ℕ → Bool
grown over s j a b = over a b || (over a s && over j b)

-- the relation among the roles below n alone
abbrev pub within : ℕ → (ℕ → ℕ → Bool) → ℕ → ℕ → Bool
within n over a b = (nat_lt a n && nat_lt b n) && over a b
