-- What makes each outcome the only one.
use Rattle.std.specs.Prelude.{◌≡◌, ℕ, ◌≤◌, Bool, List, Result}
use Rattle.search.specs.declared.Outcome.{Outcome}
use Rattle.search.specs.declared.Unfit.{Unfit}
use Rattle.search.specs.Chains.{Best, Number, Nearer, Reached}
use Rattle.search.specs.Asked.{Steps, Marked}
use Rattle.search.specs.Outcomes.{Searched}

-- there is at most one best chain
abbrev pub OneBest : Type 0
OneBest = (n : ℕ) (leads : ℕ → ℕ → Bool) (starts : List Bool) (t : ℕ) (xs ys : List ℕ) → Best (Steps leads) (Marked n starts) t xs → Best (Steps leads) (Marked n starts) t ys → xs ≡ ys

-- one number counts the nodes that are nearer than t, and one those that are reached
abbrev pub OneNearer : Type 0
OneNearer = (n : ℕ) (leads : ℕ → ℕ → Bool) (starts : List Bool) (t a b : ℕ) → Number n (Nearer (Steps leads) (Marked n starts) t) a → Number n (Nearer (Steps leads) (Marked n starts) t) b → a ≡ b

abbrev pub OneReached : Type 0
OneReached = (n : ℕ) (leads : ℕ → ℕ → Bool) (starts : List Bool) (a b : ℕ) → Number n (Reached (Steps leads) (Marked n starts)) a → Number n (Reached (Steps leads) (Marked n starts)) b → a ≡ b

-- no more nodes are nearer than are reached
abbrev pub NearerFew : Type 0
NearerFew = (n : ℕ) (leads : ℕ → ℕ → Bool) (starts : List Bool) (t a b : ℕ) → Number n (Nearer (Steps leads) (Marked n starts) t) a → Number n (Reached (Steps leads) (Marked n starts)) b → a ≤ b

-- the same question has one outcome, and leaves one strip
abbrev pub OneOutcome : Type 0
OneOutcome = (n : ℕ) (leads : ℕ → ℕ → Bool) (starts : List Bool) (t near home : ℕ) (old new new' : List ℕ) (o o' : Result Outcome Unfit) → Searched n leads starts t near home old new o → Searched n leads starts t near home old new' o' → (o ≡ o') × (new ≡ new')
