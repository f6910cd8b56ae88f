-- When the layers from the starts arrive at a target.
use Rattle.std.specs.Prelude.{◌≡◌, ℕ, ◌+◌, ◌-◌, ◌<◌, ◌≤◌, Bool, List, length, Option, MatchOption}
use Rattle.search.specs.declared.Outcome.{Outcome}
use Rattle.search.specs.Chains.{Chain, Nearer, Reached, Number}
use Rattle.search.specs.Asked.{Steps, Marked}
use Rattle.search.specs.Layers.{Layered, marked}

-- the shortest chains from the starts to t have len nodes
pub record Shortest (S : ℕ → ℕ → Type 0) (Start : ℕ → Type 0) (t len : ℕ) : Type 0 where
  pub one : (a : ℕ) × (xs : List ℕ) × Start a × Chain S a t xs × (length xs ≡ len)
  pub least : (a : ℕ) (ys : List ℕ) → Start a → Chain S a t ys → len ≤ length ys

-- the shortest chains to the target have len nodes, looked nodes are nearer, and d has their distances
pub record Arrives (n : ℕ) (leads : ℕ → ℕ → Bool) (starts : List Bool) (t : ℕ) (d : List (Option ℕ)) (len looked : ℕ) : Type 0 where
  pub shortest : Shortest (Steps leads) (Marked n starts) t len
  pub count : Number n (Nearer (Steps leads) (Marked n starts) t) looked
  pub some : 0 < len
  pub short : len ≤ looked + 1
  pub fits : looked < n
  pub labels : Layered n leads (marked starts) (len - 1) d

-- no chain leads to the target, and looked nodes are reached
pub record Stops (n : ℕ) (leads : ℕ → ℕ → Bool) (starts : List Bool) (t looked : ℕ) : Type 0 where
  pub none : Reached (Steps leads) (Marked n starts) t → ⊥
  pub count : Number n (Reached (Steps leads) (Marked n starts)) looked
  pub fits : looked ≤ n

abbrev pub Arriving : (n : ℕ) (leads : ℕ → ℕ → Bool) (starts : List Bool) (t : ℕ) (d : List (Option ℕ)) → Outcome → Type 0
Arriving n leads starts t d o = MatchOption o.len (Stops n leads starts t o.looked) (λ len. Arrives n leads starts t d len o.looked)
