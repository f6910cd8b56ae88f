-- What the outcome of a search says, for every input.
use Rattle.std.specs.Prelude.{◌≡◌, ℕ, ◌+◌, ◌<◌, ◌≤◌, Bool, List, ◌++◌, length, drop, Result, Ok, Err, MatchOption}
use Rattle.search.specs.declared.Outcome.{Outcome}
use Rattle.search.specs.declared.Unfit.{Unfit}
use Rattle.search.specs.Chains.{Best, Nearer, Reached, Number}
use Rattle.search.specs.Asked.{Steps, Marked}

-- the target t is one of the n nodes, and each slice has a place for each node
pub record Fitting (n t starts near home strip : ℕ) : Type 0 where
  pub target : t < n
  pub starts_room : n ≤ starts
  pub near_room : n ≤ near
  pub home_room : n ≤ home
  pub strip_room : n ≤ strip

-- the strip, old before, begins with the best chain, of len nodes, and looked nodes are nearer than the target
pub record Finds (n : ℕ) (leads : ℕ → ℕ → Bool) (starts : List Bool) (t near home : ℕ) (old new : List ℕ) (len looked : ℕ) : Type 0 where
  pub fitting : Fitting n t (length starts) near home (length old)
  pub chain : List ℕ
  pub best : Best (Steps leads) (Marked n starts) t chain
  pub long : length chain ≡ len
  pub strip : new ≡ chain ++ drop len old
  pub count : Number n (Nearer (Steps leads) (Marked n starts) t) looked
  pub some : 0 < len
  pub short : len ≤ looked + 1
  pub fits : looked + 1 ≤ n

-- no chain leads to the target, and looked nodes are reached
pub record Misses (n : ℕ) (leads : ℕ → ℕ → Bool) (starts : List Bool) (t near home : ℕ) (old new : List ℕ) (looked : ℕ) : Type 0 where
  pub fitting : Fitting n t (length starts) near home (length old)
  pub none : Reached (Steps leads) (Marked n starts) t → ⊥
  pub count : Number n (Reached (Steps leads) (Marked n starts)) looked
  pub strip : new ≡ old
  pub fits : looked ≤ n

-- what a search says of a graph with n nodes: near and home places to work in, the strip old before and new after
abbrev pub Searched : (n : ℕ) (leads : ℕ → ℕ → Bool) (starts : List Bool) (t near home : ℕ) (old new : List ℕ) → Result Outcome Unfit → Type 0
Searched n leads starts t near home old new (Ok o) =
    MatchOption o.len (Misses n leads starts t near home old new o.looked) (λ len. Finds n leads starts t near home old new len o.looked)
Searched n leads starts t near home old new (Err unfit) = (Fitting n t (length starts) near home (length old) → ⊥) × (new ≡ old)
