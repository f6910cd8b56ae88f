-- The walk to the target: at each place the smallest node that is one step nearer.
use Rattle.std.specs.Prelude.{◌≡◌, ℕ, zero, suc, ◌+◌, ◌-◌, ◌<◌, ◌≤◌, Bool, true, List, Option, Some, None, slice_index}
use Rattle.search.specs.Layers.{distance}

-- r is the smallest number below n that has P
pub record Least (n : ℕ) (P : ℕ → Type 0) (r : ℕ) : Type 0 where
  pub within : r < n
  pub holds : P r
  pub least : (w : ℕ) → w < n → P w → r ≤ w

-- where a walk may go: to a start, or, after a node u, where a step leads from u
abbrev pub goes_on : (ℕ → ℕ → Bool) → (ℕ → Bool) → Option ℕ → ℕ → Bool
goes_on s st None v = st v
goes_on s st (Some u) v = s u v

-- v passes the test, and has the distance k in d
abbrev pub Passing : (ℕ → Bool) → List (Option ℕ) → ℕ → ℕ → Type 0
Passing p d k v = (p v ≡ true) × (distance d v ≡ Some k)

-- some number below n has P
abbrev pub SomeBelow : ℕ → (ℕ → Type 0) → Type 0
SomeBelow n P = (v : ℕ) × (v < n) × P v

-- from each node with a distance a step leads to one that is nearer
abbrev pub Descends : ℕ → (ℕ → ℕ → Bool) → List (Option ℕ) → Type 0
Descends n s d = (v j : ℕ) → v < n → distance d v ≡ Some (j + 1) → SomeBelow n (Passing (s v) d j)

-- the node before place j of a walk
abbrev pub node_before : List ℕ → ℕ → Option ℕ
node_before xs zero = None
node_before xs (suc j) = Some (slice_index xs j)

-- the first i places of xs hold the walk
abbrev pub Walked : (n : ℕ) (s : ℕ → ℕ → Bool) (st : ℕ → Bool) (k : ℕ) (d : List (Option ℕ)) (i : ℕ) (xs : List ℕ) → Type 0
Walked n s st k d i xs = (j : ℕ) → j < i → Least n (Passing (goes_on s st (node_before xs j)) d (k - j)) (slice_index xs j)
