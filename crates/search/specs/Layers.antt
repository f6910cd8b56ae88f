-- Distances from the starts, layer by layer, in a list.
use Rattle.std.specs.Prelude.{◌≡◌, ℕ, ◌+◌, ◌<◌, ◌≤◌, Bool, true, false, cond, ◌&&◌, ◌⊎◌, List, Option, Some, None, length, ◌==◌, nat_lt, slice_index_or}
use Rattle.search.specs.Chains.{tally}

-- the steps turned round
abbrev pub turned : (ℕ → ℕ → Bool) → ℕ → ℕ → Bool
turned s a b = s b a

-- the distance of v in d, where it has one
abbrev pub distance : List (Option ℕ) → ℕ → Option ℕ
distance d v = slice_index_or d v None

-- whether a distance is k, and whether it is below k
abbrev pub is_at : ℕ → Option ℕ → Bool
is_at k None = false
is_at k (Some j) = j == k

abbrev pub is_below : ℕ → Option ℕ → Bool
is_below k None = false
is_below k (Some j) = nat_lt j k

-- one node u of layer k is expanded up to node i: d before, e after
pub record Spread (s : ℕ → ℕ → Bool) (u k i : ℕ) (d e : List (Option ℕ)) : Type 0 where
  pub long : length e ≡ length d
  pub same : (v j : ℕ) → distance d v ≡ Some j → distance e v ≡ Some j
  pub fresh : (v : ℕ) → distance d v ≡ None → (distance e v ≡ None) ⊎ ((distance e v ≡ Some (k + 1)) × (s u v ≡ true))
  pub full : (v : ℕ) → v < i → s u v ≡ true → (j : ℕ) × (distance e v ≡ Some j)

-- the nodes of layer k below i are expanded, and all of the layers before
pub record Partial (n : ℕ) (s : ℕ → ℕ → Bool) (st : ℕ → Bool) (k i : ℕ) (d : List (Option ℕ)) : Type 0 where
  pub origin : (v : ℕ) → v < n → st v ≡ true → distance d v ≡ Some 0
  pub starts : (v : ℕ) → v < n → distance d v ≡ Some 0 → st v ≡ true
  pub back : (v j : ℕ) → v < n → distance d v ≡ Some (j + 1) → (u : ℕ) × (u < n) × (distance d u ≡ Some j) × (s u v ≡ true)
  pub ahead : (u v j : ℕ) → u < n → v < n → s u v ≡ true → distance d u ≡ Some j → (j < k) ⊎ ((j ≡ k) × (u < i)) → (m : ℕ) × (distance d v ≡ Some m) × (m ≤ j + 1)
  pub bound : (v j : ℕ) → v < n → distance d v ≡ Some j → j ≤ k + 1

-- the layers before k are expanded
pub record Layered (n : ℕ) (s : ℕ → ℕ → Bool) (st : ℕ → Bool) (k : ℕ) (d : List (Option ℕ)) : Type 0 where
  pub origin : (v : ℕ) → v < n → st v ≡ true → distance d v ≡ Some 0
  pub starts : (v : ℕ) → v < n → distance d v ≡ Some 0 → st v ≡ true
  pub back : (v j : ℕ) → v < n → distance d v ≡ Some (j + 1) → (u : ℕ) × (u < n) × (distance d u ≡ Some j) × (s u v ≡ true)
  pub ahead : (u v j : ℕ) → u < n → v < n → s u v ≡ true → distance d u ≡ Some j → j < k → (m : ℕ) × (distance d v ≡ Some m) × (m ≤ j + 1)
  pub bound : (v j : ℕ) → v < n → distance d v ≡ Some j → j ≤ k

-- what one layer k does to the distances d: some nodes without a distance have k + 1 in e
pub record Grown (k : ℕ) (d e : List (Option ℕ)) : Type 0 where
  pub long : length e ≡ length d
  pub same : (v j : ℕ) → distance d v ≡ Some j → distance e v ≡ Some j
  pub fresh : (v : ℕ) → distance d v ≡ None → (distance e v ≡ None) ⊎ (distance e v ≡ Some (k + 1))

-- how many nodes have the distance k, and how many have one below k
abbrev pub at_layer : ℕ → List (Option ℕ) → ℕ → ℕ
at_layer k d n = tally (λ v. is_at k (distance d v)) n

abbrev pub below_layer : ℕ → List (Option ℕ) → ℕ → ℕ
below_layer k d n = tally (λ v. is_below k (distance d v)) n

-- what one layer keeps: d₀ before it, d once the nodes below u are seen
pub record Turning (n : ℕ) (s : ℕ → ℕ → Bool) (k u m : ℕ) (d₀ d : List (Option ℕ)) : Type 0 where
  pub next : (st : ℕ → Bool) → Layered n s st k d₀ → Partial n s st k u d
  pub grown : Grown k d₀ d
  pub many : m ≡ at_layer k d₀ u
  pub few : m ≤ u

-- the marks of a slice, as a test
abbrev pub marked : List Bool → ℕ → Bool
marked xs v = slice_index_or xs v false

-- the mark of one node alone
abbrev pub only : ℕ → ℕ → Bool
only t v = v == t

-- the distance that a node begins with
abbrev pub begins : Bool → Option ℕ
begins b = cond b (Some 0) None

-- the first i places hold the distances to begin with
abbrev pub Begun : (ℕ → Bool) → ℕ → List (Option ℕ) → Type 0
Begun st i d = (v : ℕ) → v < i → distance d v ≡ begins (st v)

-- the search for t after k layers
pub record Going (n : ℕ) (s : ℕ → ℕ → Bool) (st : ℕ → Bool) (t k looked : ℕ) (d : List (Option ℕ)) : Type 0 where
  pub layered : Layered n s st k d
  pub seen : looked ≡ below_layer k d n
  pub few : k ≤ looked
  pub room : looked ≤ n
  pub target : (distance d t ≡ None) ⊎ (distance d t ≡ Some k)

-- the steps from nodes with a distance below k in f
abbrev pub masked : List (Option ℕ) → ℕ → (ℕ → ℕ → Bool) → ℕ → ℕ → Bool
masked f k s a b = is_below k (distance f a) && s a b
