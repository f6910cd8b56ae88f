-- The shortest chains use only steps from nodes that are nearer than the target.
use Rattle.std.proofs.Common.{◌≡◌, ℕ, ◌+◌, ◌<◌, ◌≤◌, Bool, true, List, Option, Some, length, arith}
use Rattle.std.proofs.lemmas.Bool.{and_from}
use Rattle.search.specs.Chains.{Chain, alone, onward, Best}
use Rattle.search.specs.Asked.{Steps, Marked}
use Rattle.search.specs.Arrivals.{Shortest}
use Rattle.search.specs.Layers.{Layered, masked, marked, distance, is_below}
use Rattle.search.specs.Inside.{unmask}
use Rattle.search.proofs.Distances.{below_some}
use Rattle.search.proofs.Reaching.{chain_some}

module _ (n : ℕ) (s : ℕ → ℕ → Bool) (inside : (a b : ℕ) → s a b ≡ true → (a < n) × (b < n)) (marks : List Bool) (t k : ℕ) (f : List (Option ℕ)) (p : Layered n s (marked marks) k f) where
  chain_unmask : {a b : ℕ} {xs : List ℕ} → Chain (Steps (masked f k s)) a b xs → Chain (Steps s) a b xs
  chain_unmask alone = alone
  chain_unmask (onward {a = a} {b = b} e c) = onward (unmask f k s a b e) (chain_unmask c)

  chain_mask : {a b : ℕ} {xs : List ℕ} → Chain (Steps s) a b xs → (i : ℕ) → distance f a ≡ Some i → length xs + i ≤ k + 1 → Chain (Steps (masked f k s)) a b xs
  chain_mask alone i h l = alone
  chain_mask (onward {a = a} {b = b} e c) i h l =
      let some = chain_some c in
      let w = inside a b e in
      let g = p.ahead a b i w.0 w.1 e h (omega arith) in
      onward
      (and_from (is_below k (distance f a)) (s a b) (below_some k i (distance f a) h (omega arith)) e)
      (chain_mask c g.0 g.1 (omega (arith, g.2)))

  mask_short : (a : ℕ) (xs : List ℕ) → Marked n marks a → Chain (Steps s) a t xs → length xs ≡ k + 1 → Chain (Steps (masked f k s)) a t xs
  mask_short a xs m c len = chain_mask c 0 (p.origin a m.0 m.1) (omega arith)

  module _ (sh : Shortest (Steps s) (Marked n marks) t (k + 1)) where
    pub shortest_mask : Shortest (Steps (masked f k s)) (Marked n marks) t (k + 1)
    shortest_mask = let o = sh.one in record {
      one = (o.0, o.1, o.2, mask_short o.0 o.1 o.2 o.3 o.4, o.4);
      least = λ a ys m c. sh.least a ys m (chain_unmask c);
    }

    pub best_unmask : (xs : List ℕ) → length xs ≡ k + 1 → Best (Steps (masked f k s)) (Marked n marks) t xs → Best (Steps s) (Marked n marks) t xs
    best_unmask xs len b = record {
      from = b.from;
      starts = b.starts;
      leads = chain_unmask b.leads;
      shortest = λ a ys m c. omega (arith, sh.least a ys m c);
      first = λ a ys m c same. b.first a ys m (mask_short a ys m c (omega arith)) same;
    }
