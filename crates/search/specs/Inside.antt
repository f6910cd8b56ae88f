-- Lemmas for the laws of graphs made of a graph: each step is between its nodes.
use Rattle.std.specs.Prelude.{◌≡◌, ℕ, ◌<◌, Bool, true, List, Option}
use Rattle.std.proofs.lemmas.Bool.{and_parts}
use Rattle.search.specs.Layers.{masked, turned, distance, is_below}

pub unmask : (f : List (Option ℕ)) (k : ℕ) (s : ℕ → ℕ → Bool) (a b : ℕ) → masked f k s a b ≡ true → s a b ≡ true
unmask f k s a b h = (and_parts (is_below k (distance f a)) (s a b) h).1

pub masked_inside : {n : ℕ} {s : ℕ → ℕ → Bool} (f : List (Option ℕ)) (k : ℕ) → ((a b : ℕ) → s a b ≡ true → (a < n) × (b < n)) → (a b : ℕ) → masked f k s a b ≡ true → (a < n) × (b < n)
masked_inside {s = s} f k inside a b h = inside a b (unmask f k s a b h)

pub turned_inside : {n : ℕ} {s : ℕ → ℕ → Bool} → ((a b : ℕ) → s a b ≡ true → (a < n) × (b < n)) → (a b : ℕ) → turned s a b ≡ true → (a < n) × (b < n)
turned_inside inside a b h = let i = inside b a h in (i.1, i.0)
