-- What has a property, gathered number by number.
use Rattle.std.proofs.Common.{filter, List, [], ◌∷◌, zero, suc, ◌≡◌, ℕ, ◌+◌, ◌<◌, ◌≤◌, Bool, true, false, ◌&&◌, ◌||◌, eqb, ltb, sym, arith}
use Rattle.std.proofs.lemmas.Grind.{common_steps}
use Rattle.std.specs.List.{range_with_len}
use Rattle.std.proofs.Math.Bool.{and-false}
use Rattle.directory.specs.SetWords.{among}

-- what is below j + 1 with the property is below j, or j itself where it has it
module _ (f : ℕ → Bool) (j : ℕ) where
  pub gathered_yes : f j ≡ true → (i : ℕ) → ((ltb i j && f i) || eqb i j) ≡ (ltb i (j + 1) && f i)
  gathered_yes t i = grind (arith, common_steps)

  pub gathered_no : f j ≡ false → (i : ℕ) → (ltb i j && f i) ≡ (ltb i (j + 1) && f i)
  gathered_no n i = grind (arith, common_steps)

pub gathered_none : (f : ℕ → Bool) (i : ℕ) → false ≡ (ltb i 0 && f i)
gathered_none f i = grind (arith, common_steps)

-- nothing from n on has the property
pub gathered_all : (f : ℕ → Bool) (n : ℕ) → ((i : ℕ) → f i ≡ true → i < n) → (i : ℕ) → (ltb i n && f i) ≡ f i
gathered_all f n small i = grind (arith, common_steps, small i)

among_filter : (f : ℕ → Bool) (i : ℕ) (xs : List ℕ) → among i (filter f xs) ≡ (f i && among i xs)
among_filter f i [] = sym (and-false (f i))
among_filter f i (x ∷ xs) = grind (arith, common_steps, among_filter f i xs)

among_range : (i a n : ℕ) → a ≤ i → i < a + n → among i (range_with_len a n) ≡ true
among_range i a zero l h = absurd (omega arith)
among_range i a (suc n) l h = grind (arith, common_steps, among_range i (a + 1) n)

-- the numbers below n with a property that none from n on has
pub among_filtered : (f : ℕ → Bool) (n : ℕ) → n ≤ 64 → ((i : ℕ) → f i ≡ true → i < n) → (i : ℕ) → (ltb i 64 && among i (filter f (range_with_len 0 n))) ≡ f i
among_filtered f n few small i = grind (arith, common_steps, among_filter f i (range_with_len 0 n), small i, among_range i 0 n)
