-- What a relation leads to from some starts.
use Rattle.std.proofs.Common.{◌≡◌, ℕ, Bool, false, ◌||◌, ◌⊎◌, Decides, refl, subst, inl, inr, ⊎_elim}
use Rattle.std.proofs.lemmas.Bool.{both_ways}
use Rattle.std.proofs.lemmas.Bool.Decides.{Decides-like, Decides-or}
use Rattle.reach.specs.Exact.{Only}

-- something that some start leads to
abbrev pub FromSome : (ℕ → ℕ → Type 0) → (ℕ → Type 0) → ℕ → Type 0
FromSome R Start b = (a : ℕ) × Start a × R a b

module _ (R : ℕ → ℕ → Type 0) where
  pub from_none : (Start : ℕ → Type 0) (f : ℕ → Bool) → ((a : ℕ) → Start a → ⊥) → ((b : ℕ) → f b ≡ false) → (b : ℕ) → Decides (f b) (FromSome R Start b)
  from_none Start f nobody none b = ((λ h. absurd (both_ways (f b) (none b) h)), (λ r. absurd (nobody r.0 r.1)))

  -- from one start alone
  pub from_one : (a : ℕ) (f : ℕ → Bool) → ((b : ℕ) → Decides (f b) (R a b)) → (b : ℕ) → Decides (f b) (FromSome R (Only a) b)
  from_one a f e b = Decides-like (f b) (λ h. (a, refl, h)) (λ r. let P : ℕ → Type 0 = λ y. R y b in subst P r.1 r.2) (e b)

  -- from two groups of starts together
  pub from_either :
      (Start Start' : ℕ → Type 0) (f g : ℕ → Bool) → ((b : ℕ) → Decides (f b) (FromSome R Start b)) → ((b : ℕ) → Decides (g b) (FromSome R Start' b))
      → (b : ℕ) → Decides (f b || g b) (FromSome R (λ a. Start a ⊎ Start' a) b)
  from_either Start Start' f g ef eg b =
      Decides-like (f b || g b)
      (⊎_elim (λ (r : FromSome R Start b). (r.0, inl r.1, r.2)) (λ (r : FromSome R Start' b). (r.0, inr r.1, r.2)))
      (λ r. ⊎_elim (λ (s : Start r.0). inl (r.0, s, r.2)) (λ (s : Start' r.0). inr (r.0, s, r.2)) r.1)
      (Decides-or (f b) (g b) (ef b) (eg b))

  -- from the same starts in other words
  pub from_starts :
      (Start Start' : ℕ → Type 0) → ((a : ℕ) → Start a → Start' a) → ((a : ℕ) → Start' a → Start a)
      → (f : ℕ → Bool) → ((b : ℕ) → Decides (f b) (FromSome R Start b)) → (b : ℕ) → Decides (f b) (FromSome R Start' b)
  from_starts Start Start' into back f e b = Decides-like (f b) (λ r. (r.0, into r.0 r.1, r.2)) (λ r. (r.0, back r.0 r.1, r.2)) (e b)
