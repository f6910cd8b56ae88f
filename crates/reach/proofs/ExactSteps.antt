-- Tables of steps stay exact as links are added, and what a search by them finds.
use Rattle.std.proofs.Common.{◌≡◌, ℕ, ◌<◌, ◌&&◌, ◌||◌, eqb, ◌⊎◌, List, Decides, ap, ap₂, inl, inr, ⊎_elim, arith}
use Rattle.std.proofs.lemmas.Bool.{lt-ltb}
use Rattle.std.proofs.lemmas.Bool.Decides.{Decides-and, Decides-or, Decides-eqb, Decides-at, Decides-like, nat_tests}
use Rattle.search.specs.Asked.{Steps}
use Rattle.search.specs.Chains.{Best}
use Rattle.offices.specs.Model.{OfficeModel}
use Rattle.law.specs.Roles.{Over}
use Rattle.law.specs.Sound.{Link, Step}
use Rattle.reach.specs.declared.step_table.StepTable.{StepTable}
use Rattle.reach.specs.Steps.{has_step, WithStep}
use Rattle.reach.specs.Exact.{WithLink, ExactlySteps}
use Rattle.law.proofs.Scenes.{step_more}
use Rattle.law.proofs.Same.{best_alike}

module _ (bank : List OfficeModel) (linked : Link → Type 0) where
  pub steps_more :
      (t t' : StepTable) (u v : ℕ) → u < 1024 → v < 1024 → WithStep t u v t'
      → ExactlySteps bank linked t → ExactlySteps bank (WithLink linked u v) t'
  steps_more t t' u v lu lv e x a b =
      Decides-at (has_step t' a b) (has_step t a b || (eqb a u && eqb b v))
      (let is = e a b in let small = lt-ltb u 1024 lu in let low = lt-ltb v 1024 lv in grind (arith, nat_tests))
      (Decides-like (has_step t a b || (eqb a u && eqb b v)) into back
      (Decides-or (has_step t a b) (eqb a u && eqb b v) (x a b) (Decides-and (eqb a u) (eqb b v) (Decides-eqb a u) (Decides-eqb b v))))
    where
      into : Step bank linked a b ⊎ ((a ≡ u) × (b ≡ v)) → Step bank (WithLink linked u v) a b
      into (inl (inl s)) = inl s
      into (inl (inr l)) = inr (inl l)
      into (inr p) = inr (inr (ap₂ (λ m n. record { from = m; to = n }) p.0 p.1))

      back : Step bank (WithLink linked u v) a b → Step bank linked a b ⊎ ((a ≡ u) × (b ≡ v))
      back (inl s) = inl (inl s)
      back (inr (inl l)) = inl (inr l)
      back (inr (inr q)) = inr (ap (λ l. l.from) q, ap (λ l. l.to) q)

  -- the same links in other words
  pub steps_alike :
      (linked' : Link → Type 0) → ((l : Link) → linked l → linked' l) → ((l : Link) → linked' l → linked l)
      → (t : StepTable) → ExactlySteps bank linked t → ExactlySteps bank linked' t
  steps_alike linked' into back t x a b =
      Decides-like (has_step t a b) (step_more bank linked linked' into a b) (step_more bank linked' linked back a b) (x a b)

  pub steps_none :
      ((l : Link) → linked l → ⊥) → (t : StepTable)
      → ((a b : ℕ) → Decides (has_step t a b) ((a ≡ b → ⊥) × Over bank a b)) → ExactlySteps bank linked t
  steps_none none t e a b =
      Decides-like (has_step t a b) (λ s. inl s)
      (⊎_elim (λ (p : (a ≡ b → ⊥) × Over bank a b). p) (λ (l : linked (record { from = a; to = b })). absurd (none _ l)))
      (e a b)

  -- the best chain by the steps, from the same starts in other words
  pub best_by_steps :
      (t : StepTable) → ExactlySteps bank linked t
      → (Start Start' : ℕ → Type 0) → ((a : ℕ) → Start a → Start' a) → ((a : ℕ) → Start' a → Start a)
      → (b : ℕ) (xs : List ℕ) → Best (Steps (has_step t)) Start b xs → Best (Step bank linked) Start' b xs
  best_by_steps t x Start Start' into back b xs p = best_alike Start Start' (λ a b. (x a b).0) (λ a b. (x a b).1) (λ a. (into a, back a)) p
