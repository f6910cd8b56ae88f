-- One pair more: the relation is closed again, stays an order, and is the same where the pair follows already.
use Rattle.std.proofs.Common.{◌≡◌, ℕ, ◌<◌, ◌≤◌, Bool, true, false, ◌&&◌, eqb, ltb, ◌⊎◌, List, sym, refl, ◌∙◌, subst, inl, inr, ⊎_elim, not-le_of_lt}
use mathlib.Core.Path.{fun_ext}
use Rattle.std.proofs.lemmas.Bool.{or_cases, or_left, or_right, and_parts, and_from, both_ways, cases_Bool, ltb-true, eqb-true, lt-ltb, eq-eqb}
use Rattle.search.specs.Chains.{Chain, alone, onward, Reaches}
use Rattle.offices.specs.Order.{Order, Closes, itself_alone, grown}
use Rattle.search.proofs.Chaining.{chain_on, chain_wider, reaches_step, reaches_itself}

module _ (over : ℕ → ℕ → Bool) (s j : ℕ) where
  parts : (a b : ℕ) → grown over s j a b ≡ true → (over a b ≡ true) ⊎ ((over a s ≡ true) × (over j b ≡ true))
  parts a b h = ⊎_elim inl (λ k. inr (and_parts (over a s) (over j b) k)) (or_cases (over a b) (over a s && over j b) h)

  old : (a b : ℕ) → over a b ≡ true → grown over s j a b ≡ true
  old a b h = or_left (over a b) (over a s && over j b) h

  new : (a b : ℕ) → over a s ≡ true → over j b ≡ true → grown over s j a b ≡ true
  new a b h k = or_right (over a b) (over a s && over j b) (and_from (over a s) (over j b) h k)

module _ (n : ℕ) (over : ℕ → ℕ → Bool) (o : Order n over) (s j : ℕ) where
  pub grown_order : over j s ≡ false → Order n (grown over s j)
  grown_order never = record {
    inside = λ a b h. ⊎_elim (o.inside a b) (λ p. ((o.inside a s p.0).0, (o.inside j b p.1).1)) (parts over s j a b h);
    itself = λ a l. old over s j a a (o.itself a l);
    apart = λ a b h k.
        ⊎_elim
        (λ x. ⊎_elim (o.apart a b x) (λ q. absurd (no_way (o.across j b s (o.across j a b q.1 x) q.0))) (parts over s j b a k))
        (λ p. ⊎_elim
        (λ y. absurd (no_way (o.across j a s (o.across j b a p.1 y) p.0)))
        (λ q. absurd (no_way (o.across j b s p.1 q.0)))
        (parts over s j b a k))
        (parts over s j a b h);
    across = λ a b c h k.
        ⊎_elim
        (λ x. ⊎_elim (λ y. old over s j a c (o.across a b c x y)) (λ q. new over s j a c (o.across a b s x q.0) q.1) (parts over s j b c k))
        (λ p. ⊎_elim (λ y. new over s j a c p.0 (o.across j b c p.1 y)) (λ q. new over s j a c p.0 q.1) (parts over s j b c k))
        (parts over s j a b h);
  }
    where
      no_way : over j s ≡ true → ⊥
      no_way h = both_ways (over j s) never h

  -- a pair that follows already
  pub grown_same : over s j ≡ true → grown over s j ≡ over
  grown_same h = fun_ext (λ a. fun_ext (λ b. ⊎_elim
      (λ (t : over a b ≡ true). old over s j a b t ∙ sym t)
      (λ (f : over a b ≡ false). ⊎_elim
      (λ (t : grown over s j a b ≡ true). absurd (⊎_elim (both_ways (over a b) f) (λ p. both_ways (over a b) f (o.across a j b (o.across a s j p.0 h) p.1)) (parts over s j a b t)))
      (λ (g : grown over s j a b ≡ false). g ∙ sym f)
      (cases_Bool (grown over s j a b)))
      (cases_Bool (over a b))))

pub not_over : (n : ℕ) (over : ℕ → ℕ → Bool) → Order n over → (a b : ℕ) → (n ≤ a) ⊎ (n ≤ b) → over a b ≡ false
not_over n over o a b l = ⊎_elim
    (λ t. absurd (⊎_elim (λ k. not-le_of_lt (o.inside a b t).0 k) (λ k. not-le_of_lt (o.inside a b t).1 k) l))
    (λ f. f)
    (cases_Bool (over a b))

told : (n a b : ℕ) → itself_alone n a b ≡ true → (a < n) × (b ≡ a)
told n a b h = let p = and_parts (ltb a n) (eqb b a) h in (ltb-true a n p.0, eqb-true b a p.1)

pub alone_order : (n : ℕ) → Order n (itself_alone n)
alone_order n = record {
  inside = λ a b h. let p = told n a b h in (p.0, subst (λ x. x < n) (sym p.1) p.0);
  itself = λ a l. and_from (ltb a n) (eqb a a) (lt-ltb a n l) (eq-eqb a a refl);
  apart = λ a b h k. sym (told n a b h).1;
  across = λ a b c h k. subst (λ x. itself_alone n a x ≡ true) (sym (told n b c k).1) h;
}

no_step : (n : ℕ) (P : ℕ → ℕ → Type 0) → ((a b : ℕ) → P a b → ⊥) → {a b : ℕ} {xs : List ℕ} → a < n → Chain P a b xs → itself_alone n a b ≡ true
no_step n P none {a} l alone = and_from (ltb a n) (eqb a a) (lt-ltb a n l) (eq-eqb a a refl)
no_step n P none l (onward s rest) = absurd (none _ _ s)

-- no pair yet
pub closes_none : (n : ℕ) (P : ℕ → ℕ → Type 0) → ((a b : ℕ) → P a b → ⊥) → Closes n (itself_alone n) P
closes_none n P none a b = (
  (λ h. let p = told n a b h in (p.0, subst (λ x. Reaches P a x) (sym p.1) (reaches_itself a))),
  (λ r. no_step n P none r.0 r.1.1),
)

-- the same pairs
pub closes_same : (n : ℕ) (over : ℕ → ℕ → Bool) (P Q : ℕ → ℕ → Type 0) → ((a b : ℕ) → P a b → Q a b) → ((a b : ℕ) → Q a b → P a b) → Closes n over P → Closes n over Q
closes_same n over P Q to from h a b = (
  (λ t. let r = (h a b).0 t in (r.0, (r.1.0, chain_wider to r.1.1))),
  (λ r. (h a b).1 (r.0, (r.1.0, chain_wider from r.1.1))),
)

-- Q has the pairs of P and the pair of s and j
module _ (n : ℕ) (over : ℕ → ℕ → Bool) (P Q : ℕ → ℕ → Type 0) (s j : ℕ)
    (closes : Closes n over P) (inside : (a b : ℕ) → P a b → (a < n) × (b < n)) (ls : s < n) (lj : j < n)
    (kept : (a b : ℕ) → P a b → Q a b) (added : Q s j) (only : (a b : ℕ) → Q a b → P a b ⊎ ((a ≡ s) × (b ≡ j))) where
  wide : (a b : ℕ) → over a b ≡ true → Reaches Q a b
  wide a b h = let r = ((closes a b).0 h).1 in (r.0, chain_wider kept r.1)

  step_over : (a c b : ℕ) → P a c → over c b ≡ true → over a b ≡ true
  step_over a c b p h = (closes a b).1 ((inside a c p).0, reaches_step p ((closes c b).0 h).1)

  there : (a b : ℕ) → grown over s j a b ≡ true → (a < n) × Reaches Q a b
  there a b h = ⊎_elim
      (λ t. (((closes a b).0 t).0, wide a b t))
      (λ p. (((closes a s).0 p.0).0, chain_on (wide a s p.0).1 (reaches_step added (wide j b p.1))))
      (parts over s j a b h)

  first_step : (a c b : ℕ) → Q a c → grown over s j c b ≡ true → grown over s j a b ≡ true
  first_step a c b q h = ⊎_elim
      (λ p. ⊎_elim
      (λ t. old over s j a b (step_over a c b p t))
      (λ t. new over s j a b (step_over a c s p t.0) t.1)
      (parts over s j c b h))
      (λ e. let below : over j b ≡ true = ⊎_elim (λ t. subst (λ x. over x b ≡ true) e.1 t) (λ t. t.1) (parts over s j c b h) in
      new over s j a b (subst (λ x. over x s ≡ true) (sym e.0) ((closes s s).1 (ls, reaches_itself s))) below)
      (only a c q)

  second_in : (a c : ℕ) → Q a c → c < n
  second_in a c q = ⊎_elim (λ p. (inside a c p).1) (λ e. subst (λ x. x < n) (sym e.1) lj) (only a c q)

  back : {a b : ℕ} {xs : List ℕ} → a < n → Chain Q a b xs → grown over s j a b ≡ true
  back {a} l alone = old over s j a a ((closes a a).1 (l, reaches_itself a))
  back {a} {b} l (onward {b = c} q rest) = first_step a c b q (back (second_in a c q) rest)

  pub closes_more : Closes n (grown over s j) Q
  closes_more a b = (there a b, λ r. back r.0 r.1.1)
