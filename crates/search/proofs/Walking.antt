-- What the distances to the target say of chains, and that the walk is the best chain.
use Rattle.std.proofs.Common.{◌≡◌, ℕ, zero, suc, ◌+◌, ◌-◌, ◌<◌, ◌≤◌, Bool, true, ◌≢◌, List, Option, Some, [], ◌∷◌, length, get_or, set, sym, refl, ap, ◌∙◌, subst, inl, inr, ⊎_elim, add-one, arith, get_or-set_other, get_or-set_same}
use Rattle.std.proofs.lemmas.Bool.{cases_eq, cases_lt, eq-eqb, eqb-true}
use Rattle.search.specs.Chains.{Chain, alone, onward, Best, Before}
use Rattle.search.specs.Asked.{Steps, Marked}
use Rattle.search.specs.Arrivals.{Shortest}
use Rattle.search.specs.Layers.{Layered, turned, only, marked, distance}
use Rattle.search.specs.Walks.{Least, Passing, goes_on, SomeBelow, Descends, node_before, Walked}
use Rattle.search.proofs.Distances.{one_distance}
use Rattle.search.proofs.Reaching.{chain_some}

module _ (n : ℕ) (s : ℕ → ℕ → Bool) (inside : (a b : ℕ) → s a b ≡ true → (a < n) × (b < n)) (t k : ℕ) (d : List (Option ℕ)) (lt : t < n) (p : Layered n (turned s) (only t) k d) where
  pub descends : Descends n s d
  descends v j lv e = let b = p.back v j lv e in (b.0, b.1, (b.3, b.2))

  -- a node with a distance has a chain to t
  home : (j v : ℕ) → v < n → distance d v ≡ Some j → (xs : List ℕ) × Chain (Steps s) v t xs × (length xs ≡ j + 1)
  home zero v lv e =
      let h : t ≡ v = sym (eqb-true v t (p.starts v lv e)) in
      let P : ℕ → Type 0 = λ x. Chain (Steps s) x t (x ∷ []) in
      (v ∷ [], subst P h alone, refl)
  home (suc j) v lv e =
      let b = p.back v j lv (rw add-one e) in
      let r = home j b.0 b.1 b.2 in
      (v ∷ r.0, onward b.3 r.1, omega (arith, r.2))

  -- the start of a chain to t is no farther than the chain is long
  toward : {a b : ℕ} {xs : List ℕ} → Chain (Steps s) a b xs → b ≡ t → length xs ≤ k + 1 → (m : ℕ) × (distance d a ≡ Some m) × (m + 1 ≤ length xs)
  toward {a = a} alone e l = (0, ap (distance d) e ∙ p.origin t lt (eq-eqb t t refl), omega arith)
  toward (onward {a = a} {b = b} h c) e l =
      let i = inside a b h in
      let r = toward c e (omega arith) in
      let f = p.ahead b a r.0 i.1 i.0 h r.1 (omega (arith, r.2)) in
      (f.0, f.1, omega (arith, f.2, r.2))

  -- what the greedy walk keeps: z is j steps away, and each of zs is the smallest that is one nearer
  record Greedy (j z : ℕ) (zs : List ℕ) : Type 0 where
    long : length zs ≡ j
    low : j ≤ k
    within : z < n
    at : distance d z ≡ Some j
    on : (i : ℕ) → i < j → Least n (Passing (s (get_or (z ∷ zs) i 0)) d (j - (i + 1))) (get_or (z ∷ zs) (i + 1) 0)

  greedy_next : (j z y : ℕ) (zs : List ℕ) → Greedy j z (y ∷ zs) → Greedy (j - 1) y zs
  greedy_next j z y zs g =
      let len = g.long in
      let o = g.on 0 (omega arith) in
      record {
        long = omega arith;
        low = omega (arith, g.low);
        within = o.within;
        at = o.holds.1;
        on = λ i li.
            let e : j - (i + 1 + 1) ≡ j - 1 - (i + 1) = omega arith in
            let P : ℕ → Type 0 = λ x. Least n (Passing (s (get_or (z ∷ y ∷ zs) x 0)) d (j - 1 - (i + 1))) (get_or (z ∷ y ∷ zs) (suc (i + 1)) 0) in
            subst P (add-one i) (rw (e, add-one (i + 1)) at (g.on (i + 1) (omega arith)));
      }

  greedy_chain : (j z : ℕ) (zs : List ℕ) → Greedy j z zs → Chain (Steps s) z t (z ∷ zs)
  greedy_chain j z [] g =
      let len = g.long in
      let h : t ≡ z = sym (eqb-true z t (p.starts z g.within (g.at ∙ ap Some (let e : j ≡ 0 = omega arith in e)))) in
      let P : ℕ → Type 0 = λ x. Chain (Steps s) x t (x ∷ []) in
      subst P h alone
  greedy_chain j z (y ∷ zs) g =
      let len = g.long in
      onward (g.on 0 (omega arith)).holds.0 (greedy_chain (j - 1) y zs (greedy_next j z y zs g))

  -- the greedy walk comes before each chain as long that begins no earlier
  greedy_before : (j z : ℕ) (zs : List ℕ) {a b : ℕ} {ys : List ℕ} → Greedy j z zs → Chain (Steps s) a b ys → b ≡ t → length ys ≡ j + 1 → z ≤ a → Before (z ∷ zs) ys
  greedy_before j z [] {a = a} g alone e l h = ⊎_elim (λ q. inr (q, tt)) (λ q. inl (omega arith)) (cases_eq z a)
  greedy_before j z (y ∷ zs) g alone e l h = let len = g.long in absurd (omega arith)
  greedy_before j z [] g (onward r c) e l h = let len = g.long in let some = chain_some c in absurd (omega arith)
  greedy_before j z (y ∷ zs) g (onward {a = a} {b = b} r c) e l h = ⊎_elim
      (λ q.
      let len = g.long in
      let r' : s z b ≡ true = rw q r in
      let i = inside z b r' in
      let low = g.low in
      let f = toward c e (omega arith) in
      let f' = p.ahead b z f.0 i.1 i.0 r' f.1 (omega (arith, f.2)) in
      let j' = one_distance f'.0 j f'.1 g.at in
      let m : f.0 ≡ j - (0 + 1) = omega (arith, f.2, f'.2) in
      let least = (g.on 0 (omega arith)).least b i.1 (r', f.1 ∙ ap Some m) in
      inr (q, greedy_before (j - 1) y zs (greedy_next j z y zs g) c e (omega arith) least))
      (λ q. inl (omega arith))
      (cases_eq z a)

  module _ (marks : List Bool) (sh : Shortest (Steps s) (Marked n marks) t (k + 1)) where
    -- a start with a chain of k steps is k steps away
    start_at : (a : ℕ) (ys : List ℕ) → Marked n marks a → Chain (Steps s) a t ys → length ys ≡ k + 1 → distance d a ≡ Some k
    start_at a ys m c len =
        let r = toward c refl (omega arith) in
        let h = home r.0 a m.0 r.1 in
        let e : r.0 ≡ k = omega (arith, r.2, h.2, sh.least a h.0 m h.1) in
        r.1 ∙ ap Some e

    pub starting : SomeBelow n (Passing (marked marks) d k)
    starting =
        let o = sh.one in
        (o.0, o.2.0, (o.2.1, start_at o.0 o.1 o.2 o.3 o.4))

    greedy_best : (zs : List ℕ) → length zs ≡ k + 1 → Least n (Passing (marked marks) d k) (get_or zs 0 0) → ((j : ℕ) → j < k → Least n (Passing (s (get_or zs j 0)) d (k - (j + 1))) (get_or zs (j + 1) 0)) → Best (Steps s) (Marked n marks) t zs
    greedy_best [] len begin on = absurd (omega arith)
    greedy_best (z ∷ zs) len begin on =
        let g : Greedy k z zs = record { long = omega arith; low = omega arith; within = begin.within; at = begin.holds.1; on = on } in
        record {
          from = z;
          starts = (begin.within, begin.holds.0);
          leads = greedy_chain k z zs g;
          shortest = λ a ys m c. omega (arith, sh.least a ys m c);
          first = λ a ys m c same. greedy_before k z zs g c refl (omega arith) (begin.least a m.0 (m.1, start_at a ys m c (omega arith)));
        }

    pub walked_best : (xs : List ℕ) → length xs ≡ k + 1 → Walked n s (marked marks) k d (k + 1) xs → Best (Steps s) (Marked n marks) t xs
    walked_best xs len w =
        let first : k - 0 ≡ k = omega arith in
        let P : ℕ → Type 0 = λ x. Least n (Passing (marked marks) d x) (get_or xs 0 0) in
        greedy_best xs len (subst P first (w 0 (omega arith))) (λ j lj.
        let Q : ℕ → Type 0 = λ x. Least n (Passing (goes_on s (marked marks) (node_before xs x)) d (k - (j + 1))) (get_or xs (j + 1) 0) in
        subst Q (add-one j) (w (j + 1) (omega arith)))

-- a write does not change what stands before its place
before_kept : (i r : ℕ) (xs : List ℕ) (j : ℕ) → j ≤ i → node_before (set xs i r) j ≡ node_before xs j
before_kept i r xs zero l = refl
before_kept i r xs (suc j) l = let ne : j ≢ i = omega arith in ap Some (get_or-set_other xs i j r 0 ne)

pub before_more : (i r : ℕ) (xs : List ℕ) → i < length xs → Some r ≡ node_before (set xs i r) (i + 1)
before_more i r xs l = rw add-one (ap Some (sym (get_or-set_same xs i r 0 l)))

module _ (n : ℕ) (s : ℕ → ℕ → Bool) (st : ℕ → Bool) (k : ℕ) (d : List (Option ℕ)) where
  pub walked_more : (i r : ℕ) (xs : List ℕ) → i < length xs → Walked n s st k d i xs → Least n (Passing (goes_on s st (node_before xs i)) d (k - i)) r → Walked n s st k d (i + 1) (set xs i r)
  walked_more i r xs l w h j lj =
      let e = before_kept i r xs j (omega arith) in
      ⊎_elim
      (λ lj2. let ne : j ≢ i = omega arith in let f = get_or-set_other xs i j r 0 ne in rw (e, f) (w j lj2))
      (λ ge. let q : j ≡ i = omega arith in let e' = before_kept i r xs i (omega arith) in let f = get_or-set_same xs i r 0 l in rw (q, e', f) h)
      (cases_lt j i)

  -- there is a node to go on to
  pub walked_next : SomeBelow n (Passing st d k) → Descends n s d → (i : ℕ) (xs : List ℕ) → i ≤ k → Walked n s st k d i xs → SomeBelow n (Passing (goes_on s st (node_before xs i)) d (k - i))
  walked_next start down zero xs l w = let e : k ≡ k - 0 = omega arith in subst (λ x. SomeBelow n (Passing st d x)) e start
  walked_next start down (suc i) xs l w =
      let o = w i (omega arith) in
      let e : k - i ≡ k - suc i + 1 = omega arith in
      down (get_or xs i 0) (k - suc i) o.within (o.holds.1 ∙ ap Some e)
