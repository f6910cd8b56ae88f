-- Chains over a computed list of next codes: what they reach and which is best, checked by computing.
use Rattle.std.proofs.Common.{◌≡◌, ℕ, zero, suc, ◌<◌, Bool, true, false, not, ◌&&◌, ◌||◌, eqb, ltb, ◌⊎◌, List, [], ◌∷◌, ◌++◌, length, sym, refl, subst, inl, inr, arith}
use mathlib.Core.List.Memᴰ
use mathlib.Core.List.{Memᴰ}
use native.Mathlib.Decide.{ℕ_discrete, dec_lt}
use Rattle.std.proofs.lemmas.Bool.{and_parts, or_cases, or_left, or_right, eqb-true, eqb-false, eq-eqb, ltb-true, not-true}
use Rattle.search.specs.Chains.{Chain, alone, onward, Reaches, Before, Best}
use Rattle.search.proofs.Chaining.{chain_on, reaches_step, reaches_itself}
use Rattle.law.specs.Counting.{AllDiffer}
use Rattle.law.specs.Examples.{among}

-- tests on lists
abbrev pub all : {A : Type 0} → (A → Bool) → List A → Bool
all f [] = true
all f (x ∷ xs) = f x && all f xs

abbrev pub put : {A : Type 0} → Bool → A → List A → List A
put true x r = x ∷ r
put false x r = r

abbrev pub keep : {A : Type 0} → (A → Bool) → List A → List A
keep f [] = []
keep f (x ∷ xs) = put (f x) x (keep f xs)

pub among_in : (x : ℕ) (xs : List ℕ) → among x xs ≡ true → Memᴰ x xs
among_in x [] e = let z : ◌≡◌ {A = ℕ} 0 1 = cc in absurd (omega arith)
among_in x (y ∷ ys) e = elim (or_cases (eqb x y) (among x ys) e) [ inl k ↦ Memᴰ.head (eqb-true x y k) | inr k ↦ Memᴰ.tail (among_in x ys k) ]

pub in_among : (x : ℕ) (xs : List ℕ) → Memᴰ x xs → among x xs ≡ true
in_among x [] m = absurd (Memᴰ.not-nil m)
in_among x (y ∷ ys) m = elim (Memᴰ.cases_cons m) [ inl k ↦ or_left (eqb x y) (among x ys) (eq-eqb x y k) | inr k ↦ or_right (eqb x y) (among x ys) (in_among x ys k) ]

pub all_in : {A : Type 0} (f : A → Bool) (xs : List A) → all f xs ≡ true → (x : A) → Memᴰ x xs → f x ≡ true
all_in f [] e x m = absurd (Memᴰ.not-nil m)
all_in f (y ∷ ys) e x m = elim (Memᴰ.cases_cons m) [ inl k ↦ subst (λ z. f z ≡ true) (sym k) (and_parts (f y) (all f ys) e).0 | inr k ↦ all_in f ys (and_parts (f y) (all f ys) e).1 x k ]

put_in : {A : Type 0} (b : Bool) (x : A) (r : List A) (y : A) → Memᴰ y (put b x r) → ((y ≡ x) × (b ≡ true)) ⊎ Memᴰ y r
put_in true x r y m = elim (Memᴰ.cases_cons m) [ inl e ↦ inl (e, refl) | inr k ↦ inr k ]
put_in false x r y m = inr m

in_put : {A : Type 0} (b : Bool) (x : A) (r : List A) (y : A) → ((y ≡ x) × (b ≡ true)) ⊎ Memᴰ y r → Memᴰ y (put b x r)
in_put true x r y (inl e) = Memᴰ.head e.0
in_put true x r y (inr k) = Memᴰ.tail k
in_put false x r y (inl e) = let i = e.1 in let z : ◌≡◌ {A = ℕ} 0 1 = cc in absurd (omega arith)
in_put false x r y (inr k) = k

pub keep_in : {A : Type 0} (f : A → Bool) (xs : List A) (y : A) → Memᴰ y (keep f xs) → Memᴰ y xs × (f y ≡ true)
keep_in f [] y m = absurd (Memᴰ.not-nil m)
keep_in f (x ∷ xs) y m = elim (put_in (f x) x (keep f xs) y m) [ inl e ↦ (Memᴰ.head e.0, subst (λ z. f z ≡ true) (sym e.0) e.1) | inr k ↦ (let r = keep_in f xs y k in (Memᴰ.tail r.0, r.1)) ]

pub in_keep : {A : Type 0} (f : A → Bool) (xs : List A) (y : A) → Memᴰ y xs → f y ≡ true → Memᴰ y (keep f xs)
in_keep f [] y m e = absurd (Memᴰ.not-nil m)
in_keep f (x ∷ xs) y m e = in_put (f x) x (keep f xs) y (elim (Memᴰ.cases_cons m) [ inl i ↦ inl (i, subst (λ z. f z ≡ true) i e) | inr k ↦ inr (in_keep f xs y k e) ])

put_differ : {A : Type 0} (b : Bool) (x : A) (r : List A) → (Memᴰ x r → ⊥) → AllDiffer r → AllDiffer (put b x r)
put_differ true x r n d = (n, d)
put_differ false x r n d = d

pub keep_differ : {A : Type 0} (f : A → Bool) (xs : List A) → AllDiffer xs → AllDiffer (keep f xs)
keep_differ f [] d = tt
keep_differ f (x ∷ xs) d = put_differ (f x) x (keep f xs) (λ m. d.0 (keep_in f xs x m).0) (keep_differ f xs d.1)

module _ (next : ℕ → List ℕ) where
  abbrev pub spread : List ℕ → List ℕ
  spread [] = []
  spread (x ∷ xs) = next x ++ spread xs

  -- all that is reached in k steps at most
  abbrev pub grow : ℕ → List ℕ → List ℕ
  grow zero xs = xs
  grow (suc k) xs = grow k (xs ++ keep (λ y. not (among y xs)) (spread xs))

  abbrev pub closed : List ℕ → Bool
  closed xs = all (λ a. all (λ b. among b xs) (next a)) xs

  -- no chain of k steps leads from a to c
  abbrev pub none : ℕ → ℕ → ℕ → Bool
  none zero c a = not (eqb a c)
  none (suc k) c a = all (none k c) (next a)

  abbrev pub none_below : ℕ → ℕ → ℕ → Bool
  none_below zero c a = true
  none_below (suc k) c a = none k c a && none_below k c a

  -- of the chains from a to c with as many nodes, none is before this one
  abbrev pub leads_first : List ℕ → ℕ → ℕ → Bool
  leads_first [] c a = true
  leads_first (x ∷ xs) c a = ltb x a || ((eqb x a && all (leads_first xs c) (next a)) || none (length xs) c a)

  abbrev pub is_chain : ℕ → List ℕ → ℕ → Bool
  is_chain x [] c = eqb x c
  is_chain x (y ∷ ys) c = among y (next x) && is_chain y ys c

  module _ (G : ℕ → ℕ → Type 0) (complete : (a b : ℕ) → G a b → Memᴰ b (next a)) where
    pub stays_in : {a b : ℕ} {ys : List ℕ} (xs : List ℕ) → closed xs ≡ true → Memᴰ a xs → Chain G a b ys → Memᴰ b xs
    stays_in xs e m alone = m
    stays_in {a} xs e m (onward {b = b} s k) =
        stays_in xs e (among_in b xs (all_in (λ b. among b xs) (next a) (all_in (λ a. all (λ b. among b xs) (next a)) xs e a m) b (complete a b s))) k

    pub none_leads : {a c : ℕ} {ys : List ℕ} (k : ℕ) → none k c a ≡ true → Chain G a c ys → length ys ≡ suc k → ⊥
    none_leads {a} zero e alone l = eqb-false a a (not-true (eqb a a) e) refl
    none_leads (suc k) e alone l = omega arith
    none_leads zero e (onward s (alone)) l = omega arith
    none_leads zero e (onward s (onward t r)) l = omega arith
    none_leads {a} {c} (suc k) e (onward {b = b} s r) l = none_leads k (all_in (none k c) (next a) e b (complete a b s)) r (omega arith)

    chain_long : {a c : ℕ} {ys : List ℕ} → Chain G a c ys → 0 < length ys
    chain_long alone = omega arith
    chain_long (onward s r) = omega arith

    below_none : (m k c a : ℕ) → none_below m c a ≡ true → k < m → none k c a ≡ true
    below_none zero k c a e h = absurd (omega arith)
    below_none (suc m) k c a e h = elim (ℕ_discrete k m) [
      | yes i ↦ subst (λ z. none z c a ≡ true) (sym i) (and_parts (none m c a) (none_below m c a) e).0
      | no i ↦ below_none m k c a (and_parts (none m c a) (none_below m c a) e).1 (omega arith)
    ]

    nothing_before : (xs ys : List ℕ) → length xs ≡ 0 → Before xs ys
    nothing_before [] ys e = tt
    nothing_before (x ∷ xs) ys e = absurd (omega arith)

    pub first_leads : (xs : List ℕ) {a c : ℕ} {ys : List ℕ} → leads_first xs c a ≡ true → Chain G a c ys → length ys ≡ length xs → Before xs ys
    first_leads [] e k l = tt
    first_leads (x ∷ xs) {a} e alone l = elim (or_cases (ltb x a) _ e) [
      | inl i ↦ inl (ltb-true x a i)
      | inr i ↦ elim (or_cases (eqb x a && all (leads_first xs a) (next a)) _ i) [
        | inl j ↦ inr (eqb-true x a (and_parts (eqb x a) _ j).0, nothing_before xs [] (omega arith))
        | inr j ↦ absurd (none_leads (length xs) j alone (omega arith))
      ]
    ]
    first_leads (x ∷ xs) {a} {c} e (onward {b = b} s k) l = elim (or_cases (ltb x a) _ e) [
      | inl i ↦ inl (ltb-true x a i)
      | inr i ↦ elim (or_cases (eqb x a && all (leads_first xs c) (next a)) _ i) [
        | inl j ↦ (let t = and_parts (eqb x a) _ j in inr (eqb-true x a t.0, first_leads xs (all_in (leads_first xs c) (next a) t.1 b (complete a b s)) k (omega arith)))
        | inr j ↦ absurd (none_leads (length xs) j (onward s k) (omega arith))
      ]
    ]

    module _ (sound : (a b : ℕ) → Memᴰ b (next a) → G a b) where
      pub chain_by : (x : ℕ) (xs : List ℕ) (c : ℕ) → is_chain x xs c ≡ true → Chain G x c (x ∷ xs)
      chain_by x [] c e = subst (λ z. Chain G x z (x ∷ [])) (eqb-true x c e) alone
      chain_by x (y ∷ ys) c e = let t = and_parts (among y (next x)) (is_chain y ys c) e in onward (sound x y (among_in y (next x) t.0)) (chain_by y ys c t.1)

      -- the best chain, checked by computing
      pub best_by : (S : ℕ → Type 0) (starts : List ℕ) (c x : ℕ) (xs : List ℕ) → ((a : ℕ) → S a → Memᴰ a starts) → S x → is_chain x xs c ≡ true
          → all (λ a. none_below (length xs) c a && leads_first (x ∷ xs) c a) starts ≡ true → Best G S c (x ∷ xs)
      best_by S starts c x xs within start chain e = record {
        from = x;
        starts = start;
        leads = chain_by x xs c chain;
        shortest = λ a ys s k. elim (dec_lt (length ys) (suc (length xs))) [
          | yes h ↦ absurd (shorter a ys s k h)
          | no h ↦ omega arith
        ];
        first = λ a ys s k l. first_leads (x ∷ xs) (and_parts (none_below (length xs) c a) _ (checked a s)).1 k l;
      }
        where
          checked : (a : ℕ) → S a → (none_below (length xs) c a && leads_first (x ∷ xs) c a) ≡ true
          checked a s = all_in (λ a. none_below (length xs) c a && leads_first (x ∷ xs) c a) starts e a (within a s)

          shorter : (a : ℕ) (ys : List ℕ) → S a → Chain G a c ys → length ys < suc (length xs) → ⊥
          shorter a [] s k h = let z = chain_long k in omega arith
          shorter a (y ∷ ys) s k h = none_leads (length ys) (below_none (length xs) (length ys) c a (and_parts (none_below (length xs) c a) _ (checked a s)).0 (omega arith)) k refl

      -- what is grown is reached
      spread_in : (xs : List ℕ) (b : ℕ) → Memᴰ b (spread xs) → (a : ℕ) × Memᴰ a xs × Memᴰ b (next a)
      spread_in [] b m = absurd (Memᴰ.not-nil m)
      spread_in (x ∷ xs) b m = elim (Memᴰ.append_cases (next x) m) [ inl k ↦ (x, Memᴰ.head refl, k) | inr k ↦ (let r = spread_in xs b k in (r.0, Memᴰ.tail r.1, r.2)) ]

      pub grown : (S : ℕ → Type 0) (k : ℕ) (xs : List ℕ) → ((a : ℕ) → Memᴰ a xs → (s : ℕ) × S s × Reaches G s a) → (b : ℕ) → Memᴰ b (grow k xs) → (s : ℕ) × S s × Reaches G s b
      grown S zero xs f b m = f b m
      grown S (suc k) xs f b m = grown S k (xs ++ keep (λ y. not (among y xs)) (spread xs)) (λ a i. elim (Memᴰ.append_cases xs i) [
        | inl j ↦ f a j
        | inr j ↦ (let r = spread_in xs a (keep_in (λ y. not (among y xs)) (spread xs) a j).0 in
            let t = f r.0 r.1 in
            (t.0, t.1, chain_on t.2.1 (reaches_step (sound r.0 a r.2) (reaches_itself a))))
      ]) b m
