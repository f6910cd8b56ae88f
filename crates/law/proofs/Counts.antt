-- Lists of different things, and how many there are.
use Rattle.std.proofs.Common.{◌≡◌, ℕ, zero, suc, ◌<◌, ◌≤◌, ◌⊎◌, List, [], ◌∷◌, length, sym, refl, ap, ◌∙◌, subst, inl, inr, arith}
use mathlib.Core.List.Memᴰ
use mathlib.Core.List.{Memᴰ}
use native.Mathlib.Decide.{ℕ_discrete}
use Rattle.law.specs.Counting.{AllDiffer, Many}

-- as many, with a in the place of b
module _ {A : Type 0} (P : A → Type 0) (a b : A) (new : P a → ⊥) where
  pick : (x : A) → (x ≡ b) ⊎ P x → A
  pick x (inl e) = a
  pick x (inr p) = x

  exchange : (xs : List A) → ((x : A) → Memᴰ x xs → (x ≡ b) ⊎ P x) → List A
  exchange [] f = []
  exchange (x ∷ xs) f = pick x (f x (Memᴰ.head refl)) ∷ exchange xs (λ y i. f y (Memᴰ.tail i))

  -- where an exchanged one comes from
  From : List A → A → Type 0
  From xs y = ((y ≡ a) × Memᴰ b xs) ⊎ (Memᴰ y xs × P y)

  picked : (x : A) (xs : List A) (o : (x ≡ b) ⊎ P x) (y : A) → y ≡ pick x o → From (x ∷ xs) y
  unfolding pick From
  picked x xs (inl e) y i = inl (i, Memᴰ.head (sym e))
  picked x xs (inr p) y i = inr (Memᴰ.head i, subst P (sym i) p)

  from_tail : (x : A) (xs : List A) (y : A) → From xs y → From (x ∷ xs) y
  unfolding From
  from_tail x xs y (inl i) = inl (i.0, Memᴰ.tail i.1)
  from_tail x xs y (inr i) = inr (Memᴰ.tail i.0, i.1)

  exchanged : (xs : List A) (f : (x : A) → Memᴰ x xs → (x ≡ b) ⊎ P x) (y : A) → Memᴰ y (exchange xs f) → From xs y
  unfolding exchange
  exchanged [] f y m = absurd (Memᴰ.not-nil m)
  exchanged (x ∷ xs) f y m = elim (Memᴰ.cases_cons m) [
    | inl e ↦ picked x xs (f x (Memᴰ.head refl)) y e
    | inr k ↦ from_tail x xs y (exchanged xs (λ z i. f z (Memᴰ.tail i)) y k)
  ]

  not_again : (x : A) (xs : List A) (o : (x ≡ b) ⊎ P x) → (Memᴰ x xs → ⊥) → From xs (pick x o) → ⊥
  unfolding pick From
  not_again x xs (inl e) out (inl i) = out (Memᴰ.cast e i.1)
  not_again x xs (inl e) out (inr i) = new i.1
  not_again x xs (inr p) out (inl i) = new (subst P i.0 p)
  not_again x xs (inr p) out (inr i) = out i.0

  exchange_differ : (xs : List A) (f : (x : A) → Memᴰ x xs → (x ≡ b) ⊎ P x) → AllDiffer xs → AllDiffer (exchange xs f)
  unfolding exchange
  exchange_differ [] f d = tt
  exchange_differ (x ∷ xs) f d = (
    (λ m. not_again x xs (f x (Memᴰ.head refl)) d.0 (exchanged xs (λ y i. f y (Memᴰ.tail i)) _ m)),
    exchange_differ xs (λ y i. f y (Memᴰ.tail i)) d.1,
  )

  exchange_length : (xs : List A) (f : (x : A) → Memᴰ x xs → (x ≡ b) ⊎ P x) → length (exchange xs f) ≡ length xs
  unfolding exchange
  exchange_length [] f = refl
  exchange_length (x ∷ xs) f = ap suc (exchange_length xs (λ y i. f y (Memᴰ.tail i)))

  pub many_exchange : (n : ℕ) → Many (λ x. (x ≡ b) ⊎ P x) n → Many (λ x. (x ≡ a) ⊎ P x) n
  unfolding From
  many_exchange n m = (
    exchange m.0 m.2,
    exchange_differ m.0 m.2 m.1,
    (λ y i. elim (exchanged m.0 m.2 y i) [ inl e ↦ inl e.0 | inr p ↦ inr p.1 ]),
    (let l = m.3 in omega (arith, exchange_length m.0 m.2)),
  )

-- one of them at most is the other one, so the rest have P
pub many_less : {A : Type 0} (P : A → Type 0) (a : A) (n : ℕ) → Many (λ x. (x ≡ a) ⊎ P x) (suc n) → Many P n
many_less {A} P a n m = let r = rest m.0 m.1 m.2 in let l = m.3 in let k = r.3 in (r.0, r.1, (λ y i. (r.2 y i).0), omega arith)
  where
    rest : (xs : List A) → AllDiffer xs → ((x : A) → Memᴰ x xs → (x ≡ a) ⊎ P x)
        → (ys : List A) × AllDiffer ys × ((y : A) → Memᴰ y ys → P y × Memᴰ y xs) × (length xs ≤ suc (length ys))
    rest [] d f = ([], tt, (λ y i. absurd (Memᴰ.not-nil i)), omega arith)
    rest (x ∷ xs) d f = elim (f x (Memᴰ.head refl)) [
      | inl e ↦ (xs, d.1, (λ y i. elim (f y (Memᴰ.tail i)) [ inl j ↦ absurd (d.0 (Memᴰ.cast (e ∙ sym j) i)) | inr p ↦ (p, Memᴰ.tail i) ]), omega arith)
      | inr p ↦ (let r = rest xs d.1 (λ y i. f y (Memᴰ.tail i)) in
          let l = r.3 in (
            x ∷ r.0,
            ((λ i. d.0 (r.2 x i).1), r.1),
            (λ y i. elim (Memᴰ.cases_cons i) [
              | inl e ↦ (subst P (sym e) p, Memᴰ.head e)
              | inr k ↦ (let z = r.2 y k in (z.0, Memᴰ.tail z.1))
            ]),
            omega arith,
          ))
    ]

-- the numbers below n
abbrev pub upto : ℕ → List ℕ
upto zero = []
upto (suc n) = n ∷ upto n

pub in_upto : (n x : ℕ) → x < n → Memᴰ x (upto n)
in_upto zero x h = absurd (omega arith)
in_upto (suc n) x h = elim (ℕ_discrete x n) [ yes e ↦ Memᴰ.head e | no k ↦ Memᴰ.tail (in_upto n x (omega arith)) ]

pub upto_in : (n x : ℕ) → Memᴰ x (upto n) → x < n
upto_in zero x m = absurd (Memᴰ.not-nil m)
upto_in (suc n) x m = elim (Memᴰ.cases_cons m) [ inl e ↦ omega arith | inr k ↦ (let h = upto_in n x k in omega arith) ]

pub upto_differ : (n : ℕ) → AllDiffer (upto n)
upto_differ zero = tt
upto_differ (suc n) = ((λ m. let h = upto_in n n m in omega arith), upto_differ n)

pub length_upto : (n : ℕ) → length (upto n) ≡ n
length_upto zero = refl
length_upto (suc n) = ap suc (length_upto n)

-- different ones out of a list are no more than it has
without : {A : Type 0} {y : A} {xs : List A} → Memᴰ y xs → List A
without (Memᴰ.head {xs = xs} e) = xs
without (Memᴰ.tail {x = x} m) = x ∷ without m

without_length : {A : Type 0} {y : A} {xs : List A} (m : Memᴰ y xs) → suc (length (without m)) ≡ length xs
unfolding without
without_length (Memᴰ.head e) = refl
without_length (Memᴰ.tail m) = ap suc (without_length m)

in_without : {A : Type 0} {y z : A} {xs : List A} (m : Memᴰ y xs) → Memᴰ z xs → (z ≡ y → ⊥) → Memᴰ z (without m)
unfolding without
in_without (Memᴰ.head e) k n = elim (Memᴰ.cases_cons k) [ inl i ↦ absurd (n (i ∙ sym e)) | inr j ↦ j ]
in_without (Memᴰ.tail m) k n = elim (Memᴰ.cases_cons k) [ inl i ↦ Memᴰ.head i | inr j ↦ Memᴰ.tail (in_without m j n) ]

pub no_more : {A : Type 0} (ys xs : List A) → AllDiffer ys → ((y : A) → Memᴰ y ys → Memᴰ y xs) → length ys ≤ length xs
no_more [] xs d f = omega arith
no_more (y ∷ ys) xs d f =
    let m = f y (Memᴰ.head refl) in
    let r = no_more ys (without m) d.1 (λ z k. in_without m (f z (Memᴰ.tail k)) (λ e. d.0 (Memᴰ.cast (sym e) k))) in
    omega (arith, without_length m)
