-- What a history says is decided: each request either is or is not a given one.
use Rattle.std.proofs.Common.{◌≡◌, ℕ, cond, eqb, ◌⊎◌, List, [], ◌∷◌, sym, refl, ap, ◌∙◌, subst, inl, inr, arith}
use mathlib.Core.List.Memᴰ
use mathlib.Core.List.{Memᴰ}
use Rattle.std.proofs.lemmas.Bool.{cases_eq}
use Rattle.law.specs.Sound.{Link}
use Rattle.law.specs.Requests.{Request, accepted, issue, assign, relieve, handback, trust, distrust, link, try, box, suspend, resume, withdraw, may}
use Rattle.law.specs.Histories.{Event, Since, Is, Enters, Issued, Standing}
use Rattle.law.proofs.Changes.{is_accepted}

abbrev pub Known : Type 0 → Type 0
Known P = P ⊎ (P → ⊥)

-- a request by its kind, two numbers and the lines of a box; and back
record Spelt : Type 0 where
  sort : ℕ
  first : ℕ
  second : ℕ
  lines : List Link

abbrev spelt : Request → Spelt
spelt (issue c o) = record { sort = 1; first = c; second = o; lines = [] }
spelt (assign c r) = record { sort = 2; first = c; second = r; lines = [] }
spelt (relieve c r) = record { sort = 3; first = c; second = r; lines = [] }
spelt (handback c) = record { sort = 4; first = c; second = 0; lines = [] }
spelt (trust o p) = record { sort = 5; first = o; second = p; lines = [] }
spelt (distrust o p) = record { sort = 6; first = o; second = p; lines = [] }
spelt (link l) = record { sort = 7; first = l.from; second = l.to; lines = [] }
spelt (try l) = record { sort = 8; first = l.from; second = l.to; lines = [] }
spelt (suspend l) = record { sort = 9; first = l.from; second = l.to; lines = [] }
spelt (resume l) = record { sort = 10; first = l.from; second = l.to; lines = [] }
spelt (withdraw l) = record { sort = 11; first = l.from; second = l.to; lines = [] }
spelt (may c r) = record { sort = 12; first = c; second = r; lines = [] }
spelt (box ls) = record { sort = 13; first = 0; second = 0; lines = ls }

abbrev read : Spelt → Request
read s =
    let l : Link = record { from = s.first; to = s.second } in
    cond (eqb s.sort 1) (issue s.first s.second)
    (cond (eqb s.sort 2) (assign s.first s.second)
    (cond (eqb s.sort 3) (relieve s.first s.second)
    (cond (eqb s.sort 4) (handback s.first)
    (cond (eqb s.sort 5) (trust s.first s.second)
    (cond (eqb s.sort 6) (distrust s.first s.second)
    (cond (eqb s.sort 7) (link l)
    (cond (eqb s.sort 8) (try l)
    (cond (eqb s.sort 9) (suspend l)
    (cond (eqb s.sort 10) (resume l)
    (cond (eqb s.sort 11) (withdraw l)
    (cond (eqb s.sort 12) (may s.first s.second)
    (box s.lines))))))))))))

read_spelt : (q : Request) → read (spelt q) ≡ q
read_spelt (issue c o) = refl
read_spelt (assign c r) = refl
read_spelt (relieve c r) = refl
read_spelt (handback c) = refl
read_spelt (trust o p) = refl
read_spelt (distrust o p) = refl
read_spelt (link l) = refl
read_spelt (try l) = refl
read_spelt (suspend l) = refl
read_spelt (resume l) = refl
read_spelt (withdraw l) = refl
read_spelt (may c r) = refl
read_spelt (box ls) = refl

pub link_known : (l m : Link) → Known (l ≡ m)
link_known l m = elim (cases_eq l.from m.from) [
  | inl i ↦ elim (cases_eq l.to m.to) [ inl j ↦ inl (λ t. record { from = i t; to = j t }) | inr j ↦ inr (λ e. j (ap (λ (x : Link). x.to) e)) ]
  | inr i ↦ inr (λ e. i (ap (λ (x : Link). x.from) e))
]

lines_known : (ls ms : List Link) → Known (ls ≡ ms)
lines_known [] [] = inl refl
lines_known [] (m ∷ ms) = inr (λ e. let z : ◌≡◌ {A = ℕ} 0 1 = cc in omega arith)
lines_known (l ∷ ls) [] = inr (λ e. let z : ◌≡◌ {A = ℕ} 0 1 = cc in omega arith)
lines_known (l ∷ ls) (m ∷ ms) = elim (link_known l m) [
  | inl i ↦ elim (lines_known ls ms) [ inl j ↦ inl (cc) | inr j ↦ inr (λ e. j (cc)) ]
  | inr i ↦ inr (λ e. i (cc))
]

spelt_known : (s t : Spelt) → Known (s ≡ t)
spelt_known s t = elim (cases_eq s.sort t.sort) [
  | inl i ↦ elim (cases_eq s.first t.first) [
    | inl j ↦ elim (cases_eq s.second t.second) [
      | inl k ↦ elim (lines_known s.lines t.lines) [
        | inl m ↦ inl (λ x. record { sort = i x; first = j x; second = k x; lines = m x })
        | inr m ↦ inr (λ e. m (ap (λ (x : Spelt). x.lines) e))
      ]
      | inr k ↦ inr (λ e. k (ap (λ (x : Spelt). x.second) e))
    ]
    | inr j ↦ inr (λ e. j (ap (λ (x : Spelt). x.first) e))
  ]
  | inr i ↦ inr (λ e. i (ap (λ (x : Spelt). x.sort) e))
]

request_known : (q r : Request) → Known (q ≡ r)
request_known q r = elim (spelt_known (spelt q) (spelt r)) [
  | inl e ↦ inl (sym (read_spelt q) ∙ ap read e ∙ read_spelt r)
  | inr n ↦ inr (λ e. n (ap spelt e))
]

either_known : {P Q : Type 0} → Known P → Known Q → Known (P ⊎ Q)
either_known (inl p) q = inl (inl p)
either_known (inr p) (inl q) = inl (inr q)
either_known (inr p) (inr q) = inr (λ x. elim x [ inl a ↦ p a | inr b ↦ q b ])

among_known : (l : Link) (ls : List Link) → Known (Memᴰ l ls)
among_known l [] = inr Memᴰ.not-nil
among_known l (m ∷ ms) = elim (link_known l m) [
  | inl e ↦ inl (Memᴰ.head e)
  | inr n ↦ elim (among_known l ms) [ inl i ↦ inl (Memᴰ.tail i) | inr k ↦ inr (λ i. elim (Memᴰ.cases_cons i) [ inl e ↦ n e | inr j ↦ k j ]) ]
]

-- a box is the box of its own lines
boxed_known : (l : Link) (r : Request) → Known ((lines : List Link) × (r ≡ box lines) × Memᴰ l lines)
boxed_known l r = elim (request_known r (box (spelt r).lines)) [
  | inl e ↦ elim (among_known l (spelt r).lines) [
    | inl m ↦ inl ((spelt r).lines, e, m)
    | inr n ↦ inr (λ x. n (subst (λ ms. Memᴰ l ms) (sym (ap (λ q. (spelt q).lines) x.1)) x.2))
  ]
  | inr n ↦ inr (λ x. n (x.1 ∙ ap box (sym (ap (λ q. (spelt q).lines) x.1))))
]

since_known : (B E : Request → Type 0) → ((q : Request) → Known (B q)) → ((q : Request) → Known (E q)) → (h : List Event) → Known (Since B E h)
since_known B E b k [] = inr (λ s. s)
since_known B E b k (e ∷ h) = go (is_accepted e.answer) (b e.request) (k e.request) (since_known B E b k h)
  where
    go : Known (e.answer ≡ accepted) → Known (B e.request) → Known (E e.request) → Known (Since B E h) → Known (Since B E (e ∷ h))
    go (inl a) (inl x) y s = inl (inl (a, x))
    go (inl a) (inr x) (inl y) s = inr (λ z. elim z [ inl i ↦ x i.1 | inr i ↦ i.0 (a, y) ])
    go (inl a) (inr x) (inr y) (inl s) = inl (inr ((λ i. y i.1), s))
    go (inl a) (inr x) (inr y) (inr s) = inr (λ z. elim z [ inl i ↦ x i.1 | inr i ↦ s i.1 ])
    go (inr a) x y (inl s) = inl (inr ((λ i. a i.0), s))
    go (inr a) x y (inr s) = inr (λ z. elim z [ inl i ↦ a i.0 | inr i ↦ s i.1 ])

pub issued_known : (h : List Event) (c o : ℕ) → Known (Issued h c o)
issued_known h c o = since_known (Is (issue c o)) (Is (handback c)) (λ q. request_known q (issue c o)) (λ q. request_known q (handback c)) h

pub standing_known : (h : List Event) (l : Link) → Known (Standing h l)
standing_known h l = since_known (Enters l) (Is (withdraw l)) (λ q. either_known (request_known q (link l)) (boxed_known l q)) (λ q. request_known q (withdraw l)) h
