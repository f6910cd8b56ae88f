-- Choices by a number or a pair of numbers, options, and tables that say the same.
use Rattle.std.proofs.Common.{◌≡◌, ℕ, ◌<◌, cond, ◌&&◌, eqb, ◌⊎◌, ◌↔◌, List, Some, None, Option, sym, ◌∙◌, subst, inl, inr, arith}
use mathlib.Core.Logic.Iff
use Rattle.std.proofs.lemmas.Bool.{cases_eq, eq-eqb, ne_eqb, and_from, and_left, and_right, cond-true, cond-false}
use Rattle.banks.specs.Codes.{office_of, role_of}
use Rattle.law.specs.Sound.{Link}
use Rattle.law.specs.Histories.{Event, Alike}
use Rattle.accord.specs.Tables.{Tables, Holding, Trusting, Recorded, Resting}
use Rattle.accord.specs.Agree.{Agree}
use Rattle.accord.specs.Settling.{Same}

pub some_one : (x y : ℕ) → Some x ≡ Some y → x ≡ y
some_one x y e = cc

pub some_none : (o : Option ℕ) (x : ℕ) → o ≡ None → o ≡ Some x → ⊥
some_none o x e f = let z : ◌≡◌ {A = ℕ} 0 1 = cc in omega arith

-- the number is k, or another
pub at_it : {A : Type 0} (i k : ℕ) (x y : A) → i ≡ k → cond (eqb i k) x y ≡ x
at_it i k x y e = cond-true (eqb i k) x y (eq-eqb i k e)

pub at_other : {A : Type 0} (i k : ℕ) (x y : A) → (i ≡ k → ⊥) → cond (eqb i k) x y ≡ y
at_other i k x y n = cond-false (eqb i k) x y (ne_eqb i k n)

-- the pair is (k, m), or another
pub at_pair : {A : Type 0} (i j k m : ℕ) (x y : A) → i ≡ k → j ≡ m → cond (eqb i k && eqb j m) x y ≡ x
at_pair i j k m x y e f = cond-true (eqb i k && eqb j m) x y (and_from (eqb i k) (eqb j m) (eq-eqb i k e) (eq-eqb j m f))

pub off_pair : {A : Type 0} (i j k m : ℕ) (x y : A) → ((i ≡ k) × (j ≡ m) → ⊥) → cond (eqb i k && eqb j m) x y ≡ y
off_pair i j k m x y n = cond-false (eqb i k && eqb j m) x y (elim (cases_eq i k) [
  | inl e ↦ and_right (eqb i k) (eqb j m) (ne_eqb j m (λ f. n (e, f)))
  | inr d ↦ and_left (eqb i k) (eqb j m) (ne_eqb i k d)
])

pub pair_known : (i j k m : ℕ) → ((i ≡ k) × (j ≡ m)) ⊎ ((i ≡ k) × (j ≡ m) → ⊥)
pair_known i j k m = elim (cases_eq i k) [
  | inl e ↦ elim (cases_eq j m) [ inl f ↦ inl (e, f) | inr d ↦ inr (λ x. d x.1) ]
  | inr d ↦ inr (λ x. d x.0)
]

-- a code is known by its office and role
pub code_one : (r r' : ℕ) → office_of r ≡ office_of r' → role_of r ≡ role_of r' → r ≡ r'
code_one r r' e f = omega arith

module _ {t u : Tables} (same : Same u t) where
  pub holding_same : (c r : ℕ) → Holding t c r ↔ Holding u c r
  holding_same c r = (
    (λ x. (same.home c ∙ x.0, same.held c (role_of r) ∙ x.1)),
    λ x. (sym (same.home c) ∙ x.0, sym (same.held c (role_of r)) ∙ x.1),
  )

  pub trusting_same : (o p : ℕ) → Trusting t o p ↔ Trusting u o p
  trusting_same o p = (
    (λ x. elim x [ inl e ↦ inl e | inr e ↦ inr (same.trusted o p ∙ e) ]),
    λ x. elim x [ inl e ↦ inl e | inr e ↦ inr (sym (same.trusted o p) ∙ e) ],
  )

  to_u : (i : ℕ) → i < t.count → i < u.count
  to_u i l = subst (λ n. i < n) (sym same.count) l

  to_t : (i : ℕ) → i < u.count → i < t.count
  to_t i l = subst (λ n. i < n) same.count l

  pub recorded_same : (l : Link) → Recorded t l ↔ Recorded u l
  recorded_same l = (
    (λ x. (x.0, to_u x.0 x.1, same.link x.0 x.1 ∙ x.2)),
    λ x. (x.0, to_t x.0 x.1, sym (same.link x.0 (to_t x.0 x.1)) ∙ x.2),
  )

  pub resting_same : (l : Link) → Resting t l ↔ Resting u l
  resting_same l = (
    (λ x. (x.0, to_u x.0 x.1, same.link x.0 x.1 ∙ x.2, same.suspended x.0 x.1 ∙ x.3)),
    λ x. (let i = to_t x.0 x.1 in (x.0, i, sym (same.link x.0 i) ∙ x.2, sym (same.suspended x.0 i) ∙ x.3)),
  )

  -- tables that say the same agree with the same history
  pub agree_same : (h : List Event) → Agree t h → Agree u h
  agree_same h a = record {
    homes = λ c o. Iff.trans (a.homes c o) ((λ e. same.home c ∙ e), λ e. sym (same.home c) ∙ e);
    holdings = λ c r. Iff.trans (a.holdings c r) (holding_same c r);
    trust = λ o p. Iff.trans (a.trust o p) (trusting_same o p);
    standing = λ l. Iff.trans (a.standing l) (recorded_same l);
    suspended = λ l. Iff.trans (a.suspended l) (resting_same l);
    apart = λ i j l m e. (let k = to_t j m in a.apart i j l k (sym (same.link i (omega arith)) ∙ e ∙ same.link j k));
  }

-- the same tables agree with histories that say the same
pub agree_alike : {t : Tables} {h h' : List Event} → Alike h' h → Agree t h → Agree t h'
agree_alike s a = record {
  homes = λ c o. Iff.trans (s.issued c o) (a.homes c o);
  holdings = λ c r. Iff.trans (s.held c r) (a.holdings c r);
  trust = λ o p. Iff.trans (s.trusted o p) (a.trust o p);
  standing = λ l. Iff.trans (s.standing l) (a.standing l);
  suspended = λ l. Iff.trans (s.suspended l) (a.suspended l);
  apart = a.apart;
}
