-- How each event changes what a history says.
use Rattle.std.proofs.Common.{◌≡◌, ℕ, ◌<◌, ◌⊎◌, ◌↔◌, List, ◌∷◌, refl, ap, inl, inr, arith}
use mathlib.Core.Logic.{⊎_map}
use mathlib.Core.Logic.Iff
use Rattle.law.specs.Sound.{Link}
use Rattle.law.specs.Requests.{Request, Answer, accepted, refused, refused_at, granted, denied, issue, assign, relieve, handback, trust, distrust, link, try, box, suspend, resume, withdraw, may}
use Rattle.law.specs.Histories.{Event, Since, Is, Either, Enters, Issued, Holds, Trusts, Standing, Suspended, scene}
use Rattle.law.specs.Promises.{Within, OnlyAcceptedChange}

-- up to 4, an accepted one can make a history unsound; up to 8, it changes the scene; up to 11, it changes anything
abbrev pub kind : Request → ℕ
kind (link l) = 1
kind (box ls) = 2
kind (assign c r) = 3
kind (distrust o p) = 4
kind (relieve c r) = 5
kind (handback c) = 6
kind (trust o p) = 7
kind (withdraw l) = 8
kind (issue c o) = 9
kind (suspend l) = 10
kind (resume l) = 11
kind (try l) = 12
kind (may c r) = 13

pub is_accepted : (a : Answer) → (a ≡ accepted) ⊎ (a ≡ accepted → ⊥)
is_accepted accepted = inl refl
is_accepted (refused why) = inr (λ e. let z : ◌≡◌ {A = ℕ} 0 1 = cc in omega arith)
is_accepted (refused_at i why) = inr (λ e. let z : ◌≡◌ {A = ℕ} 0 1 = cc in omega arith)
is_accepted (granted xs) = inr (λ e. let z : ◌≡◌ {A = ℕ} 0 1 = cc in omega arith)
is_accepted denied = inr (λ e. let z : ◌≡◌ {A = ℕ} 0 1 = cc in omega arith)

module _ (B E : Request → Type 0) (e : Event) (h : List Event) where
  pub since_old : (e.answer ≡ accepted → B e.request → ⊥) → Since B E (e ∷ h) → Since B E h
  since_old none (inl x) = absurd (none x.0 x.1)
  since_old none (inr x) = x.1

  pub since_kept : (e.answer ≡ accepted → E e.request → ⊥) → Since B E h → Since B E (e ∷ h)
  since_kept none s = inr (λ x. none x.0 x.1, s)

  pub since_still : (e.answer ≡ accepted → B e.request → ⊥) → (e.answer ≡ accepted → E e.request → ⊥) → Since B E (e ∷ h) ↔ Since B E h
  since_still p q = (since_old p, since_kept q)

  pub since_on : (h' : List Event) → (Since B E h → Since B E h') → Since B E (e ∷ h) → Since B E (e ∷ h')
  since_on h' f (inl x) = inl x
  since_on h' f (inr x) = inr (x.0, f x.1)

pub or_both : {A B C D : Type 0} → A ↔ C → B ↔ D → (A ⊎ B) ↔ (C ⊎ D)
or_both f g = (⊎_map f.0 g.0, ⊎_map f.1 g.1)

-- what an event leaves alone, by its kind
module _ (e : Event) (h : List Event) where
  pub issued_still : (e.answer ≡ accepted → (kind e.request ≡ 9 → ⊥) × (kind e.request ≡ 6 → ⊥)) → (c o : ℕ) → Issued (e ∷ h) c o ↔ Issued h c o
  issued_still k c o = since_still (Is (issue c o)) (Is (handback c)) e h (λ a i. (k a).0 (ap kind i)) (λ a i. (k a).1 (ap kind i))

  pub held_still : (e.answer ≡ accepted → (kind e.request ≡ 3 → ⊥) × (kind e.request ≡ 5 → ⊥) × (kind e.request ≡ 6 → ⊥)) → (c r : ℕ) → Holds (e ∷ h) c r ↔ Holds h c r
  held_still k c r = since_still (Is (assign c r)) (Either (relieve c r) (handback c)) e h (λ a i. (k a).0 (ap kind i)) (λ a y. elim y [ inl i ↦ (k a).1 (ap kind i) | inr i ↦ (k a).2 (ap kind i) ])

  pub trusted_still : (e.answer ≡ accepted → (kind e.request ≡ 7 → ⊥) × (kind e.request ≡ 4 → ⊥)) → (o p : ℕ) → Trusts (e ∷ h) o p ↔ Trusts h o p
  trusted_still k o p = or_both Iff.rfl (since_still (Is (trust o p)) (Is (distrust o p)) e h (λ a i. (k a).0 (ap kind i)) (λ a i. (k a).1 (ap kind i)))

  pub standing_still : (e.answer ≡ accepted → (kind e.request ≡ 1 → ⊥) × (kind e.request ≡ 2 → ⊥) × (kind e.request ≡ 8 → ⊥)) → (l : Link) → Standing (e ∷ h) l ↔ Standing h l
  standing_still k l = since_still (Enters l) (Is (withdraw l)) e h (λ a y. elim y [ inl i ↦ (k a).0 (ap kind i) | inr i ↦ (k a).1 (ap kind i.1) ]) (λ a i. (k a).2 (ap kind i))

  pub suspended_still : (e.answer ≡ accepted → (kind e.request ≡ 10 → ⊥) × (kind e.request ≡ 11 → ⊥) × (kind e.request ≡ 8 → ⊥)) → (l : Link) → Suspended (e ∷ h) l ↔ Suspended h l
  suspended_still k l = since_still (Is (suspend l)) (Either (resume l) (withdraw l)) e h (λ a i. (k a).0 (ap kind i)) (λ a y. elim y [ inl i ↦ (k a).1 (ap kind i) | inr i ↦ (k a).2 (ap kind i) ])

-- only LINK, boxes, ASSIGN and DISTRUST, accepted, can make a history unsound
pub harmless : (e : Event) (h : List Event) → (e.answer ≡ accepted → 4 < kind e.request) → Within (scene (e ∷ h)) (scene h)
harmless e h f = record {
  linked = λ l s. since_old (Enters l) (Is (withdraw l)) e h (λ acc x. elim x [
    | inl i ↦ (let k = f acc in omega (arith, ap kind i))
    | inr i ↦ (let k = f acc in omega (arith, ap kind i.1))
  ]) s;
  held = λ c r s. since_old (Is (assign c r)) (Either (relieve c r) (handback c)) e h (λ acc i. let k = f acc in omega (arith, ap kind i)) s;
  trusted = λ o p t. elim t [ inl i ↦ inl i | inr s ↦ inr (since_kept (Is (trust o p)) (Is (distrust o p)) e h (λ acc i. let k = f acc in omega (arith, ap kind i)) s) ];
}

pub only_accepted_change : OnlyAcceptedChange
only_accepted_change h e f = record {
  issued = issued_still e h (λ a. let k = idle a in ((λ i. omega arith), λ i. omega arith));
  held = held_still e h (λ a. let k = idle a in ((λ i. omega arith), (λ i. omega arith), λ i. omega arith));
  trusted = trusted_still e h (λ a. let k = idle a in ((λ i. omega arith), λ i. omega arith));
  standing = standing_still e h (λ a. let k = idle a in ((λ i. omega arith), (λ i. omega arith), λ i. omega arith));
  suspended = suspended_still e h (λ a. let k = idle a in ((λ i. omega arith), (λ i. omega arith), λ i. omega arith));
}
  where
    idle : e.answer ≡ accepted → kind e.request ≡ 12
    idle a = ap kind (f a).1
