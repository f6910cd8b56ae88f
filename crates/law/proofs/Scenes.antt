-- Soundness of one scene from that of another, and of the scene in which nothing has happened.
use Rattle.std.proofs.Common.{◌≡◌, ℕ, ◌<◌, ◌≤◌, true, List, [], ◌∷◌, length, get_or, sym, refl, ◌∙◌, subst, inl, inr, arith}
use mathlib.Core.List.{Memᴰ}
use native.Mathlib.Decide.{ℕ_discrete}
use Rattle.std.proofs.ByRecursion.{All-get_or}
use Rattle.std.proofs.lemmas.List.{get_or_past}
use Rattle.std.proofs.lemmas.Bool.{cases_Bool, cases_lt, both_ways}
use Rattle.search.specs.Chains.{Chain, alone, onward, Reached}
use Rattle.search.proofs.Chaining.{chain_wider, reaches_itself, reaches_step}
use Rattle.offices.specs.Model.{OfficeModel, SetModel, Shaped}
use Rattle.banks.specs.Banks.{office_at, no_office}
use Rattle.banks.specs.Codes.{office_of, role_of}
use Rattle.law.specs.Roles.{LawfulBank, no_set, set_at, member_code, IsRole, IsSet, Over}
use Rattle.law.specs.Counting.{Many}
use Rattle.law.specs.Sound.{Link, Scene, Step, Leads, PlaceReached, Overreached, Outsiders, Sound}
use Rattle.law.specs.Promises.{Within, MoreNeverMends, MoreSaidNeverMends}

pub many_more : {A : Type 0} (P Q : A → Type 0) (n : ℕ) → ((x : A) → P x → Q x) → Many P n → Many Q n
many_more P Q n f m = (m.0, m.1, λ x i. f x (m.2 x i), m.3)

pub reached_more : {S T : ℕ → ℕ → Type 0} (A B : ℕ → Type 0) → ((a b : ℕ) → S a b → T a b) → ((a : ℕ) → A a → B a) → (b : ℕ) → Reached S A b → Reached T B b
reached_more A B f g b r = (r.0, g r.0 r.1, (r.2.0, chain_wider f r.2.1))

module _ (bank : List OfficeModel) where
  pub step_more : (P Q : Link → Type 0) → ((l : Link) → P l → Q l) → (a b : ℕ) → Step bank P a b → Step bank Q a b
  step_more P Q f a b (inl s) = inl s
  step_more P Q f a b (inr l) = inr (f _ l)

  pub leads_more : (P Q : Link → Type 0) → ((l : Link) → P l → Q l) → (a b : ℕ) → Leads bank P a b → Leads bank Q a b
  leads_more P Q f a b r = (r.0, chain_wider (step_more P Q f) r.1)

  module _ {v w : Scene} (less : Within v w) where
    pub place_more : (A B : ℕ → Type 0) → ((a : ℕ) → A a → B a) → (o : ℕ) (set : SetModel) (p : ℕ) → PlaceReached bank v A o set p → PlaceReached bank w B o set p
    place_more A B f o set p y = (y.0, reached_more A B (step_more v.linked w.linked less.linked) f (member_code o set p) y.1)

    pub overreached_more : (A B : ℕ → Type 0) → ((a : ℕ) → A a → B a) → (o k : ℕ) → Overreached bank v A o k → Overreached bank w B o k
    overreached_more A B f o k x = (
      x.0,
      many_more (PlaceReached bank v A o (set_at bank o k)) (PlaceReached bank w B o (set_at bank o k)) _ (place_more A B f o (set_at bank o k)) x.1,
    )

    pub outsiders_more : (o a : ℕ) → Outsiders bank v o a → Outsiders bank w o a
    outsiders_more o a y = (y.0, λ t. y.1 (less.trusted o (office_of a) t))

    -- the one lemma on more links, more holdings and less trust
    pub sound_less : Sound bank w → Sound bank v
    sound_less s = record {
      hierarchy = λ a b ra rb same r. s.hierarchy a b ra rb same (leads_more v.linked w.linked less.linked a b r);
      exclusion = λ o k c x. s.exclusion o k c (overreached_more (v.held c) (w.held c) (less.held c) o k x);
      exposure = λ o k x. s.exposure o k (overreached_more (Outsiders bank v o) (Outsiders bank w o) (outsiders_more o) o k x);
    }

pub more_never_mends : MoreNeverMends
more_never_mends bank linked linked' held held' trusted trusted' less unsound s = unsound (sound_less bank less s)

pub more_said_never_mends : MoreSaidNeverMends
more_said_never_mends bank h h' less unsound s = unsound (sound_less bank less s)

-- what is not unsound is sound
pub sound_stable : (bank : List OfficeModel) (s : Scene) → ((Sound bank s → ⊥) → ⊥) → Sound bank s
sound_stable bank s h = record {
  hierarchy = λ a b ra rb same r. (
    same,
    elim (cases_Bool ((office_at bank (office_of a)).over (role_of a) (role_of b)))
        [ inl e ↦ e | inr n ↦ absurd (h (λ k. both_ways _ n (k.hierarchy a b ra rb same r).1)) ],
  );
  exclusion = λ o k c x. h (λ q. q.exclusion o k c x);
  exposure = λ o k x. h (λ q. q.exposure o k x);
}

-- a code of a role is of an office that is heard
pub role_heard : (bank : List OfficeModel) (c : ℕ) → IsRole bank c → office_of c < length bank
role_heard bank c r = elim (cases_lt (office_of c) (length bank)) [
  | inl h ↦ h
  | inr h ↦ (let e : (office_at bank (office_of c)).roles ≡ 0 = subst (λ (m : OfficeModel). m.roles ≡ 0) (sym (get_or_past bank (office_of c) no_office h)) refl in absurd (omega arith))
]

-- and so is an office that has a set
pub set_heard : (bank : List OfficeModel) (o k : ℕ) → IsSet bank o k → o < length bank
set_heard bank o k is = elim (cases_lt o (length bank)) [
  | inl h ↦ h
  | inr h ↦ (let e : length (office_at bank o).sets ≡ 0 = subst (λ (m : OfficeModel). length m.sets ≡ 0) (sym (get_or_past bank o no_office h)) refl in absurd (omega arith))
]

module _ (bank : List OfficeModel) (lawful : LawfulBank bank) where
  pub over_itself : (a : ℕ) → IsRole bank a → Over bank a a
  over_itself a role = (refl, (lawful.lawful (office_of a)).order.itself (role_of a) role)

  -- only roles are over anything, or under it
  pub over_roles : (a b : ℕ) → Over bank a b → IsRole bank a × IsRole bank b
  over_roles a b x =
      let i = (lawful.lawful (office_of a)).order.inside (role_of a) (role_of b) x.1 in
      (i.0, subst (λ o. role_of b < (office_at bank o).roles) x.0 i.1)

  pub over_across : (a b c : ℕ) → Over bank a b → Over bank b c → Over bank a c
  over_across a b c p q = (
    p.0 ∙ q.0,
    (lawful.lawful (office_of a)).order.across (role_of a) (role_of b) (role_of c) p.1
        (subst (λ o. (office_at bank o).over (role_of b) (role_of c) ≡ true) (sym p.0) q.1),
  )

  module _ (P : Link → Type 0) (none : (l : Link) → P l → ⊥) where
    -- with no links a chain from a role is seniority
    pub chain_over : {a b : ℕ} {xs : List ℕ} → IsRole bank a → Chain (Step bank P) a b xs → Over bank a b
    chain_over {a} role alone = over_itself a role
    chain_over {a} role (onward {b = m} {c = b} (inl s) rest) = over_across a m b s.1 (chain_over (over_roles a m s.1).1 rest)
    chain_over {a} role (onward (inr l) rest) = absurd (none _ l)

    pub over_leads : (a b : ℕ) → Over bank a b → Leads bank P a b
    over_leads a b over = elim (ℕ_discrete a b) [
      | yes e ↦ subst (λ x. Leads bank P a x) e (reaches_itself a)
      | no n ↦ reaches_step (inl (n, over)) (reaches_itself b)
    ]

  pub shaped_at : (o k : ℕ) → IsSet bank o k → Shaped (office_at bank o).roles (set_at bank o k)
  shaped_at o k is = All-get_or (Shaped (office_at bank o).roles) (office_at bank o).sets k no_set is (lawful.lawful o).shaped

  pub member_office : (o k p : ℕ) → IsSet bank o k → p < length (set_at bank o k).members → office_of (member_code o (set_at bank o k) p) ≡ o
  member_office o k p is h =
      let m : get_or (set_at bank o k).members p 0 < (office_at bank o).roles = All-get_or (λ r. r < (office_at bank o).roles) (set_at bank o k).members p 0 h (shaped_at o k is).exist in
      let f = (lawful.lawful o).few in
      omega arith

  first_of : {A : Type 0} (Q : A → Type 0) (xs : List A) → ((x : A) → Memᴰ x xs → Q x) → 2 ≤ length xs → (x : A) × Q x
  first_of Q [] all big = absurd (omega arith)
  first_of Q (x ∷ xs) all big = (x, all x (Memᴰ.head refl))

  -- a place that is reached where too many are
  pub some_reached : (s : Scene) (S : ℕ → Type 0) (o k : ℕ) → Overreached bank s S o k → (p : ℕ) × PlaceReached bank s S o (set_at bank o k) p
  some_reached s S o k x = first_of (PlaceReached bank s S o (set_at bank o k)) x.1.0 x.1.2
      (let b = (shaped_at o k x.0).low in let m = x.1.3 in omega arith)

  -- the scene of a new register
  pub new_sound : (s : Scene) → ((l : Link) → s.linked l → ⊥) → ((c r : ℕ) → s.held c r → ⊥) → ((o : ℕ) → s.trusted o o) → Sound bank s
  new_sound s no_link no_hold itself = record {
    hierarchy = λ a b ra rb same r. chain_over s.linked no_link ra r.1;
    exclusion = λ o k c x. no_hold c _ (some_reached s (s.held c) o k x).1.1.1;
    exposure = λ o k x.
        let r = some_reached s (Outsiders bank s o) o k x in
        let y = r.1.1 in
        let over : Over bank y.0 (member_code o (set_at bank o k) r.0) = chain_over s.linked no_link y.1.0 y.2.1 in
        y.1.1 (subst (λ z. s.trusted o z) (sym (over.0 ∙ member_office o k r.0 x.0 r.1.0)) (itself o));
  }
