-- What one event more says of the office drafted.
use Rattle.std.proofs.Common.{◌≡◌, ℕ, ◌<◌, min, eqb, ◌⊎◌, List, [], ◌∷◌, ◌++◌, Ok, Err, sym, refl, ap, ◌∙◌, subst, inl, inr, ⊎_elim, append-nil, arith}
use mathlib.Core.List.Memᴰ
use mathlib.Core.List.{Memᴰ}
use Rattle.std.proofs.lemmas.Bool.{or_cases, or_left, or_right, eqb-true, eq-eqb}
use Rattle.answers.specs.declared.Refusal.{Refusal}
use Rattle.offices.specs.Model.{OfficeModel, SetModel}
use Rattle.offices.specs.Drafting.{Answer, Call, pair, share, exclude, Event, Accepted, Paired, Drafted, Keeps, fresh, set_told, sets_told, after_pair, after_mark, after_set}
use Rattle.offices.proofs.Closing.{closes_none, closes_more, closes_same}

pub drafted_none : (n : ℕ) → Drafted n [] (fresh (min n 64))
drafted_none n = record {
  roles = refl;
  inside = λ s j p. absurd (Memᴰ.not-nil p);
  over = closes_none (min n 64) (Paired []) (λ a b p. Memᴰ.not-nil p);
  shared = λ a. ((λ h. absurd (let z : ◌≡◌ {A = ℕ} 0 1 = cc in omega arith)), (λ p. absurd (Memᴰ.not-nil p)));
  sets = refl;
}

-- another call, or a refused one, accepts nothing new
module _ (c : Call) (r : Answer) (h : List Event) where
  other_call : (q : Call) → (q ≡ c → ⊥) → Accepted (record { call = c; answer = r } ∷ h) q → Accepted h q
  other_call q differ m = ⊎_elim (λ e. absurd (differ (ap (λ (x : Event). x.call) e))) (λ k. k) (Memᴰ.cases_cons m)

refused_call : (c : Call) (e : Refusal) (h : List Event) (q : Call) → Accepted (record { call = c; answer = Err e } ∷ h) q → Accepted h q
refused_call c e h q m = ⊎_elim
    (λ s. let f : ◌≡◌ {A = Answer} (Ok tt) (Err e) = ap (λ (x : Event). x.answer) s in let z : ◌≡◌ {A = ℕ} 0 1 = cc in absurd (omega arith))
    (λ k. k)
    (Memᴰ.cases_cons m)

refused_set : (c : Call) (e : Refusal) → set_told c (Err e) ≡ []
refused_set (pair s j) e = refl
refused_set (share a) e = refl
refused_set (exclude ms t) e = refl

share_not_pair : (a s j : ℕ) → share a ≡ pair s j → ⊥
share_not_pair a s j e = let z : ◌≡◌ {A = ℕ} 0 1 = cc in omega arith

pair_not_share : (a s j : ℕ) → pair s j ≡ share a → ⊥
pair_not_share a s j e = let z : ◌≡◌ {A = ℕ} 0 1 = cc in omega arith

pair_not_set : (s j : ℕ) (ms : List ℕ) (t : ℕ) → pair s j ≡ exclude ms t → ⊥
pair_not_set s j ms t e = let z : ◌≡◌ {A = ℕ} 0 1 = cc in omega arith

share_not_set : (a : ℕ) (ms : List ℕ) (t : ℕ) → share a ≡ exclude ms t → ⊥
share_not_set a ms t e = let z : ◌≡◌ {A = ℕ} 0 1 = cc in omega arith

-- an event that accepts no pair and no mark
module _ (m : OfficeModel) (sets : List SetModel) (c : Call) (r : Answer) (n : ℕ) (h : List Event) (d : Drafted n h m)
    (pairs : (s j : ℕ) → Accepted (record { call = c; answer = r } ∷ h) (pair s j) → Paired h s j)
    (marks : (a : ℕ) → Accepted (record { call = c; answer = r } ∷ h) (share a) → Accepted h (share a))
    (told : sets ≡ sets_told (record { call = c; answer = r } ∷ h)) where
  pub carried : Drafted n (record { call = c; answer = r } ∷ h) (record { roles = m.roles; over = m.over; shared = m.shared; sets = sets })
  carried = record {
    roles = d.roles;
    inside = λ s j p. d.inside s j (pairs s j p);
    over = closes_same m.roles m.over (Paired h) (Paired (record { call = c; answer = r } ∷ h)) (λ a b p. Memᴰ.tail p) pairs d.over;
    shared = λ a. ((λ t. Memᴰ.tail ((d.shared a).0 t)), (λ p. (d.shared a).1 (marks a p)));
    sets = told;
  }

pub keeps_refused : (m : OfficeModel) (c : Call) (e : Refusal) → Keeps m c (Err e) m
keeps_refused m c e n h d = carried m m.sets c (Err e) n h d
    (λ s j. refused_call c e h (pair s j))
    (λ a. refused_call c e h (share a))
    (d.sets ∙ sym (ap (λ x. sets_told h ++ x) (refused_set c e) ∙ append-nil (sets_told h)))

pair_told : (s j a b : ℕ) (h : List Event) → Paired (record { call = pair s j; answer = Ok tt } ∷ h) a b → Paired h a b ⊎ ((a ≡ s) × (b ≡ j))
pair_told s j a b h p = ⊎_elim
    (λ e. let f : pair a b ≡ pair s j = ap (λ (x : Event). x.call) e in inr (cc, cc))
    (λ k. inl k)
    (Memᴰ.cases_cons p)

accepted_pair : (m : OfficeModel) (s j : ℕ) → s < m.roles → j < m.roles → Keeps m (pair s j) (Ok tt) (after_pair (Ok tt) m s j)
accepted_pair m s j ls lj n h d =
    let new : List Event = record { call = pair s j; answer = Ok tt } ∷ h in
    record {
      roles = d.roles;
      inside = λ a b p. ⊎_elim
          (λ k. d.inside a b k)
          (λ e. (subst (λ x. x < m.roles) (sym e.0) ls, subst (λ x. x < m.roles) (sym e.1) lj))
          (pair_told s j a b h p);
      over = closes_more m.roles m.over (Paired h) (Paired new) s j d.over d.inside ls lj (λ a b p. Memᴰ.tail p) (Memᴰ.head refl) (λ a b p. pair_told s j a b h p);
      shared = λ a. ((λ t. Memᴰ.tail ((d.shared a).0 t)), (λ p. (d.shared a).1 (other_call (pair s j) (Ok tt) h (share a) (share_not_pair a s j) p)));
      sets = d.sets ∙ sym (append-nil (sets_told h));
    }

pub keeps_pair : (m : OfficeModel) (s j : ℕ) (r : Answer) → (r ≡ Ok tt → (s < m.roles) × (j < m.roles)) → Keeps m (pair s j) r (after_pair r m s j)
keeps_pair m s j (Ok u) there = let l = there refl in accepted_pair m s j l.0 l.1
keeps_pair m s j (Err e) there = keeps_refused m (pair s j) e

mark_told : (role a : ℕ) (h : List Event) → Accepted (record { call = share role; answer = Ok tt } ∷ h) (share a) → (a ≡ role) ⊎ Accepted h (share a)
mark_told role a h p = ⊎_elim
    (λ e. let f : share a ≡ share role = ap (λ (x : Event). x.call) e in inl (cc))
    (λ k. inr k)
    (Memᴰ.cases_cons p)

pub keeps_share : (m : OfficeModel) (role : ℕ) (r : Answer) → Keeps m (share role) r (after_mark r m role)
keeps_share m role (Ok u) n h d =
    let new : List Event = record { call = share role; answer = Ok tt } ∷ h in
    let pairs : (s j : ℕ) → Paired new s j → Paired h s j = λ s j. other_call (share role) (Ok tt) h (pair s j) (pair_not_share role s j) in
    record {
      roles = d.roles;
      inside = λ s j p. d.inside s j (pairs s j p);
      over = closes_same m.roles m.over (Paired h) (Paired new) (λ a b p. Memᴰ.tail p) pairs d.over;
      shared = λ a. (
        (λ t. ⊎_elim
            (λ x. Memᴰ.tail ((d.shared a).0 x))
            (λ x. Memᴰ.head (ap (λ (q : ℕ). let e : Event = record { call = share q; answer = Ok tt } in e) (eqb-true a role x)))
            (or_cases (m.shared a) (eqb a role) t)),
        (λ p. ⊎_elim
            (λ e. or_right (m.shared a) (eqb a role) (eq-eqb a role e))
            (λ k. or_left (m.shared a) (eqb a role) ((d.shared a).1 k))
            (mark_told role a h p)),
      );
      sets = d.sets ∙ sym (append-nil (sets_told h));
    }
keeps_share m role (Err e) n h d = keeps_refused m (share role) e n h d

pub keeps_exclude : (m : OfficeModel) (ms : List ℕ) (t : ℕ) (r : Answer) → Keeps m (exclude ms t) r (after_set r m ms t)
keeps_exclude m ms t (Ok u) n h d = carried m _ (exclude ms t) (Ok tt) n h d
    (λ s j. other_call (exclude ms t) (Ok tt) h (pair s j) (pair_not_set s j ms t))
    (λ a. other_call (exclude ms t) (Ok tt) h (share a) (share_not_set a ms t))
    (ap (λ x. x ++ (record { members = ms; bound = t } ∷ [])) d.sets)
keeps_exclude m ms t (Err e) n h d = keeps_refused m (exclude ms t) e n h d

pub keeps_to : (m : OfficeModel) (c : Call) (r : Answer) (x y : OfficeModel) → y ≡ x → Keeps m c r x → Keeps m c r y
keeps_to m c r x y e k n h d = subst (λ o. Drafted n (record { call = c; answer = r } ∷ h) o) (sym e) (k n h d)
