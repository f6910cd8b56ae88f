-- Scenes and histories that say the same call for the same.
use Rattle.std.proofs.Common.{◌≡◌, ℕ, suc, ◌↔◌, List, [], ◌∷◌, inl, inr}
use mathlib.Core.Logic.Iff
use Rattle.answers.specs.declared.Refusal.{Refusal}
use Rattle.search.specs.Chains.{Best}
use Rattle.search.proofs.Chaining.{chain_wider}
use Rattle.offices.specs.Model.{OfficeModel, SetModel}
use Rattle.banks.specs.Codes.{office_of}
use Rattle.law.specs.Roles.{set_at}
use Rattle.law.specs.Sound.{Link, Scene, Step, Outsiders, Hierarchy, Exclusion}
use Rattle.law.specs.Findings.{Finding, breaks_hierarchy, breaks_exclusion, breaks_exposure, Misled, Marks, Found, Shows, Explains, Finds}
use Rattle.law.specs.Requests.{Request, Answer, accepted, refused, issue, assign, relieve, handback, trust, distrust, link, try, box, suspend, resume, withdraw, may}
use Rattle.law.specs.Histories.{Event, accepting, Holds, Standing, InForce, scene, Alike}
use Rattle.law.specs.Checks.{Check, ◌when◌, unless_sound, FirstRefusal, Unissued, linking, checks}
use Rattle.law.specs.Right.{LinesAnswer, MayAnswer, Unrefused, CalledFor}
use Rattle.law.specs.Promises.{Within}
use Rattle.law.proofs.Scenes.{many_more, reached_more, step_more, leads_more, place_more, overreached_more, outsiders_more, sound_less}
use Rattle.law.proofs.Alikes.{alike_on, alike_back, within_alike}

pub best_alike : {G H : ℕ → ℕ → Type 0} (S T : ℕ → Type 0) → ((a b : ℕ) → G a b → H a b) → ((a b : ℕ) → H a b → G a b) → ((a : ℕ) → S a ↔ T a) → {to : ℕ} {xs : List ℕ} → Best G S to xs → Best H T to xs
best_alike S T f g same x = record {
  from = x.from;
  starts = (same x.from).0 x.starts;
  leads = chain_wider f x.leads;
  shortest = λ a ys s c. x.shortest a ys ((same a).1 s) (chain_wider g c);
  first = λ a ys s c e. x.first a ys ((same a).1 s) (chain_wider g c) e;
}

module _ (bank : List OfficeModel) {v w : Scene} (to : Within v w) (back : Within w v) where
  misled_same : (a b : ℕ) → Misled bank v a b → Misled bank w a b
  misled_same a b x = (x.0, x.1, x.2, leads_more bank v.linked w.linked to.linked a b x.3, x.4)

  hierarchy_same : Hierarchy bank v → Hierarchy bank w
  hierarchy_same x a b ra rb same l = x a b ra rb same (leads_more bank w.linked v.linked back.linked a b l)

  exclusion_same : Exclusion bank v → Exclusion bank w
  exclusion_same x o k c y = x o k c (overreached_more bank back (w.held c) (v.held c) (back.held c) o k y)

module _ (bank : List OfficeModel) {v w : Scene} (to : Within v w) (back : Within w v) where
  steps_same : {A B : ℕ → Type 0} {c : ℕ} {xs : List ℕ} → ((a : ℕ) → A a ↔ B a) → Best (Step bank v.linked) A c xs → Best (Step bank w.linked) B c xs
  steps_same {A} {B} same x = best_alike A B (step_more bank v.linked w.linked to.linked) (step_more bank w.linked v.linked back.linked) same x

  marks_same : (A B : ℕ → Type 0) (o : ℕ) (set : SetModel) (places : ℕ) → ((a : ℕ) → A a ↔ B a) → Marks bank v A o set places → Marks bank w B o set places
  marks_same A B o set places same x p = (
    (λ m. place_more bank to A B (λ a. (same a).0) o set p ((x p).0 m)),
    λ r. (x p).1 (place_more bank back B A (λ a. (same a).1) o set p r),
  )

  shows_same : {A B : ℕ → Type 0} {o : ℕ} {set : SetModel} {xs : List ℕ} → ((a : ℕ) → A a ↔ B a) → Shows bank v A o set xs → Shows bank w B o set xs
  shows_same {A} {B} {o} {set} same x = record {
    place = x.place;
    shown = record {
      reached = place_more bank to A B (λ a. (same a).0) o set x.place x.shown.reached;
      lowest = λ q r. x.shown.lowest q (place_more bank back B A (λ a. (same a).1) o set q r);
    };
    best = steps_same same x.best;
  }

  held_same : (c a : ℕ) → v.held c a ↔ w.held c a
  held_same c a = (to.held c a, back.held c a)

  outsiders_same : (o a : ℕ) → Outsiders bank v o a ↔ Outsiders bank w o a
  outsiders_same o a = (outsiders_more bank to o a, outsiders_more bank back o a)

  pub found_same : (f : Finding) → Found bank v f → Found bank w f
  found_same (breaks_hierarchy a b) x = (misled_same bank to back a b x.0, λ a' b' y. x.1 a' b' (misled_same bank back to a' b' y))
  found_same (breaks_exclusion o k c ps) x = (
    hierarchy_same bank to back x.0,
    overreached_more bank to (v.held c) (w.held c) (to.held c) o k x.1,
    (λ o' k' c' y. x.2 o' k' c' (overreached_more bank back (w.held c') (v.held c') (back.held c') o' k' y)),
    marks_same (v.held c) (w.held c) o (set_at bank o k) ps (held_same c) x.3,
  )
  found_same (breaks_exposure o k ps) x = (
    hierarchy_same bank to back x.0,
    exclusion_same bank to back x.1,
    overreached_more bank to (Outsiders bank v o) (Outsiders bank w o) (outsiders_more bank to o) o k x.2,
    (λ o' k' y. x.3 o' k' (overreached_more bank back (Outsiders bank w o') (Outsiders bank v o') (outsiders_more bank back o') o' k' y)),
    marks_same (Outsiders bank v o) (Outsiders bank w o) o (set_at bank o k) ps (outsiders_same o) x.4,
  )

  explains_same : (f : Finding) (xs : List ℕ) → Explains bank v f xs → Explains bank w f xs
  explains_same (breaks_hierarchy a b) xs x = steps_same (λ z. Iff.rfl) x
  explains_same (breaks_exclusion o k c ps) xs x = shows_same (held_same c) x
  explains_same (breaks_exposure o k ps) xs x = shows_same (outsiders_same o) x

  -- two scenes that say the same have the same finding and chain
  pub finds_same : (f : Finding) (xs : List ℕ) → Finds bank v f xs → Finds bank w f xs
  finds_same f xs x = (found_same f x.0, explains_same f xs x.1)

-- the same refusals, for the same reasons; those of the later checks may lean on the failure of the earlier
pub data SameChecks : List Check → List Check → Type 1 where
  none : SameChecks [] []
  named : {r : Refusal} {P Q : Type 0} {cs ds : List Check} → (P ↔ Q) → SameChecks cs ds → SameChecks ((r when P) ∷ cs) ((r when Q) ∷ ds)
  under : {r : Refusal} {P Q : Type 0} {cs ds : List Check} → (P ↔ Q) → ((P → ⊥) → SameChecks cs ds) → SameChecks ((r when P) ∷ cs) ((r when Q) ∷ ds)
  sound : {s t : Scene} {cs ds : List Check} → Within s t → Within t s → SameChecks cs ds → SameChecks (unless_sound s ∷ cs) (unless_sound t ∷ ds)

module _ (bank : List OfficeModel) (a : Answer) (Else Else' : Answer → Type 0) (f : Else a → Else' a) where
  pub first_same : {cs ds : List Check} → SameChecks cs ds → FirstRefusal bank cs Else a → FirstRefusal bank ds Else' a
  first_same none x = f x
  first_same (named p r) (inl x) = inl (p.0 x.0, x.1)
  first_same (named p r) (inr x) = inr ((λ q. x.0 (p.1 q)), first_same r x.1)
  first_same (under p r) (inl x) = inl (p.0 x.0, x.1)
  first_same (under p r) (inr x) = inr ((λ q. x.0 (p.1 q)), first_same (r x.0) x.1)
  first_same (sound to back r) (inl x) = let y = x.1.1 in inl ((λ k. x.0 (sound_less bank to k)), (x.1.0, (y.0, y.1, finds_same bank to back y.0 y.1 y.2, y.3), x.1.2))
  first_same (sound to back r) (inr x) = inr ((λ k. x.0 (λ s. k (sound_less bank back s))), first_same r x.1)

module _ (bank : List OfficeModel) {h h' : List Event} (same : Alike h h') (n : ℕ) where
  force : (p : Link) → InForce h p ↔ InForce h' p
  force p = ((λ x. ((same.standing p).0 x.0, λ s. x.1 ((same.suspended p).1 s))), λ x. ((same.standing p).1 x.0, λ s. x.1 ((same.suspended p).0 s)))

  after_to : (q : Request) → Within (scene (accepting n q h)) (scene (accepting n q h'))
  after_to q = within_alike (alike_on (record { request = q; strip = n; answer = accepted }) same)

  after_back : (q : Request) → Within (scene (accepting n q h')) (scene (accepting n q h))
  after_back q = within_alike (alike_on (record { request = q; strip = n; answer = accepted }) (alike_back same))

  unissued : (c : ℕ) → Unissued bank h n c ↔ Unissued bank h' n c
  unissued c = ((λ x o s. x o ((same.issued c o).1 s)), λ x o s. x o ((same.issued c o).0 s))

  linking_same : (p : Link) → SameChecks (linking bank h n p) (linking bank h' n p)
  linking_same p = named Iff.rfl (named Iff.rfl (named Iff.rfl (named Iff.rfl (named (same.standing p)
      (named (many_more (Standing h) (Standing h') 256 (λ q. (same.standing q).0), many_more (Standing h') (Standing h) 256 (λ q. (same.standing q).1))
      (sound (after_to (link p)) (after_back (link p)) none))))))

  checks_same : (q : Request) → SameChecks (checks bank h n q) (checks bank h' n q)
  checks_same (issue c o) = named Iff.rfl (named Iff.rfl (named ((λ x. (x.0, (same.issued c x.0).0 x.1)), λ x. (x.0, (same.issued c x.0).1 x.1)) none))
  checks_same (assign c r) = named Iff.rfl (named Iff.rfl (named (unissued c) (named Iff.rfl (named (Iff.not (same.issued c (office_of r))) (named (same.held c r) (sound (after_to (assign c r)) (after_back (assign c r)) none))))))
  checks_same (relieve c r) = named Iff.rfl (named (unissued c) (named Iff.rfl (named (Iff.not (same.issued c (office_of r))) (named (Iff.not (same.held c r)) none))))
  checks_same (handback c) = named Iff.rfl (named (unissued c) none)
  checks_same (trust o p) = named Iff.rfl none
  checks_same (distrust o p) = named Iff.rfl (named Iff.rfl (named Iff.rfl (sound (after_to (distrust o p)) (after_back (distrust o p)) none)))
  checks_same (link p) = linking_same p
  checks_same (try p) = linking_same p
  checks_same (box []) = none
  checks_same (box (p ∷ ps)) = named Iff.rfl none
  checks_same (suspend p) = named (Iff.not (same.standing p)) (named (same.suspended p) none)
  checks_same (resume p) = named (Iff.not (same.standing p)) (named (force p) none)
  checks_same (withdraw p) = named (Iff.not (same.standing p)) none
  checks_same (may c r) = named Iff.rfl (named Iff.rfl (named (unissued c) (named Iff.rfl none)))

  force_steps : (a b : ℕ) → Step bank (InForce h) a b ↔ Step bank (InForce h') a b
  force_steps a b = (step_more bank (InForce h) (InForce h') (λ l. (force l).0) a b, step_more bank (InForce h') (InForce h) (λ l. (force l).1) a b)

  may_same : (c r : ℕ) (a : Answer) → MayAnswer bank h c r a → MayAnswer bank h' c r a
  may_same c r a (inl x) = inl (x.0, best_alike (Holds h c) (Holds h' c) (λ a b. (force_steps a b).0) (λ a b. (force_steps a b).1) (same.held c) x.1, x.2)
  may_same c r a (inr x) = inr ((λ y. x.0 (reached_more (Holds h' c) (Holds h c) (λ a b. (force_steps a b).1) (λ b. (same.held c b).1) r y)), x.1)

lines_same : (bank : List OfficeModel) (n : ℕ) (ls : List Link) {h h' : List Event} → Alike h h' → (i : ℕ) (a : Answer) → LinesAnswer bank n h i ls a → LinesAnswer bank n h' i ls a
lines_same bank n [] same i a x = x
lines_same bank n (l ∷ ls) same i a (inl x) = inl (x.0, first_same bank (refused x.0) (λ b. b ≡ accepted) (λ b. b ≡ accepted) (λ e. e) (linking_same bank same n l) x.1, x.2)
lines_same bank n (l ∷ ls) same i a (inr x) = inr (first_same bank accepted (λ b. b ≡ accepted) (λ b. b ≡ accepted) (λ e. e) (linking_same bank same n l) x.0, lines_same bank n ls (alike_on (record { request = link l; strip = n; answer = accepted }) same) (suc i) a x.1)

module _ (bank : List OfficeModel) {h h' : List Event} (same : Alike h h') (n : ℕ) (a : Answer) where
  unrefused_same : (q : Request) → Unrefused bank h n q a → Unrefused bank h' n q a
  unrefused_same (issue c o) x = x
  unrefused_same (assign c r) x = x
  unrefused_same (relieve c r) x = x
  unrefused_same (handback c) x = x
  unrefused_same (trust o p) x = x
  unrefused_same (distrust o p) x = x
  unrefused_same (link p) x = x
  unrefused_same (try p) x = x
  unrefused_same (box ls) x = lines_same bank n ls same 0 a x
  unrefused_same (suspend p) x = x
  unrefused_same (resume p) x = x
  unrefused_same (withdraw p) x = x
  unrefused_same (may c r) x = may_same bank same n c r a x

  -- histories that say the same call for the same answers
  pub called_same : (q : Request) → CalledFor bank h n q a → CalledFor bank h' n q a
  called_same q x = first_same bank a (Unrefused bank h n q) (Unrefused bank h' n q) (unrefused_same q) (checks_same bank same n q) x
