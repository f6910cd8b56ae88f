-- What a history calls for is one answer.
use Rattle.std.proofs.Common.{◌≡◌, ℕ, suc, List, [], ◌∷◌, length, sym, refl, ap, ◌∙◌, subst, inl, inr, arith}
use Rattle.std.proofs.lemmas.Bool.Decides.{same_from_decides}
use Rattle.search.specs.Chains.{Best}
use Rattle.search.proofs.Unique.{before_same, best_same, best_reached}
use Rattle.offices.specs.Model.{OfficeModel, SetModel}
use Rattle.offices.specs.Word.{bit}
use Rattle.law.specs.Roles.{set_at, member_code}
use Rattle.law.specs.Sound.{Link, Scene, Step, Outsiders}
use Rattle.law.specs.Findings.{Finding, breaks_hierarchy, breaks_exclusion, breaks_exposure, Marks, Found, Shows, Explains, Finds}
use Rattle.law.specs.Requests.{Request, Answer, accepted, refused, issue, assign, relieve, handback, trust, distrust, link, try, box, suspend, resume, withdraw, may, strip_after, lines_after}
use Rattle.law.specs.Histories.{Event, accepting}
use Rattle.law.specs.Checks.{Check, ◌when◌, unless_sound, Says, FirstRefusal, linking, checks}
use Rattle.law.specs.Right.{LinkAnswer, LinesAnswer, MayAnswer, Unrefused, CalledFor}
use Rattle.law.specs.Promises.{OneOutcome}
use Rattle.law.proofs.Passing.{never}
use Rattle.law.proofs.Bytes.{same_bits}

best_unique : {S : ℕ → ℕ → Type 0} {A : ℕ → Type 0} {to : ℕ} {xs ys : List ℕ} → Best S A to xs → Best S A to ys → xs ≡ ys
best_unique {S} {A} {to} {xs} {ys} p q = best_same S A to xs ys p q

module _ (bank : List OfficeModel) (s : Scene) where
  marks_unique : (A : ℕ → Type 0) (o : ℕ) (set : SetModel) (ms ns : ℕ) → Marks bank s A o set ms → Marks bank s A o set ns → ms ≡ ns
  marks_unique A o set ms ns p q = same_bits ms ns (λ i. same_from_decides (bit ms i) (bit ns i) (p i) (q i))

  shows_unique : {A : ℕ → Type 0} {o : ℕ} {set : SetModel} {xs ys : List ℕ} → Shows bank s A o set xs → Shows bank s A o set ys → xs ≡ ys
  shows_unique {A} {o} {set} {xs} {ys} p q =
      let l = p.shown.lowest q.place q.shown.reached in
      let m = q.shown.lowest p.place p.shown.reached in
      let e : q.place ≡ p.place = omega arith in
      best_unique p.best (subst (λ i. Best (Step bank s.linked) A (member_code o set i) ys) e q.best)

  found_unique : (f g : Finding) → Found bank s f → Found bank s g → f ≡ g
  found_unique (breaks_hierarchy a b) (breaks_hierarchy a' b') p q =
      let e = before_same (a ∷ b ∷ []) (a' ∷ b' ∷ []) refl (p.1 a' b' q.0) (q.1 a b p.0) in cc
  found_unique (breaks_exclusion o k c ms) (breaks_exclusion o' k' c' ns) p q =
      let e = before_same (o ∷ k ∷ c ∷ []) (o' ∷ k' ∷ c' ∷ []) refl (p.2 o' k' c' q.1) (q.2 o k c p.1) in
      let eo : o' ≡ o = cc in
      let ek : k' ≡ k = cc in
      let ec : c' ≡ c = cc in
      let m = marks_unique (s.held c) o (set_at bank o k) ms ns p.3 (subst (λ z. Marks bank s (s.held z) o (set_at bank o k) ns) ec (subst (λ z. Marks bank s (s.held c') o (set_at bank o z) ns) ek (subst (λ z. Marks bank s (s.held c') z (set_at bank z k') ns) eo q.3))) in
      cc
  found_unique (breaks_exposure o k ms) (breaks_exposure o' k' ns) p q =
      let e = before_same (o ∷ k ∷ []) (o' ∷ k' ∷ []) refl (p.3 o' k' q.2) (q.3 o k p.2) in
      let eo : o' ≡ o = cc in
      let ek : k' ≡ k = cc in
      let m = marks_unique (Outsiders bank s o) o (set_at bank o k) ms ns p.4 (subst (λ z. Marks bank s (Outsiders bank s o) o (set_at bank o z) ns) ek (subst (λ z. Marks bank s (Outsiders bank s z) z (set_at bank z k') ns) eo q.4)) in
      cc
  found_unique (breaks_hierarchy a b) (breaks_exclusion o k c ms) p q = absurd (p.0.4 (q.0 a b p.0.0 p.0.1 p.0.2 p.0.3))
  found_unique (breaks_hierarchy a b) (breaks_exposure o k ms) p q = absurd (p.0.4 (q.0 a b p.0.0 p.0.1 p.0.2 p.0.3))
  found_unique (breaks_exclusion o k c ms) (breaks_hierarchy a b) p q = absurd (q.0.4 (p.0 a b q.0.0 q.0.1 q.0.2 q.0.3))
  found_unique (breaks_exposure o k ms) (breaks_hierarchy a b) p q = absurd (q.0.4 (p.0 a b q.0.0 q.0.1 q.0.2 q.0.3))
  found_unique (breaks_exclusion o k c ms) (breaks_exposure o' k' ns) p q = absurd (q.1 o k c p.1)
  found_unique (breaks_exposure o' k' ns) (breaks_exclusion o k c ms) p q = absurd (p.1 o k c q.1)

  explains_unique : (f : Finding) (xs ys : List ℕ) → Explains bank s f xs → Explains bank s f ys → xs ≡ ys
  explains_unique (breaks_hierarchy a b) xs ys p q = best_unique p q
  explains_unique (breaks_exclusion o k c ms) xs ys p q = shows_unique p q
  explains_unique (breaks_exposure o k ms) xs ys p q = shows_unique p q

  finds_unique : (f g : Finding) (xs ys : List ℕ) → Finds bank s f xs → Finds bank s g ys → (f ≡ g) × (xs ≡ ys)
  finds_unique f g xs ys p q =
      let e = found_unique f g p.0 q.0 in
      (e, explains_unique f xs ys p.1 (subst (λ z. Explains bank s z ys) (sym e) q.1))

-- at most one answer
abbrev One : {A : Type 0} → (A → Type 0) → Type 0
One {A} P = (a b : A) → P a → P b → a ≡ b

module _ (bank : List OfficeModel) where
  says_one : (c : Check) → One (Says bank c)
  says_one (n when P) a b p q = cc
  says_one (unless_sound s) a b p q =
      let r = finds_unique bank s p.0 q.0 p.1 q.1 p.2 q.2 in
      let e = p.3 in let f = q.3 in let u = r.0 in let v = r.1 in cc

  first_one : (cs : List Check) (Else : Answer → Type 0) → One Else → One (FirstRefusal bank cs Else)
  first_one [] Else u a b p q = u a b p q
  first_one (c ∷ cs) Else u a b (inl p) (inl q) = let e = says_one c p.1.0 q.1.0 p.1.1 q.1.1 in let f = p.1.2 in let g = q.1.2 in cc
  first_one (c ∷ cs) Else u a b (inl p) (inr q) = absurd (q.0 p.0)
  first_one (c ∷ cs) Else u a b (inr p) (inl q) = absurd (p.0 q.0)
  first_one (c ∷ cs) Else u a b (inr p) (inr q) = first_one cs Else u a b p.1 q.1

  accepted_one : One (λ b. b ≡ accepted)
  accepted_one a b p q = cc

  pub link_one : (h : List Event) (n : ℕ) (p : Link) → One (LinkAnswer bank h n p)
  link_one h n p = first_one (linking bank h n p) (λ b. b ≡ accepted) accepted_one

  lines_one : (n : ℕ) (ls : List Link) (h : List Event) (i : ℕ) → One (LinesAnswer bank n h i ls)
  lines_one n [] h i a b p q = cc
  lines_one n (l ∷ ls) h i a b (inl p) (inl q) = let e = link_one h n l (refused p.0) (refused q.0) p.1 q.1 in let f = p.2 in let g = q.2 in cc
  lines_one n (l ∷ ls) h i a b (inl p) (inr q) = absurd (never p.0 (link_one h n l accepted (refused p.0) q.0 p.1))
  lines_one n (l ∷ ls) h i a b (inr p) (inl q) = absurd (never q.0 (link_one h n l accepted (refused q.0) p.0 q.1))
  lines_one n (l ∷ ls) h i a b (inr p) (inr q) = lines_one n ls (accepting n (link l) h) (suc i) a b p.1 q.1

  may_one : (h : List Event) (c r : ℕ) → One (MayAnswer bank h c r)
  may_one h c r a b (inl p) (inl q) = let e = best_unique p.1 q.1 in let f = p.2 in let g = q.2 in cc
  may_one h c r a b (inl p) (inr q) = absurd (q.0 (best_reached _ _ _ p.0 p.1))
  may_one h c r a b (inr p) (inl q) = absurd (p.0 (best_reached _ _ _ q.0 q.1))
  may_one h c r a b (inr p) (inr q) = let f = p.1 in let g = q.1 in cc

  unrefused_one : (h : List Event) (n : ℕ) (q : Request) → One (Unrefused bank h n q)
  unrefused_one h n (issue c o) = accepted_one
  unrefused_one h n (assign c r) = accepted_one
  unrefused_one h n (relieve c r) = accepted_one
  unrefused_one h n (handback c) = accepted_one
  unrefused_one h n (trust o p) = accepted_one
  unrefused_one h n (distrust o p) = accepted_one
  unrefused_one h n (link p) = accepted_one
  unrefused_one h n (try p) = accepted_one
  unrefused_one h n (box ls) = lines_one n ls h 0
  unrefused_one h n (suspend p) = accepted_one
  unrefused_one h n (resume p) = accepted_one
  unrefused_one h n (withdraw p) = accepted_one
  unrefused_one h n (may c r) = may_one h c r

pub called_one : (bank : List OfficeModel) (h : List Event) (n : ℕ) (q : Request) → One (CalledFor bank h n q)
called_one bank h n q = first_one bank (checks bank h n q) (Unrefused bank h n q) (unrefused_one bank h n q)

pub one_outcome : OneOutcome
one_outcome bank h q strip lines a a' s s' l l' x y =
    let e = called_one bank h (length strip) q a a' x.answer y.answer in
    (e, x.strip_is ∙ ap (λ b. strip_after b strip) e ∙ sym y.strip_is, x.lines_are ∙ ap (λ b. lines_after q b lines) e ∙ sym y.lines_are)
