-- The worked examples hold.
use Rattle.std.proofs.Common.{◌≡◌, ℕ, ◌<◌, true, false, ◌⊎◌, List, [], ◌∷◌, refl, ap, inl, inr, arith}
use mathlib.Core.List.Memᴰ
use mathlib.Core.List.{Memᴰ}
use mathlib.Core.Logic.Iff
use Rattle.answers.specs.declared.Refusal.TheVariants.{NoSuchCode, NoSuchCard, ShortStrip, SameOffice, NotLinked, AlreadyInForce, NotShared, NotHeld}
use Rattle.std.proofs.lemmas.Bool.{false≢true}
use Rattle.search.specs.Chains.{Reached}
use Rattle.law.specs.Sound.{Link, Scene, Step}
use Rattle.law.specs.Findings.{Finding, breaks_hierarchy, breaks_exclusion, breaks_exposure}
use Rattle.law.specs.Requests.{Answer, accepted, refused, refused_at, granted, denied, plain, unsound, issue, assign, relieve, handback, trust, distrust, link, try, box, suspend, resume, withdraw, may}
use Rattle.law.specs.Histories.{Event, accepting, Issued, Holds, Trusts, Standing, Suspended, InForce, scene}
use Rattle.law.specs.Right.{LinkAnswer, CalledFor}
use Rattle.law.specs.Examples.{sample, ◌⇢◌, ◌answers◌, exposed_by, WorkedExamples}
use Rattle.law.proofs.Sample.{sample_lawful}
use Rattle.law.proofs.Changes.{kind, standing_still, held_still}
use Rattle.law.proofs.Sixteen.{link_ends, assign_ends, distrust_ends}
use Rattle.law.proofs.Closures.{in_among}
use Rattle.law.proofs.Judging.{Facts, Shown, hierarchy, exclusion, exposure, sound_by, finds, finds_by, best_in, held_same, Exact, exact_by}
use Rattle.law.proofs.Spoken.{no_facts, shown_new, with_link, shown_link, with_card, shown_assign, with_trust, shown_trust, shown_quiet, linkable, linkable_by, accepted_by, refused_by}

-- the codes of the sample's roles
abbrev codes : List ℕ
codes = 129 ∷ 128 ∷ 66 ∷ 65 ∷ 64 ∷ 3 ∷ 2 ∷ 1 ∷ 0 ∷ []

-- a LINK after a history whose facts are known; no chain of the sample is longer than nine codes
module _ (h : List Event) (f : Facts) (shown : Shown (scene h) f) (l : Link) where
  linked : linkable sample f 1024 l ≡ true
      → hierarchy sample sample_lawful codes refl (scene (accepting 1024 (link l) h)) (with_link l f) (shown_link h 1024 l shown) 9 ≡ true
      → exclusion sample sample_lawful codes refl (scene (accepting 1024 (link l) h)) (with_link l f) (shown_link h 1024 l shown) 9 (λ o k c. false) ≡ true
      → exposure sample sample_lawful codes refl (scene (accepting 1024 (link l) h)) (with_link l f) (shown_link h 1024 l shown) 9 (λ o k. false) ≡ true
      → LinkAnswer sample h 1024 l accepted
  linked ok p q r = accepted_by sample (link_ends sample h 1024 l) (linkable_by sample sample_lawful h f shown 1024 l ok)
      (sound_by sample sample_lawful codes refl (scene (accepting 1024 (link l) h)) (with_link l f) (shown_link h 1024 l shown) 9 p q r)

  unlinked : (g : Finding) (p x : ℕ) (ys : List ℕ) → linkable sample f 1024 l ≡ true
      → finds sample sample_lawful codes refl (scene (accepting 1024 (link l) h)) (with_link l f) (shown_link h 1024 l shown) 9 g p x ys ≡ true
      → LinkAnswer sample h 1024 l (refused (unsound g (x ∷ ys)))
  unlinked g p x ys ok e = refused_by sample (λ b. b ≡ accepted) g (x ∷ ys) (link_ends sample h 1024 l) (linkable_by sample sample_lawful h f shown 1024 l ok)
      (finds_by sample sample_lawful codes refl (scene (accepting 1024 (link l) h)) (with_link l f) (shown_link h 1024 l shown) 9 g p x ys e)

-- LINK 65 1
abbrev h_a : List Event
h_a = link (65 ⇢ 1) answers accepted ∷ []

abbrev f_a : Facts
f_a = with_link (65 ⇢ 1) no_facts

shown_a : Shown (scene h_a) f_a
shown_a = shown_link [] 1024 (65 ⇢ 1) shown_new

answer_a : LinkAnswer sample [] 1024 (65 ⇢ 1) accepted
answer_a = linked [] no_facts shown_new (65 ⇢ 1) refl refl refl refl

-- then LINK 64 2
abbrev exposing : Answer
exposing = refused (exposed_by (65 ∷ 1 ∷ []))

answer_b : LinkAnswer sample h_a 1024 (64 ⇢ 2) exposing
answer_b = unlinked h_a f_a shown_a (64 ⇢ 2) (breaks_exposure 0 0 3) 0 65 (1 ∷ []) refl refl

answer_c : LinkAnswer sample h_a 1024 (3 ⇢ 64) (refused (unsound (breaks_hierarchy 2 1) (2 ∷ 3 ∷ 64 ∷ 65 ∷ 1 ∷ [])))
answer_c = unlinked h_a f_a shown_a (3 ⇢ 64) (breaks_hierarchy 2 1) 0 2 (3 ∷ 64 ∷ 65 ∷ 1 ∷ []) refl refl

answer_same : LinkAnswer sample [] 1024 (64 ⇢ 66) (refused (plain SameOffice))
answer_same = inr ((λ i. omega arith), inr ((λ i. elim i [ inl j ↦ j (omega arith) | inr j ↦ j (omega arith) ]), inl (refl, (plain SameOffice, refl, refl))))

answer_withheld : LinkAnswer sample [] 1024 (64 ⇢ 128) (refused (plain NotShared))
answer_withheld = inr ((λ i. omega arith), inr ((λ i. elim i [ inl j ↦ j (omega arith) | inr j ↦ j (omega arith) ]), inr ((λ i. omega arith), inl (refl, (plain NotShared, refl, refl)))))

answer_none : LinkAnswer sample [] 1024 (3 ⇢ 67) (refused (plain NoSuchCode))
answer_none = inr ((λ i. omega arith), inl (inr (λ r. omega arith), (plain NoSuchCode, refl, refl)))

-- LINK 1 129, and what follows
abbrev h_d : List Event
h_d = link (1 ⇢ 129) answers accepted ∷ []

abbrev f_d : Facts
f_d = with_link (1 ⇢ 129) no_facts

shown_d : Shown (scene h_d) f_d
shown_d = shown_link [] 1024 (1 ⇢ 129) shown_new

answer_d : LinkAnswer sample [] 1024 (1 ⇢ 129) accepted
answer_d = linked [] no_facts shown_new (1 ⇢ 129) refl refl refl refl

answer_back : LinkAnswer sample h_d 1024 (129 ⇢ 1) accepted
answer_back = linked h_d f_d shown_d (129 ⇢ 1) refl refl refl refl

answer_through : LinkAnswer sample h_d 1024 (129 ⇢ 2) (refused (unsound (breaks_hierarchy 1 2) (1 ∷ 129 ∷ 2 ∷ [])))
answer_through = unlinked h_d f_d shown_d (129 ⇢ 2) (breaks_hierarchy 1 2) 0 1 (129 ∷ 2 ∷ []) refl refl

answer_box : CalledFor sample [] 1024 (box (65 ⇢ 1 ∷ 64 ⇢ 2 ∷ [])) (refused_at 1 (exposed_by (65 ∷ 1 ∷ [])))
answer_box = inr ((λ i. omega arith), inr (answer_a, inl (exposed_by (65 ∷ 1 ∷ []), answer_b, refl)))

-- a suspended link stands
abbrev h_as : List Event
h_as = suspend (65 ⇢ 1) answers accepted ∷ h_a

answer_s : CalledFor sample h_a 1024 (suspend (65 ⇢ 1)) accepted
answer_s = inr ((λ n. n (inl (refl, inl refl))), inr ((λ s. elim s [ inl b ↦ (let i = b.1 in let z : ◌≡◌ {A = ℕ} 0 1 = cc in omega arith) | inr b ↦ b.1 ]), refl))

answer_suspended : LinkAnswer sample h_as 1024 (64 ⇢ 2) exposing
answer_suspended = unlinked h_as f_a (shown_quiet (suspend (65 ⇢ 1) answers accepted) h_a (λ e. omega arith) shown_a) (64 ⇢ 2) (breaks_exposure 0 0 3) 0 65 (1 ∷ []) refl refl

-- with trust, and a card
abbrev h_t : List Event
h_t = trust 0 1 answers accepted ∷ h_a

abbrev h_tb : List Event
h_tb = link (64 ⇢ 2) answers accepted ∷ h_t

abbrev h_ti : List Event
h_ti = issue 7 1 answers accepted ∷ h_tb

abbrev f_tb : Facts
f_tb = with_link (64 ⇢ 2) (with_trust 0 1 f_a)

trusts_two : (h : List Event) (o p : ℕ) → o < 3 → p < 3 → CalledFor sample h 1024 (trust o p) accepted
trusts_two h o p i j = inr ((λ n. elim n [ inl k ↦ k i | inr k ↦ k j ]), refl)

shown_t : Shown (scene h_t) (with_trust 0 1 f_a)
shown_t = shown_trust h_a 1024 0 1 shown_a

answer_tb : LinkAnswer sample h_t 1024 (64 ⇢ 2) accepted
answer_tb = linked h_t (with_trust 0 1 f_a) shown_t (64 ⇢ 2) refl refl refl refl

-- an event of another kind issues nothing
unissued : (e : Event) (h : List Event) (c : ℕ) → (kind e.request ≡ 9 → ⊥) → ((o : ℕ) → Issued h c o → ⊥) → (o : ℕ) → Issued (e ∷ h) c o → ⊥
unissued e h c other none o (inl b) = other (let i = b.1 in cc)
unissued e h c other none o (inr b) = none o b.1

unissued_a : (o : ℕ) → Issued h_a 7 o → ⊥
unissued_a = unissued (link (65 ⇢ 1) answers accepted) [] 7 (λ i. omega arith) (λ o s. s)

unissued_tb : (o : ℕ) → Issued h_tb 7 o → ⊥
unissued_tb = unissued (link (64 ⇢ 2) answers accepted) h_t 7 (λ i. omega arith) (unissued (trust 0 1 answers accepted) h_a 7 (λ i. omega arith) unissued_a)

-- a card that is not issued, and an office that is there
issues : (h : List Event) (c o : ℕ) → c < 256 → o < 3 → ((p : ℕ) → Issued h c p → ⊥) → CalledFor sample h 1024 (issue c o) accepted
issues h c o i j none = inr ((λ k. omega arith), inr ((λ k. k j), inr ((λ k. none k.0 k.1), refl)))

shown_ti : Shown (scene h_ti) f_tb
shown_ti = shown_quiet (issue 7 1 answers accepted) h_tb (λ e. omega arith) (shown_link h_t 1024 (64 ⇢ 2) shown_t)

answer_excluded : CalledFor sample h_ti 1024 (assign 7 64) (refused (unsound (breaks_exclusion 0 0 7 3) (64 ∷ 65 ∷ 1 ∷ [])))
answer_excluded = refused_by sample (λ b. b ≡ accepted) (breaks_exclusion 0 0 7 3) (64 ∷ 65 ∷ 1 ∷ []) (assign_ends sample h_ti 1024 7 64)
    ((λ i. omega arith), ((λ i. omega arith), ((λ n. n 1 (inl (refl, refl))), ((λ n. n (omega arith)), ((λ n. n (inl (refl, refl))), ((λ x. Memᴰ.not-nil ((shown_ti.held 7 64).0 x)), tt))))))
    (finds_by sample sample_lawful codes refl (scene (assign 7 64 answers accepted ∷ h_ti)) (with_card 7 64 f_tb) (shown_assign h_ti 1024 7 64 shown_ti) 9 (breaks_exclusion 0 0 7 3) 0 64 (65 ∷ 1 ∷ []) refl)

-- the card room's part of the last example
assigns : (h : List Event) (f : Facts) (shown : Shown (scene (issue 7 1 answers accepted ∷ h)) f) → (Holds (issue 7 1 answers accepted ∷ h) 7 65 → ⊥)
    → hierarchy sample sample_lawful codes refl (scene (assign 7 65 answers accepted ∷ issue 7 1 answers accepted ∷ h)) (with_card 7 65 f) (shown_assign (issue 7 1 answers accepted ∷ h) 1024 7 65 shown) 9 ≡ true
    → exclusion sample sample_lawful codes refl (scene (assign 7 65 answers accepted ∷ issue 7 1 answers accepted ∷ h)) (with_card 7 65 f) (shown_assign (issue 7 1 answers accepted ∷ h) 1024 7 65 shown) 9 (λ o k c. false) ≡ true
    → exposure sample sample_lawful codes refl (scene (assign 7 65 answers accepted ∷ issue 7 1 answers accepted ∷ h)) (with_card 7 65 f) (shown_assign (issue 7 1 answers accepted ∷ h) 1024 7 65 shown) 9 (λ o k. false) ≡ true
    → CalledFor sample (issue 7 1 answers accepted ∷ h) 1024 (assign 7 65) accepted
assigns h f shown new p q r = accepted_by sample (assign_ends sample (issue 7 1 answers accepted ∷ h) 1024 7 65)
    ((λ i. omega arith), ((λ i. omega arith), ((λ n. n 1 (inl (refl, refl))), ((λ n. n (omega arith)), ((λ n. n (inl (refl, refl))), (new, tt))))))
    (sound_by sample sample_lawful codes refl (scene (assign 7 65 answers accepted ∷ issue 7 1 answers accepted ∷ h)) (with_card 7 65 f) (shown_assign (issue 7 1 answers accepted ∷ h) 1024 7 65 shown) 9 p q r)

-- a refused LINK, a card with a role, and MAY
abbrev h_x : List Event
h_x = link (64 ⇢ 2) answers exposing ∷ h_a

abbrev h_xi : List Event
h_xi = issue 7 1 answers accepted ∷ h_x

abbrev h_xj : List Event
h_xj = assign 7 65 answers accepted ∷ h_xi

shown_xi : Shown (scene h_xi) f_a
shown_xi = shown_quiet (issue 7 1 answers accepted) h_x (λ e. omega arith) (shown_quiet (link (64 ⇢ 2) answers exposing) h_a (λ e. let z : ◌≡◌ {A = ℕ} 0 1 = cc in absurd (omega arith)) shown_a)

answer_xi : CalledFor sample h_x 1024 (issue 7 1) accepted
answer_xi = issues h_x 7 1 (omega arith) (omega arith) (unissued (link (64 ⇢ 2) answers exposing) h_a 7 (λ i. omega arith) unissued_a)

shown_xj : Shown (scene h_xj) (with_card 7 65 f_a)
shown_xj = shown_assign h_xi 1024 7 65 shown_xi

answer_xj : CalledFor sample h_xi 1024 (assign 7 65) accepted
answer_xj = assigns h_x f_a shown_xi (λ x. Memᴰ.not-nil ((shown_xi.held 7 65).0 x)) refl refl refl

-- nothing is suspended where SUSPEND was not sent
unsuspended : (e : Event) (h : List Event) (l : Link) → (kind e.request ≡ 10 → ⊥) → (Suspended h l → ⊥) → Suspended (e ∷ h) l → ⊥
unsuspended e h l other none (inl b) = other (let i = b.1 in cc)
unsuspended e h l other none (inr b) = none b.1

free : (l : Link) → Suspended h_xj l → ⊥
free l = unsuspended (assign 7 65 answers accepted) h_xi l (λ i. omega arith) (unsuspended (issue 7 1 answers accepted) h_x l (λ i. omega arith)
    (unsuspended (link (64 ⇢ 2) answers exposing) h_a l (λ i. omega arith) (unsuspended (link (65 ⇢ 1) answers accepted) [] l (λ i. omega arith) (λ s. s))))

abbrev acting : Scene
acting = record { linked = InForce h_xj; held = Holds h_xj; trusted = Trusts h_xj }

shown_acting : Shown acting (with_card 7 65 f_a)
shown_acting = record {
  linked = λ l. ((λ x. (shown_xj.linked l).0 x.0), λ m. ((shown_xj.linked l).1 m, free l));
  held = shown_xj.held;
  trusted = shown_xj.trusted;
}

answer_may : CalledFor sample h_xj 1024 (may 7 3) (granted (65 ∷ 1 ∷ 3 ∷ []))
answer_may = inr (
  (λ i. omega arith),
  inr (
    (λ i. omega arith),
    inr (
      (λ n. n 1 (inr ((λ b. let i = b.1 in let z : ◌≡◌ {A = ℕ} 0 1 = cc in omega arith), inl (refl, refl)))),
      inr (
        (λ n. n (omega arith)),
        inl (65 ∷ 1 ∷ 3 ∷ [], best_in sample sample_lawful codes refl acting (with_card 7 65 f_a) shown_acting (Holds h_xj 7) (65 ∷ []) 3 65 (1 ∷ 3 ∷ []) (held_same sample sample_lawful codes refl acting (with_card 7 65 f_a) shown_acting 7) refl refl refl, refl),
      ),
    ),
  ),
)

-- the same card, with the link suspended
abbrev h_yi : List Event
h_yi = issue 7 1 answers accepted ∷ h_a

abbrev h_yj : List Event
h_yj = assign 7 65 answers accepted ∷ h_yi

abbrev h_ys : List Event
h_ys = suspend (65 ⇢ 1) answers accepted ∷ h_yj

shown_yi : Shown (scene h_yi) f_a
shown_yi = shown_quiet (issue 7 1 answers accepted) h_a (λ e. omega arith) shown_a

shown_yj : Shown (scene h_yj) (with_card 7 65 f_a)
shown_yj = shown_assign h_yi 1024 7 65 shown_yi

shown_ys : Shown (scene h_ys) (with_card 7 65 f_a)
shown_ys = shown_quiet (suspend (65 ⇢ 1) answers accepted) h_yj (λ e. omega arith) shown_yj

free_yj : (l : Link) → Suspended h_yj l → ⊥
free_yj l = unsuspended (assign 7 65 answers accepted) h_yi l (λ i. omega arith) (unsuspended (issue 7 1 answers accepted) h_a l (λ i. omega arith)
    (unsuspended (link (65 ⇢ 1) answers accepted) [] l (λ i. omega arith) (λ s. s)))

answer_ys : CalledFor sample h_yj 1024 (suspend (65 ⇢ 1)) accepted
answer_ys = inr ((λ n. n ((shown_yj.linked (65 ⇢ 1)).1 (Memᴰ.head refl))), inr (free_yj (65 ⇢ 1), refl))

abbrev resting : Scene
resting = record { linked = InForce h_ys; held = Holds h_ys; trusted = Trusts h_ys }

shown_resting : Shown resting (with_card 7 65 no_facts)
shown_resting = record {
  linked = λ l. ((λ x. absurd (at_rest l ((shown_ys.linked l).0 x.0) x.1)), λ m. absurd (Memᴰ.not-nil m));
  held = shown_ys.held;
  trusted = shown_ys.trusted;
}
  where
    at_rest : (l : Link) → Memᴰ l (65 ⇢ 1 ∷ []) → (Suspended h_ys l → ⊥) → ⊥
    at_rest l m n = elim (Memᴰ.cases_cons m) [ inl e ↦ n (inl (refl, cc)) | inr k ↦ Memᴰ.not-nil k ]

answer_denied : CalledFor sample h_ys 1024 (may 7 3) denied
answer_denied = inr (
  (λ i. omega arith),
  inr (
    (λ i. omega arith),
    inr (
      (λ n. n 1 (inr ((λ b. let i = b.1 in let z : ◌≡◌ {A = ℕ} 0 1 = cc in omega arith), inr ((λ b. let i = b.1 in let z : ◌≡◌ {A = ℕ} 0 1 = cc in omega arith), inl (refl, refl))))),
      inr ((λ n. n (omega arith)), inr (unreached, refl)),
    ),
  ),
)
  where
    exact : Exact sample sample_lawful codes refl resting (with_card 7 65 no_facts) shown_resting (Holds h_ys 7) (65 ∷ 66 ∷ [])
    exact = exact_by sample sample_lawful codes refl resting (with_card 7 65 no_facts) shown_resting (Holds h_ys 7) (65 ∷ []) 9 (65 ∷ 66 ∷ []) (held_same sample sample_lawful codes refl resting (with_card 7 65 no_facts) shown_resting 7) refl refl refl

    unreached : Reached (Step sample (InForce h_ys)) (Holds h_ys 7) 3 → ⊥
    unreached r = false≢true (in_among 3 (65 ∷ 66 ∷ []) ((exact 3).1 r))

-- SUSPEND, RESUME, and RESUME again
abbrev h_asr : List Event
h_asr = resume (65 ⇢ 1) answers accepted ∷ h_as

stands_as : Standing h_as (65 ⇢ 1)
stands_as = inr ((λ b. let i = b.1 in let z : ◌≡◌ {A = ℕ} 0 1 = cc in omega arith), inl (refl, inl refl))

stands_asr : Standing h_asr (65 ⇢ 1)
stands_asr = inr ((λ b. let i = b.1 in let z : ◌≡◌ {A = ℕ} 0 1 = cc in omega arith), stands_as)

answer_r : CalledFor sample h_as 1024 (resume (65 ⇢ 1)) accepted
answer_r = inr ((λ n. n stands_as), inr ((λ f. f.1 (inl (refl, refl))), refl))

answer_rr : CalledFor sample h_asr 1024 (resume (65 ⇢ 1)) (refused (plain AlreadyInForce))
answer_rr = inr ((λ n. n stands_asr), inl ((stands_asr, λ s. elim s [ inl b ↦ (let i = b.1 in let z : ◌≡◌ {A = ℕ} 0 1 = cc in omega arith) | inr b ↦ b.0 (refl, inl refl) ]), (plain AlreadyInForce, refl, refl)))

-- WITHDRAW
abbrev h_aw : List Event
h_aw = withdraw (65 ⇢ 1) answers accepted ∷ h_a

answer_w : CalledFor sample h_a 1024 (withdraw (65 ⇢ 1)) accepted
answer_w = inr ((λ n. n (inl (refl, inl refl))), refl)

answer_ws : CalledFor sample h_aw 1024 (suspend (65 ⇢ 1)) (refused (plain NotLinked))
answer_ws = inl (gone, (plain NotLinked, refl, refl))
  where
    gone : Standing h_aw (65 ⇢ 1) → ⊥
    gone (inl b) = elim b.1 [ inl i ↦ (let z : ◌≡◌ {A = ℕ} 0 1 = cc in omega arith) | inr i ↦ (let j = i.1 in let z : ◌≡◌ {A = ℕ} 0 1 = cc in omega arith) ]
    gone (inr b) = b.0 (refl, refl)

-- DISTRUST
shown_untrusted : Shown (scene (distrust 0 1 answers accepted ∷ h_tb)) (with_link (64 ⇢ 2) f_a)
shown_untrusted =
    let e : Event = distrust 0 1 answers accepted in
    let x = shown_link h_t 1024 (64 ⇢ 2) shown_t in
    record {
      linked = λ l. Iff.trans (standing_still e h_tb (λ a. ((λ i. omega arith), (λ i. omega arith), λ i. omega arith)) l) (x.linked l);
      held = λ c r. Iff.trans (held_still e h_tb (λ a. ((λ i. omega arith), (λ i. omega arith), λ i. omega arith)) c r) (x.held c r);
      trusted = λ o p. (own o p, λ t. elim t [ inl i ↦ inl i | inr m ↦ absurd (Memᴰ.not-nil m) ]);
    }
  where
    own : (o p : ℕ) → Trusts (distrust 0 1 answers accepted ∷ h_tb) o p → (o ≡ p) ⊎ Memᴰ {A = Link} (record { from = o; to = p }) []
    own o p (inl i) = inl i
    own o p (inr (inl b)) = let i = b.1 in let z : ◌≡◌ {A = ℕ} 0 1 = cc in absurd (omega arith)
    own o p (inr (inr b)) = elim (((shown_link h_t 1024 (64 ⇢ 2) shown_t).trusted o p).0 (inr b.1)) [
      | inl i ↦ inl i
      | inr m ↦ elim (Memᴰ.cases_cons m) [
        | inl e ↦ absurd (b.0 (refl, (let i = ap (λ (l : Link). l.from) e in let j = ap (λ (l : Link). l.to) e in cc)))
        | inr k ↦ inr k
      ]
    ]

answer_distrust : CalledFor sample h_tb 1024 (distrust 0 1) exposing
answer_distrust = refused_by sample (λ b. b ≡ accepted) (breaks_exposure 0 0 3) (65 ∷ 1 ∷ []) (distrust_ends sample h_tb 1024 0 1)
    ((λ i. omega arith), ((λ n. elim n [ inl k ↦ k (omega arith) | inr k ↦ k (omega arith) ]), ((λ i. omega arith), tt)))
    (finds_by sample sample_lawful codes refl (scene (distrust 0 1 answers accepted ∷ h_tb)) (with_link (64 ⇢ 2) f_a) shown_untrusted 9 (breaks_exposure 0 0 3) 0 65 (1 ∷ []) refl)

-- TRY twice
answer_try : LinkAnswer sample (try (65 ⇢ 1) answers accepted ∷ []) 1024 (65 ⇢ 1) accepted
answer_try = linked (try (65 ⇢ 1) answers accepted ∷ []) no_facts (shown_quiet (try (65 ⇢ 1) answers accepted) [] (λ e. omega arith) shown_new) (65 ⇢ 1) refl refl refl refl

-- two offices share out a set
answer_shared : LinkAnswer sample h_a 1024 (129 ⇢ 2) exposing
answer_shared = unlinked h_a f_a shown_a (129 ⇢ 2) (breaks_exposure 0 0 3) 0 65 (1 ∷ []) refl refl

-- a third office's hierarchy
abbrev h_u : List Event
h_u = link (1 ⇢ 66) answers accepted ∷ []

abbrev h_uv : List Event
h_uv = link (129 ⇢ 2) answers accepted ∷ h_u

abbrev f_u : Facts
f_u = with_link (1 ⇢ 66) no_facts

shown_u : Shown (scene h_u) f_u
shown_u = shown_link [] 1024 (1 ⇢ 66) shown_new

answer_u : LinkAnswer sample [] 1024 (1 ⇢ 66) accepted
answer_u = linked [] no_facts shown_new (1 ⇢ 66) refl refl refl refl

answer_uv : LinkAnswer sample h_u 1024 (129 ⇢ 2) accepted
answer_uv = linked h_u f_u shown_u (129 ⇢ 2) refl refl refl refl

answer_third : LinkAnswer sample h_uv 1024 (66 ⇢ 129) (refused (unsound (breaks_hierarchy 1 2) (1 ∷ 66 ∷ 129 ∷ 2 ∷ [])))
answer_third = unlinked h_uv (with_link (129 ⇢ 2) f_u) (shown_link h_u 1024 (129 ⇢ 2) shown_u) (66 ⇢ 129) (breaks_hierarchy 1 2) 0 1 (66 ∷ 129 ∷ 2 ∷ []) refl refl

-- trust is neither passed on nor returned
abbrev h_p : List Event
h_p = trust 0 1 answers accepted ∷ []

abbrev h_pq : List Event
h_pq = trust 1 2 answers accepted ∷ h_p

abbrev h_pql : List Event
h_pql = link (129 ⇢ 1) answers accepted ∷ h_pq

abbrev f_pq : Facts
f_pq = with_trust 1 2 (with_trust 0 1 no_facts)

shown_pq : Shown (scene h_pq) f_pq
shown_pq = shown_trust h_p 1024 1 2 (shown_trust [] 1024 0 1 shown_new)

answer_pql : LinkAnswer sample h_pq 1024 (129 ⇢ 1) accepted
answer_pql = linked h_pq f_pq shown_pq (129 ⇢ 1) refl refl refl refl

answer_ends : LinkAnswer sample h_pql 1024 (129 ⇢ 2) (refused (exposed_by (129 ∷ 1 ∷ [])))
answer_ends = unlinked h_pql (with_link (129 ⇢ 1) f_pq) (shown_link h_pq 1024 (129 ⇢ 1) shown_pq) (129 ⇢ 2) (breaks_exposure 0 0 3) 0 129 (1 ∷ []) refl refl

abbrev h_r : List Event
h_r = trust 1 0 answers accepted ∷ []

abbrev h_ra : List Event
h_ra = link (65 ⇢ 1) answers accepted ∷ h_r

abbrev f_r : Facts
f_r = with_trust 1 0 no_facts

shown_r : Shown (scene h_r) f_r
shown_r = shown_trust [] 1024 1 0 shown_new

answer_ra : LinkAnswer sample h_r 1024 (65 ⇢ 1) accepted
answer_ra = linked h_r f_r shown_r (65 ⇢ 1) refl refl refl refl

answer_directed : LinkAnswer sample h_ra 1024 (64 ⇢ 2) exposing
answer_directed = unlinked h_ra (with_link (65 ⇢ 1) f_r) (shown_link h_r 1024 (65 ⇢ 1) shown_r) (64 ⇢ 2) (breaks_exposure 0 0 3) 0 65 (1 ∷ []) refl refl

-- cards
abbrev h_i : List Event
h_i = issue 7 1 answers accepted ∷ []

abbrev h_ia : List Event
h_ia = assign 7 65 answers accepted ∷ h_i

abbrev h_iah : List Event
h_iah = handback 7 answers accepted ∷ h_ia

abbrev h_iahi : List Event
h_iahi = issue 7 1 answers accepted ∷ h_iah

shown_i : Shown (scene h_i) no_facts
shown_i = shown_quiet (issue 7 1 answers accepted) [] (λ e. omega arith) shown_new

answer_i : CalledFor sample [] 1024 (issue 7 1) accepted
answer_i = issues [] 7 1 (omega arith) (omega arith) (λ o s. s)

answer_ia : CalledFor sample h_i 1024 (assign 7 65) accepted
answer_ia = assigns [] no_facts shown_i (λ x. Memᴰ.not-nil ((shown_i.held 7 65).0 x)) refl refl refl

answer_iah : CalledFor sample h_ia 1024 (handback 7) accepted
answer_iah = inr ((λ i. omega arith), inr ((λ n. n 1 (inr ((λ b. let i = b.1 in let z : ◌≡◌ {A = ℕ} 0 1 = cc in omega arith), inl (refl, refl)))), refl))

answer_again : CalledFor sample h_iah 1024 (issue 7 1) accepted
answer_again = issues h_iah 7 1 (omega arith) (omega arith) gone
  where
    gone : (o : ℕ) → Issued h_iah 7 o → ⊥
    gone o (inl b) = let i = b.1 in let z : ◌≡◌ {A = ℕ} 0 1 = cc in omega arith
    gone o (inr b) = b.0 (refl, refl)

answer_emptied : CalledFor sample h_iahi 1024 (relieve 7 65) (refused (plain NotHeld))
answer_emptied = inr ((λ i. omega arith), inr ((λ n. n 1 (inl (refl, refl))), inr ((λ n. n (omega arith)), inr ((λ n. n (inl (refl, refl))), inl (nothing, (plain NotHeld, refl, refl))))))
  where
    nothing : Holds h_iahi 7 65 → ⊥
    nothing (inl b) = let i = b.1 in let z : ◌≡◌ {A = ℕ} 0 1 = cc in omega arith
    nothing (inr b) = elim b.1 [
      | inl d ↦ (let i = d.1 in let z : ◌≡◌ {A = ℕ} 0 1 = cc in omega arith)
      | inr d ↦ d.0 (refl, inr refl)
    ]

answer_255 : CalledFor sample [] 1024 (issue 255 1) accepted
answer_255 = issues [] 255 1 (omega arith) (omega arith) (λ o s. s)

answer_256 : CalledFor sample (issue 255 1 answers accepted ∷ []) 1024 (issue 256 1) (refused (plain NoSuchCard))
answer_256 = inl (omega arith, (plain NoSuchCard, refl, refl))

answer_home : CalledFor sample [] 1024 (issue 7 0) accepted
answer_home = issues [] 7 0 (omega arith) (omega arith) (λ o s. s)

answer_order : CalledFor sample (issue 7 0 answers accepted ∷ []) 1024 (assign 7 67) (refused (plain NoSuchCode))
answer_order = inr ((λ i. omega arith), inr ((λ i. omega arith), inr ((λ n. n 0 (inl (refl, refl))), inl ((λ r. omega arith), (plain NoSuchCode, refl, refl)))))

pub worked_examples : WorkedExamples
worked_examples = record {
  first_link = (answer_a, tt);
  exposure = (answer_b, (answer_a, tt));
  hierarchy = (answer_c, (answer_a, tt));
  one_office = (answer_same, tt);
  withheld = (answer_withheld, tt);
  no_role = (answer_none, tt);
  there_and_back = (answer_back, (answer_d, tt));
  through_another = (answer_through, (answer_d, tt));
  boxed = (answer_box, tt);
  boxed_lines = refl;
  suspended_counts = (answer_suspended, (answer_s, (answer_a, tt)));
  exclusion = (answer_excluded, (issues h_tb 7 1 (omega arith) (omega arith) unissued_tb, (answer_tb, (trusts_two h_a 0 1 (omega arith) (omega arith), (answer_a, tt)))));
  granted_by = (answer_may, (answer_xj, (answer_xi, (answer_b, (answer_a, tt)))));
  suspended_denies = (answer_denied, (answer_ys, (assigns h_a f_a shown_yi (λ x. Memᴰ.not-nil ((shown_yi.held 7 65).0 x)) refl refl refl, (issues h_a 7 1 (omega arith) (omega arith) unissued_a, (answer_a, tt)))));
  resumed = (answer_rr, (answer_r, (answer_s, (answer_a, tt))));
  withdrawn = (answer_ws, (answer_w, (answer_a, tt)));
  distrusted = (answer_distrust, (answer_tb, (trusts_two h_a 0 1 (omega arith) (omega arith), (answer_a, tt))));
  tried = (answer_try, (answer_a, tt));
  shared_out = (answer_shared, (answer_a, tt));
  third_office = (answer_third, (answer_uv, (answer_u, tt)));
  trust_ends = (answer_ends, (answer_pql, (trusts_two h_p 1 2 (omega arith) (omega arith), (trusts_two [] 0 1 (omega arith) (omega arith), tt))));
  trust_directed = (answer_directed, (answer_ra, (trusts_two [] 1 0 (omega arith) (omega arith), tt)));
  last_card = (answer_256, (answer_255, tt));
  emptied = (answer_emptied, (answer_again, (answer_iah, (answer_ia, (answer_i, tt)))));
  in_order = (answer_order, (answer_home, tt));
  short_strip = (inl (omega arith, (plain ShortStrip, refl, refl)), tt);
  empty_box = (refl, tt);
}
