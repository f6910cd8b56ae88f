-- A request that is settled by the tables is answered right, and keeps tables and history in accord.
use Rattle.std.proofs.Common.{◌≡◌, ℕ, zero, suc, ◌<◌, ◌≤◌, true, ◌↔◌, List, [], ◌∷◌, length, Some, sym, refl, ap, subst, inl, inr, arith}
use mathlib.Core.List.Memᴰ
use mathlib.Core.List.Permᴰ
use mathlib.Core.List.{Memᴰ}
use mathlib.Core.Logic.Iff
use Rattle.std.proofs.lemmas.Bool.{cases_eq, cases_Bool, both_ways}
use Rattle.offices.specs.Model.{OfficeModel}
use Rattle.banks.specs.Codes.{office_of}
use Rattle.law.specs.Counting.{AllDiffer, Many}
use Rattle.law.specs.Sound.{Link}
use Rattle.law.specs.Requests.{Request, Answer, accepted, refused, refused_at, granted, denied, issue, assign, relieve, handback, trust, distrust, link, try, box, suspend, resume, withdraw, may}
use Rattle.law.specs.Histories.{Event, Issued, Holds, Standing, InForce, scene}
use Rattle.law.specs.Checks.{FirstRefusal, linking, checks}
use Rattle.law.specs.Right.{LinesAnswer, MayAnswer, Unrefused}
use Rattle.law.specs.Promises.{Within, sent, NoneRefuses}
use Rattle.law.proofs.Alikes.{alike_adds, box_adds, sent_adds}
use Rattle.law.proofs.Changes.{only_accepted_change}
use Rattle.law.proofs.Counts.{no_more}
use Rattle.law.proofs.Known.{issued_known}
use Rattle.law.proofs.Passing.{passed}
use Rattle.law.proofs.Same.{SameChecks, none, named, under, sound, first_same, best_alike}
use Rattle.law.proofs.Scenes.{step_more, reached_more}
use Rattle.accord.specs.Accord.{SettledAgrees}
use Rattle.accord.specs.Agree.{Agree}
use Rattle.accord.specs.Settling.{Same, with_records, table_linking, table_checks, TableLines, TableMay, TableUnrefused, Changed, After}
use Rattle.accord.specs.Tables.{Tables, Holding, Recorded, Acting, table_scene}
use Rattle.accord.proofs.Cards.{agree_issue, agree_handback, agree_assign, agree_relieve, agree_trust, agree_distrust}
use Rattle.accord.proofs.Choosing.{agree_same, agree_alike}
use Rattle.accord.proofs.Records.{agree_link, agree_suspend, agree_resume, agree_withdraw, one_place}

-- ---- the same scene

scene_to : {t : Tables} {h : List Event} → Agree t h → Within (table_scene t) (scene h)
scene_to a = record { linked = λ l. (a.standing l).1; held = λ c r. (a.holdings c r).1; trusted = λ o p. (a.trust o p).0 }

scene_back : {t : Tables} {h : List Event} → Agree t h → Within (scene h) (table_scene t)
scene_back a = record { linked = λ l. (a.standing l).0; held = λ c r. (a.holdings c r).0; trusted = λ o p. (a.trust o p).1 }

-- ---- the links of the first k records

abbrev links : Tables → ℕ → List Link
links t zero = []
links t (suc k) = t.link k ∷ links t k

links_in : (t : Tables) (k : ℕ) (l : Link) → Memᴰ l (links t k) → (i : ℕ) × (i < k) × (t.link i ≡ l)
links_in t zero l m = absurd (Memᴰ.not-nil m)
links_in t (suc k) l m = elim (Memᴰ.cases_cons m) [
  | inl e ↦ (k, omega arith, sym e)
  | inr j ↦ (let x = links_in t k l j in let b = x.1 in (x.0, omega arith, x.2))
]

in_links : (t : Tables) (k i : ℕ) → i < k → Memᴰ (t.link i) (links t k)
in_links t zero i b = absurd (omega arith)
in_links t (suc k) i b = elim (cases_eq i k) [ inl e ↦ Memᴰ.head (ap t.link e) | inr d ↦ Memᴰ.tail (in_links t k i (omega arith)) ]

length-links : (t : Tables) (k : ℕ) → length (links t k) ≡ k
length-links t zero = refl
length-links t (suc k) = ap suc (length-links t k)

module _ {t : Tables} {h : List Event} (a : Agree t h) where
  links_differ : (k : ℕ) → k ≤ t.count → AllDiffer (links t k)
  links_differ zero b = tt
  links_differ (suc k) b = ((λ m. let x = links_in t k (t.link k) m in a.apart x.0 k x.1 (omega arith) x.2), links_differ k (omega arith))

  full : (256 ≤ t.count) ↔ Many (Standing h) 256
  full = (
    (λ b. (
      links t t.count,
      links_differ t.count (omega arith),
      (λ l m. (a.standing l).1 (links_in t t.count l m)),
      (let e = length-links t t.count in omega arith),
    )),
    λ m.
        let few = no_more m.0 (links t t.count) m.1
        (λ l i. let x = (a.standing l).0 (m.2 l i) in subst (λ z. Memᴰ z (links t t.count)) x.2 (in_links t t.count x.0 x.1)) in
        let many = m.3 in let e = length-links t t.count in omega arith,
  )

  -- ---- the same checks

  unissued : (c : ℕ) → ((o : ℕ) → t.home c ≡ Some o → ⊥) ↔ ((o : ℕ) → Issued h c o → ⊥)
  unissued c = ((λ x o s. x o ((a.homes c o).0 s)), λ x o s. x o ((a.homes c o).1 s))

  at_home : (c o : ℕ) → ((t.home c ≡ Some o → ⊥) → ⊥) → t.home c ≡ Some o
  at_home c o n = elim (issued_known h c o) [ inl y ↦ (a.homes c o).0 y | inr y ↦ absurd (n (λ e. y ((a.homes c o).1 e))) ]

  force : (l : Link) → Acting t l ↔ InForce h l
  force l = (
    (λ x. (
      (a.standing l).1 (x.0, x.1, x.2),
      λ s.
          let y = (a.suspended l).0 s in
          let e : y.0 ≡ x.0 = one_place t h 0 a l x.0 (x.1, x.2) y.0 y.1 y.2 in
          both_ways _ x.3 (subst (λ i. t.suspended i ≡ true) e y.3),
    )),
    λ x. let r = (a.standing l).0 x.0 in elim (cases_Bool (t.suspended r.0)) [
      | inl on ↦ absurd (x.1 ((a.suspended l).1 (r.0, r.1, r.2, on)))
      | inr off ↦ (r.0, r.1, r.2, off)
    ],
  )

  module _ (bank : List OfficeModel) (n : ℕ) where
    linking_same : (l : Link) → SameChecks (table_linking bank t n l) (linking bank h n l)
    linking_same l = named Iff.rfl (named Iff.rfl (named Iff.rfl (named Iff.rfl (under (Iff.symm (a.standing l)) (λ new.
        let b = agree_link t h n a l new in named full (sound (scene_to b) (scene_back b) none))))))

    checks_same : (q : Request) → SameChecks (table_checks bank t n q) (checks bank h n q)
    checks_same (issue c o) = named Iff.rfl (named Iff.rfl (named ((λ x. (x.0, (a.homes c x.0).1 x.1)), λ x. (x.0, (a.homes c x.0).0 x.1)) none))
    checks_same (assign c r) = named Iff.rfl (named Iff.rfl (named (unissued c) (named Iff.rfl (under (Iff.not (Iff.symm (a.homes c (office_of r)))) (λ at.
        let b = agree_assign t h n a c r (at_home c (office_of r) at) in named (Iff.symm (a.holdings c r)) (sound (scene_to b) (scene_back b) none))))))
    checks_same (relieve c r) = named Iff.rfl (named (unissued c) (named Iff.rfl (named (Iff.not (Iff.symm (a.homes c (office_of r)))) (named (Iff.not (Iff.symm (a.holdings c r))) none))))
    checks_same (handback c) = named Iff.rfl (named (unissued c) none)
    checks_same (trust o p) = named Iff.rfl none
    checks_same (distrust o p) = let b = agree_distrust t h n a o p in named Iff.rfl (named Iff.rfl (named Iff.rfl (sound (scene_to b) (scene_back b) none)))
    checks_same (link l) = linking_same l
    checks_same (try l) = linking_same l
    checks_same (box []) = none
    checks_same (box (l ∷ ls)) = named Iff.rfl none
    checks_same (suspend l) = named (Iff.not (Iff.symm (a.standing l))) (named (Iff.symm (a.suspended l)) none)
    checks_same (resume l) = named (Iff.not (Iff.symm (a.standing l))) (named (force l) none)
    checks_same (withdraw l) = named (Iff.not (Iff.symm (a.standing l))) none
    checks_same (may c r) = named Iff.rfl (named Iff.rfl (named (unissued c) (named Iff.rfl none)))

    may_same : (c r : ℕ) (b : Answer) → TableMay bank t c r b → MayAnswer bank h c r b
    may_same c r b (inl x) = inl (
      x.0,
      best_alike (Holding t c) (Holds h c)
          (step_more bank (Acting t) (InForce h) (λ l. (force l).0)) (step_more bank (InForce h) (Acting t) (λ l. (force l).1))
          (λ k. Iff.symm (a.holdings c k)) x.1,
      x.2,
    )
    may_same c r b (inr x) = inr (
      (λ y. x.0 (reached_more (Holds h c) (Holding t c) (step_more bank (InForce h) (Acting t) (λ l. (force l).1)) (λ k. (a.holdings c k).0) r y)),
      x.1,
    )

-- ---- the lines of a box

module _ (bank : List OfficeModel) (n : ℕ) where
  new_link : (t : Tables) (l : Link) → FirstRefusal bank (table_linking bank t n l) (λ b. b ≡ accepted) accepted → Recorded t l → ⊥
  new_link t l x = (passed bank (table_linking bank t n l) (λ b. b ≡ accepted) x).0.1.1.1.1.0

  lines_same : (ls : List Link) {t : Tables} {h : List Event} → Agree t h → (i : ℕ) (b : Answer) → TableLines bank n t i ls b → LinesAnswer bank n h i ls b
  lines_same [] a i b x = x
  lines_same (l ∷ ls) a i b (inl x) =
      inl (x.0, first_same bank (refused x.0) (λ b. b ≡ accepted) (λ b. b ≡ accepted) (λ e. e) (linking_same a bank n l) x.1, x.2)
  lines_same (l ∷ ls) {t} {h} a i b (inr x) =
      inr (
        first_same bank accepted (λ b. b ≡ accepted) (λ b. b ≡ accepted) (λ e. e) (linking_same a bank n l) x.0,
        lines_same ls (agree_link t h n a l (new_link t l x.0)) (suc i) b x.1,
      )

  box_agrees : (ls : List Link) {t : Tables} {h : List Event} → Agree t h → (i : ℕ) → TableLines bank n t i ls accepted → Agree (with_records ls t) (sent n ls h)
  box_agrees [] a i x = a
  box_agrees (l ∷ ls) a i (inl x) = absurd (let e = x.2 in cc)
  box_agrees (l ∷ ls) {t} {h} a i (inr x) = box_agrees ls (agree_link t h n a l (new_link t l x.0)) (suc i) x.1

  module _ {t : Tables} {h : List Event} (a : Agree t h) where
    unrefused_same : (b : Answer) (q : Request) → TableUnrefused bank t n q b → Unrefused bank h n q b
    unrefused_same b (issue c o) x = x
    unrefused_same b (assign c r) x = x
    unrefused_same b (relieve c r) x = x
    unrefused_same b (handback c) x = x
    unrefused_same b (trust o p) x = x
    unrefused_same b (distrust o p) x = x
    unrefused_same b (link l) x = x
    unrefused_same b (try l) x = x
    unrefused_same b (box ls) x = lines_same ls a 0 b x
    unrefused_same b (suspend l) x = x
    unrefused_same b (resume l) x = x
    unrefused_same b (withdraw l) x = x
    unrefused_same b (may c r) x = may_same a bank n c r b x

    -- ---- the tables after

    none_held : (q : Request) → FirstRefusal bank (table_checks bank t n q) (TableUnrefused bank t n q) accepted → NoneRefuses bank (table_checks bank t n q)
    none_held q x = (passed bank (table_checks bank t n q) (TableUnrefused bank t n q) x).0

    changed : {u : Tables} (q : Request) → FirstRefusal bank (table_checks bank t n q) (TableUnrefused bank t n q) accepted → Changed t q u
        → Agree u (record { request = q; strip = n; answer = accepted } ∷ h)
    changed (issue c o) x s = agree_same s _ (agree_issue t h n a c o (λ p e. (none_held (issue c o) x).1.1.0 (p, e)))
    changed (assign c r) x s = agree_same s _ (agree_assign t h n a c r (at_home a c (office_of r) (none_held (assign c r) x).1.1.1.1.0))
    changed (relieve c r) x s = agree_same s _ (agree_relieve t h n a c r (at_home a c (office_of r) (none_held (relieve c r) x).1.1.1.0))
    changed (handback c) x s = agree_same s _ (agree_handback t h n a c)
    changed (trust o p) x s = agree_same s _ (agree_trust t h n a o p)
    changed (distrust o p) x s = agree_same s _ (agree_distrust t h n a o p)
    changed (link l) x s = agree_same s _ (agree_link t h n a l (new_link t l x))
    changed (try l) x s = agree_same s _ (agree_alike (only_accepted_change h (record { request = try l; strip = n; answer = accepted }) (λ e. (l, refl))) a)
    changed (box ls) x s =
        agree_same s _ (agree_alike
        (alike_adds (Permᴰ.refl ls) (box_adds n h ls) (sent_adds n h ls))
        (box_agrees ls a 0 (passed bank (table_checks bank t n (box ls)) (TableUnrefused bank t n (box ls)) x).1))
    changed (suspend l) x s = agree_same s.2 _ (agree_suspend t h n a l s.0 s.1)
    changed (resume l) x s = agree_same s.2 _ (agree_resume t h n a l s.0 s.1)
    changed (withdraw l) x s = agree_same s.2 _ (agree_withdraw t h n a l s.0 s.1)
    changed (may c r) x s = elim ((passed bank (table_checks bank t n (may c r)) (TableUnrefused bank t n (may c r)) x).1) [
      | inl y ↦ absurd (let e = y.2 in cc)
      | inr y ↦ absurd (let e = y.1 in cc)
    ]

    unchanged : {u : Tables} (q : Request) (b : Answer) → (b ≡ accepted → ⊥) → Same u t → Agree u (record { request = q; strip = n; answer = b } ∷ h)
    unchanged q b other s = agree_same s _ (agree_alike (only_accepted_change h (record { request = q; strip = n; answer = b }) (λ e. absurd (other e))) a)

    after : {u : Tables} (q : Request) (b : Answer) → FirstRefusal bank (table_checks bank t n q) (TableUnrefused bank t n q) b → After t q b u
        → Agree u (record { request = q; strip = n; answer = b } ∷ h)
    after q accepted x s = changed q x s
    after q (refused why) x s = unchanged q (refused why) (λ e. cc) s
    after q (refused_at i why) x s = unchanged q (refused_at i why) (λ e. cc) s
    after q (granted xs) x s = unchanged q (granted xs) (λ e. cc) s
    after q denied x s = unchanged q denied (λ e. cc) s

pub settled_agrees : SettledAgrees
settled_agrees bank t u n q b h s right a = (
  (first_same bank b (TableUnrefused bank t n q) (Unrefused bank h n q) (unrefused_same bank n a b q) (checks_same a bank n q) s.answer, right),
  after bank n a q b s.answer s.after,
)
