-- When the answer is 16.
use Rattle.std.proofs.Common.{◌≡◌, ℕ, suc, ◌<◌, ◌↔◌, List, [], ◌∷◌, ◌++◌, sym, refl, ap, ◌∙◌, subst, inl, inr, arith}
use Rattle.answers.specs.Numbers.{number_of}
use Rattle.answers.specs.declared.Refusal.{Refusal}
use Rattle.offices.specs.Model.{OfficeModel}
use Rattle.law.specs.Sound.{Link, Scene, Sound}
use Rattle.law.specs.Requests.{Request, Answer, accepted, refused, answer_number, reason_number, issue, assign, relieve, handback, trust, distrust, link, try, box, suspend, resume, withdraw, may}
use Rattle.law.specs.Histories.{Event, accepting, scene}
use Rattle.law.specs.Checks.{Check, ◌when◌, unless_sound, FirstRefusal, linking, checks}
use Rattle.law.specs.Right.{LinkAnswer, LinesAnswer, MayAnswer, CalledFor}
use Rattle.law.specs.Promises.{sent, NoneRefuses, earlier, CanHarm, by_assigning, by_distrusting, by_linking, by_trying, SixteenExactly, BoxSixteenExactly}
use Rattle.law.proofs.Passing.{never, AllAccepted}
use Rattle.law.proofs.Sounds.{right_sent, sent_right}
use Rattle.law.proofs.Unique.{link_one}

abbrev Not16 : Refusal → Type 0
Not16 r = number_of r ≡ 16 → ⊥

-- named checks, and the 16 at the end or nowhere
pub data Ends (s : Scene) : List Check → Type 1 where
  last : Ends s (unless_sound s ∷ [])
  more : {r : Refusal} {P : Type 0} {cs : List Check} → Not16 r → Ends s cs → Ends s ((r when P) ∷ cs)

pub data Named : List Check → Type 1 where
  done : Named []
  also : {r : Refusal} {P : Type 0} {cs : List Check} → Not16 r → Named cs → Named ((r when P) ∷ cs)

module _ (bank : List OfficeModel) (a : Answer) where
  exactly : {s : Scene} {cs : List Check} → Ends s cs → FirstRefusal bank cs (λ b. b ≡ accepted) a
      → (answer_number a ≡ 16) ↔ (NoneRefuses bank (earlier cs) × (Sound bank s → ⊥))
  exactly last (inl x) = ((λ e. (tt, x.0)), λ y. ap answer_number x.1.2 ∙ ap reason_number x.1.1.3)
  exactly last (inr x) = ((λ e. absurd (omega (arith, ap answer_number x.1))), λ y. absurd (x.0 y.1))
  exactly (more other rest) (inl x) = ((λ e. absurd (other (sym (ap answer_number x.1.2 ∙ ap reason_number x.1.1) ∙ e))), λ y. absurd (y.0.0 x.0))
  exactly (more other rest) (inr x) = let r = exactly rest x.1 in ((λ e. ((x.0, (r.0 e).0), (r.0 e).1)), λ y. r.1 (y.0.1, y.1))

  never_16 : (Else : Answer → Type 0) → (Else a → answer_number a ≡ 16 → ⊥) → {cs : List Check} → Named cs → FirstRefusal bank cs Else a → answer_number a ≡ 16 → ⊥
  never_16 Else f done x e = f x e
  never_16 Else f (also other rest) (inl x) e = other (sym (ap answer_number x.1.2 ∙ ap reason_number x.1.1) ∙ e)
  never_16 Else f (also other rest) (inr x) e = never_16 Else f rest x.1 e

  accepted_0 : a ≡ accepted → answer_number a ≡ 16 → ⊥
  accepted_0 i e = omega (arith, e, ap answer_number i)

pub link_ends : (bank : List OfficeModel) (h : List Event) (n : ℕ) (l : Link) → Ends (scene (accepting n (link l) h)) (linking bank h n l)
link_ends bank h n l = more (λ e. omega arith) (more (λ e. omega arith) (more (λ e. omega arith) (more (λ e. omega arith) (more (λ e. omega arith) (more (λ e. omega arith) last)))))

pub assign_ends : (bank : List OfficeModel) (h : List Event) (n c r : ℕ) → Ends (scene (accepting n (assign c r) h)) (checks bank h n (assign c r))
assign_ends bank h n c r = more (λ e. omega arith) (more (λ e. omega arith) (more (λ e. omega arith) (more (λ e. omega arith) (more (λ e. omega arith) (more (λ e. omega arith) last)))))

pub distrust_ends : (bank : List OfficeModel) (h : List Event) (n o p : ℕ) → Ends (scene (accepting n (distrust o p) h)) (checks bank h n (distrust o p))
distrust_ends bank h n o p = more (λ e. omega arith) (more (λ e. omega arith) (more (λ e. omega arith) last))

module _ (bank : List OfficeModel) (h : List Event) (n : ℕ) (a : Answer) where
  abbrev Harms : Request → Type 0
  Harms q = (q' : Request) × CanHarm q q' × NoneRefuses bank (earlier (checks bank h n q)) × (Sound bank (scene (accepting n q' h)) → ⊥)

  may_0 : (c r : ℕ) → MayAnswer bank h c r a → answer_number a ≡ 16 → ⊥
  may_0 c r (inl x) e = omega (arith, e, ap answer_number x.2)
  may_0 c r (inr x) e = omega (arith, e, ap answer_number x.1)

  harms : (q : Request) → ((ls : List Link) → q ≡ box ls → ⊥) → CalledFor bank h n q a → answer_number a ≡ 16 → Harms q
  harms (assign c r) nb x e = let y = (exactly bank a (assign_ends bank h n c r) x).0 e in (assign c r, by_assigning, y.0, y.1)
  harms (distrust o p) nb x e = let y = (exactly bank a (distrust_ends bank h n o p) x).0 e in (distrust o p, by_distrusting, y.0, y.1)
  harms (link l) nb x e = let y = (exactly bank a (link_ends bank h n l) x).0 e in (link l, by_linking, y.0, y.1)
  harms (try l) nb x e = let y = (exactly bank a (link_ends bank h n l) x).0 e in (link l, by_trying, y.0, y.1)
  harms (box ls) nb x e = absurd (nb ls refl)
  harms (issue c o) nb x e = absurd (never_16 bank a (λ b. b ≡ accepted) (accepted_0 bank a) (also (λ e. omega arith) (also (λ e. omega arith) (also (λ e. omega arith) done))) x e)
  harms (relieve c r) nb x e = absurd (never_16 bank a (λ b. b ≡ accepted) (accepted_0 bank a) (also (λ e. omega arith) (also (λ e. omega arith) (also (λ e. omega arith) (also (λ e. omega arith) (also (λ e. omega arith) done))))) x e)
  harms (handback c) nb x e = absurd (never_16 bank a (λ b. b ≡ accepted) (accepted_0 bank a) (also (λ e. omega arith) (also (λ e. omega arith) done)) x e)
  harms (trust o p) nb x e = absurd (never_16 bank a (λ b. b ≡ accepted) (accepted_0 bank a) (also (λ e. omega arith) done) x e)
  harms (suspend l) nb x e = absurd (never_16 bank a (λ b. b ≡ accepted) (accepted_0 bank a) (also (λ e. omega arith) (also (λ e. omega arith) done)) x e)
  harms (resume l) nb x e = absurd (never_16 bank a (λ b. b ≡ accepted) (accepted_0 bank a) (also (λ e. omega arith) (also (λ e. omega arith) done)) x e)
  harms (withdraw l) nb x e = absurd (never_16 bank a (λ b. b ≡ accepted) (accepted_0 bank a) (also (λ e. omega arith) done) x e)
  harms (may c r) nb x e = absurd (never_16 bank a (MayAnswer bank h c r) (may_0 c r) (also (λ e. omega arith) (also (λ e. omega arith) (also (λ e. omega arith) (also (λ e. omega arith) done)))) x e)

  harmed : {q q' : Request} → CanHarm q q' → CalledFor bank h n q a → NoneRefuses bank (earlier (checks bank h n q)) → (Sound bank (scene (accepting n q' h)) → ⊥) → answer_number a ≡ 16
  harmed (by_assigning {c = c} {r = r}) x none bad = (exactly bank a (assign_ends bank h n c r) x).1 (none, bad)
  harmed (by_distrusting {o = o} {p = p}) x none bad = (exactly bank a (distrust_ends bank h n o p) x).1 (none, bad)
  harmed (by_linking {l = l}) x none bad = (exactly bank a (link_ends bank h n l) x).1 (none, bad)
  harmed (by_trying {l = l}) x none bad = (exactly bank a (link_ends bank h n l) x).1 (none, bad)

pub sixteen_exactly : SixteenExactly
sixteen_exactly bank h n q a nb x = (harms bank h n a q nb x, λ y. harmed bank h n a y.1 x y.2 y.3)

module _ (bank : List OfficeModel) (n : ℕ) where
  -- the line that draws it
  record Drawn (h : List Event) (ls : List Link) : Type 0 where
    before : List Link
    line : Link
    after : List Link
    answer : Answer
    split : ls ≡ before ++ (line ∷ after)
    all : AllAccepted bank n h before
    judged : LinkAnswer bank (sent n before h) n line answer
    sixteen : answer_number answer ≡ 16

  draws : (ls : List Link) (h : List Event) (i : ℕ) (a : Answer) → LinesAnswer bank n h i ls a → answer_number a ≡ 16 → Drawn h ls
  draws [] h i a x e = absurd (omega (arith, ap answer_number x))
  draws (l ∷ ls) h i a (inl x) e = record { before = []; line = l; after = ls; answer = refused x.0; split = refl; all = tt; judged = x.1; sixteen = sym (ap answer_number x.2) ∙ e }
  draws (l ∷ ls) h i a (inr x) e =
      let d = draws ls (accepting n (link l) h) (suc i) a x.1 e in
      record { before = l ∷ d.before; line = d.line; after = d.after; answer = d.answer; split = ap (λ r. l ∷ r) d.split; all = (x.0, d.all); judged = d.judged; sixteen = d.sixteen }

  module _ (l : Link) (after : List Link) (a b : Answer) (e : answer_number b ≡ 16) where
    drawn : (before : List Link) (h : List Event) (i : ℕ) → AllAccepted bank n h before → LinkAnswer bank (sent n before h) n l b
        → LinesAnswer bank n h i (before ++ (l ∷ after)) a → answer_number a ≡ 16
    drawn [] h i all j (inl x) = ap answer_number x.2 ∙ ap answer_number (link_one bank h n l (refused x.0) b x.1 j) ∙ e
    drawn [] h i all j (inr x) = absurd (omega (arith, e, ap answer_number (link_one bank h n l accepted b x.0 j)))
    drawn (m ∷ ms) h i all j (inl x) = absurd (never x.0 (link_one bank h n m accepted (refused x.0) all.0 x.1))
    drawn (m ∷ ms) h i all j (inr x) = drawn ms (accepting n (link m) h) (suc i) all.1 j x.1

    short : (h : List Event) (m : Link) (c : Answer) → n < 1024 → LinkAnswer bank h n m c → answer_number c ≡ 4
    short h m c s (inl x) = ap answer_number x.1.2 ∙ ap reason_number x.1.1
    short h m c s (inr x) = absurd (x.0 s)

    box_drawn : (before : List Link) (h : List Event) → AllAccepted bank n h before → LinkAnswer bank (sent n before h) n l b
        → CalledFor bank h n (box (before ++ (l ∷ after))) a → answer_number a ≡ 16
    box_drawn [] h all j (inl x) = absurd (omega (arith, e, short h l b x.0 j))
    box_drawn [] h all j (inr x) = drawn [] h 0 all j x.1
    box_drawn (m ∷ ms) h all j (inl x) = absurd (omega (arith, short h m accepted x.0 all.0))
    box_drawn (m ∷ ms) h all j (inr x) = drawn (m ∷ ms) h 0 all j x.1

  box_draws : (ls : List Link) (h : List Event) (a : Answer) → CalledFor bank h n (box ls) a → answer_number a ≡ 16 → Drawn h ls
  box_draws [] h a x e = draws [] h 0 a x e
  box_draws (l ∷ ls) h a (inl x) e = absurd (omega (arith, e, ap answer_number x.1.2 ∙ ap reason_number x.1.1))
  box_draws (l ∷ ls) h a (inr x) e = draws (l ∷ ls) h 0 a x.1 e

pub box_sixteen_exactly : BoxSixteenExactly
box_sixteen_exactly bank h n ls a right x = (
  (λ e. let d = box_draws bank n ls h a x e in
      (d.before, d.line, d.after, d.answer, d.split, right_sent bank n h d.before right d.all, d.judged, d.sixteen)),
  (λ y. box_drawn bank n y.1 y.2 a y.3 y.7 y.0 h (sent_right bank n h y.0 y.5).1 y.6 (subst (λ z. CalledFor bank h n (box z) a) y.4 x)),
)
