-- What holds of cards and links after every right history.
use Rattle.std.proofs.Common.{◌≡◌, ℕ, ◌<◌, ◌≤◌, Bool, true, false, ◌⊎◌, List, [], ◌∷◌, length, sym, refl, ap, subst, inl, inr, arith}
use mathlib.Core.List.Memᴰ
use mathlib.Core.List.Permᴰ
use mathlib.Core.List.{Memᴰ}
use Rattle.std.proofs.lemmas.Bool.{cases_lt, cases_Bool}
use Rattle.answers.specs.Numbers.{number_of}
use Rattle.answers.specs.declared.Refusal.{Refusal}
use Rattle.answers.specs.declared.Refusal.TheVariants.{LinksFull}
use Rattle.offices.specs.Model.{OfficeModel}
use Rattle.banks.specs.Banks.{office_at}
use Rattle.banks.specs.Codes.{office_of, role_of}
use Rattle.law.specs.Roles.{IsRole}
use Rattle.law.specs.Counting.{Many}
use Rattle.law.specs.Sound.{Link}
use Rattle.law.specs.Requests.{Request, Answer, plain, accepted, refused, refused_at, granted, denied, issue, assign, relieve, handback, trust, distrust, link, try, box, suspend, resume, withdraw, may}
use Rattle.law.specs.Histories.{Event, accepting, Issued, Holds, Standing, Suspended}
use Rattle.law.specs.Checks.{Check, ◌when◌, unless_sound, FirstRefusal, linking, checks}
use Rattle.law.specs.Right.{LinkAnswer, CalledFor, Right}
use Rattle.law.specs.Promises.{sent, AllKept, FullAt256}
use Rattle.law.proofs.Scenes.{many_more}
use Rattle.law.proofs.Counts.{many_less}
use Rattle.law.proofs.Changes.{kind}
use Rattle.law.proofs.Passing.{passed, AllAccepted, box_lines}
use Rattle.law.proofs.Alikes.{alike_adds, box_adds, sent_adds, one}
use Rattle.law.proofs.Known.{issued_known, standing_known}

pub role_stable : (bank : List OfficeModel) (a : ℕ) → ((IsRole bank a → ⊥) → ⊥) → IsRole bank a
role_stable bank a n = elim (cases_lt (role_of a) (office_at bank (office_of a)).roles) [ inl h ↦ h | inr h ↦ absurd (n (λ r. omega arith)) ]

true_stable : (b : Bool) → (b ≡ false → ⊥) → b ≡ true
true_stable b n = elim (cases_Bool b) [ inl e ↦ e | inr e ↦ absurd (n e) ]

other : (q : Request) (c r c' : ℕ) → q ≡ assign c r → q ≡ handback c' → ⊥
other q c r c' i j = let z : ◌≡◌ {A = ℕ} 0 1 = cc in omega arith

one_issue : (q : Request) (c o o' : ℕ) → q ≡ issue c o → q ≡ issue c o' → o ≡ o'
one_issue q c o o' i j = cc

-- what is asked of a link that is accepted
pub record Linkable (bank : List OfficeModel) (l : Link) : Type 0 where
  pub from : IsRole bank l.from
  pub to : IsRole bank l.to
  pub apart : office_of l.from ≡ office_of l.to → ⊥
  pub shared : (office_at bank (office_of l.to)).shared (role_of l.to) ≡ true

module _ (bank : List OfficeModel) where
  pub accepted_as : (h : List Event) (e : Event) (q : Request) → e.answer ≡ accepted → e.request ≡ q → CalledFor bank h e.strip e.request e.answer → CalledFor bank h e.strip q accepted
  accepted_as h e q i j x = subst (λ a. CalledFor bank h e.strip q a) i (subst (λ r. CalledFor bank h e.strip r e.answer) j x)

  link_linkable : (n : ℕ) (h : List Event) (l : Link) → LinkAnswer bank h n l accepted → Linkable bank l
  link_linkable n h l x =
      let k = (passed bank (linking bank h n l) (λ b. b ≡ accepted) x).0 in
      record {
        from = role_stable bank l.from (λ r. k.1.0 (inl r));
        to = role_stable bank l.to (λ r. k.1.0 (inr r));
        apart = k.1.1.0;
        shared = true_stable _ k.1.1.1.0;
      }

  lines_linkable : (n : ℕ) (ls : List Link) (h : List Event) (l : Link) → AllAccepted bank n h ls → Memᴰ l ls → Linkable bank l
  lines_linkable n [] h l x m = absurd (Memᴰ.not-nil m)
  lines_linkable n (k ∷ ks) h l x m = elim (Memᴰ.cases_cons m) [
    | inl e ↦ subst (Linkable bank) (sym e) (link_linkable n h k x.0)
    | inr i ↦ lines_linkable n ks (accepting n (link k) h) l x.1 i
  ]

  pub standing_linkable : (h : List Event) → Right bank h → (l : Link) → Standing h l → Linkable bank l
  standing_linkable [] r l s = absurd s
  standing_linkable (e ∷ h) r l (inl b) = elim b.1 [
    | inl i ↦ link_linkable e.strip h l (accepted_as h e (link l) b.0 i r.0)
    | inr i ↦ lines_linkable e.strip i.0 h l (box_lines bank e.strip h i.0 (accepted_as h e (box i.0) b.0 i.1 r.0)) i.2
  ]
  standing_linkable (e ∷ h) r l (inr b) = standing_linkable h r.1 l b.1

  pub holds_role : (h : List Event) → Right bank h → (c a : ℕ) → Holds h c a → IsRole bank a
  holds_role [] r c a s = absurd s
  holds_role (e ∷ h) r c a (inl b) =
      role_stable bank a (passed bank (checks bank h e.strip (assign c a)) (λ b. b ≡ accepted) (accepted_as h e (assign c a) b.0 b.1 r.0)).0.1.1.1.0
  holds_role (e ∷ h) r c a (inr b) = holds_role h r.1 c a b.1

  holder : (h : List Event) → Right bank h → (c r : ℕ) → Holds h c r → Issued h c (office_of r)
  holder [] x c r s = absurd s
  holder (e ∷ h) x c r (inl b) =
      let n = (passed bank (checks bank h e.strip (assign c r)) (λ a. a ≡ accepted) (accepted_as h e (assign c r) b.0 b.1 x.0)).0.1.1.1.1.0 in
      inr ((λ y. other e.request c r c b.1 y.1), elim (issued_known h c (office_of r)) [ inl y ↦ y | inr y ↦ absurd (n y) ])
  holder (e ∷ h) x c r (inr b) = inr ((λ y. b.0 (y.0, inr y.1)), holder h x.1 c r b.1)

  card_small : (h : List Event) → Right bank h → (c o : ℕ) → Issued h c o → c ≤ 255
  card_small [] x c o s = absurd s
  card_small (e ∷ h) x c o (inl b) =
      let n = (passed bank (checks bank h e.strip (issue c o)) (λ a. a ≡ accepted) (accepted_as h e (issue c o) b.0 b.1 x.0)).0.0 in
      elim (cases_lt 255 c) [ inl k ↦ absurd (n k) | inr k ↦ k ]
  card_small (e ∷ h) x c o (inr b) = card_small h x.1 c o b.1

  fresh_card : (h : List Event) (e : Event) → Right bank (e ∷ h) → (c o o' : ℕ) → e.answer ≡ accepted → e.request ≡ issue c o → Issued h c o' → ⊥
  fresh_card h e x c o o' a i s = (passed bank (checks bank h e.strip (issue c o)) (λ a. a ≡ accepted) (accepted_as h e (issue c o) a i x.0)).0.1.1.0 (o', s)

  one_home : (h : List Event) → Right bank h → (c o o' : ℕ) → Issued h c o → Issued h c o' → o ≡ o'
  one_home [] x c o o' s t = absurd s
  one_home (e ∷ h) x c o o' (inl s) (inl t) = one_issue e.request c o o' s.1 t.1
  one_home (e ∷ h) x c o o' (inl s) (inr t) = absurd (fresh_card h e x c o o' s.0 s.1 t.1)
  one_home (e ∷ h) x c o o' (inr s) (inl t) = absurd (fresh_card h e x c o' o t.0 t.1 s.1)
  one_home (e ∷ h) x c o o' (inr s) (inr t) = one_home h x.1 c o o' s.1 t.1

  -- SUSPEND of a link that does not stand is refused, and WITHDRAW ends both
  suspended_stands : (h : List Event) → Right bank h → (l : Link) → Suspended h l → Standing h l
  suspended_stands [] x l s = absurd s
  suspended_stands (e ∷ h) x l (inl b) =
      let n = (passed bank (checks bank h e.strip (suspend l)) (λ a. a ≡ accepted) (accepted_as h e (suspend l) b.0 b.1 x.0)).0.0 in
      inr ((λ y. apart e.request b.1 y.1), elim (standing_known h l) [ inl y ↦ y | inr y ↦ absurd (n y) ])
    where
      apart : (q : Request) → q ≡ suspend l → q ≡ withdraw l → ⊥
      apart q i j = let z : ◌≡◌ {A = ℕ} 0 1 = cc in omega arith
  suspended_stands (e ∷ h) x l (inr b) = inr ((λ y. b.0 (y.0, inr y.1)), suspended_stands h x.1 l b.1)

  -- there was room for each link
  link_few : (n : ℕ) (h : List Event) (l : Link) → LinkAnswer bank h n l accepted → Many (Standing (accepting n (link l) h)) 257 → ⊥
  link_few n h l x m =
      (passed bank (linking bank h n l) (λ b. b ≡ accepted) x).0.1.1.1.1.1.0
      (many_less (Standing h) l 256 (many_more (Standing (accepting n (link l) h)) (λ k. (k ≡ l) ⊎ Standing h k) 257 (λ k. (one n h l k).0) m))

  sent_few : (n : ℕ) (ls : List Link) (h : List Event) → AllAccepted bank n h ls → (Many (Standing h) 257 → ⊥) → Many (Standing (sent n ls h)) 257 → ⊥
  sent_few n [] h x few m = few m
  sent_few n (l ∷ ls) h x few m = sent_few n ls (accepting n (link l) h) x.1 (link_few n h l x.0) m

  -- an event that enters no link
  no_more_links : (e : Event) (h : List Event) → (e.answer ≡ accepted → 2 < kind e.request) → (Many (Standing h) 257 → ⊥) → Many (Standing (e ∷ h)) 257 → ⊥
  no_more_links e h k few m = few (many_more (Standing (e ∷ h)) (Standing h) 257 (λ l s. elim s [
    | inl b ↦ (let z = k b.0 in elim b.1 [ inl i ↦ absurd (omega (arith, ap kind i)) | inr i ↦ absurd (omega (arith, ap kind i.1)) ])
    | inr b ↦ b.1
  ]) m)

  few_links : (h : List Event) → Right bank h → Many (Standing h) 257 → ⊥
  few_links [] x m = none m.0 m.2 m.3
    where
      none : (ls : List Link) → ((l : Link) → Memᴰ l ls → Standing [] l) → 257 ≤ length ls → ⊥
      none [] f k = omega arith
      none (l ∷ ls) f k = f l (Memᴰ.head refl)
  few_links (e ∷ h) x m = after e.request e.answer (few_links h x.1) x.0 m
    where
      after : (q : Request) (a : Answer) → (Many (Standing h) 257 → ⊥) → CalledFor bank h e.strip q a → Many (Standing (record { request = q; strip = e.strip; answer = a } ∷ h)) 257 → ⊥
      after (link l) accepted few y m = link_few e.strip h l y m
      after (box ls) accepted few y m =
          let same = alike_adds (Permᴰ.refl ls) (box_adds e.strip h ls) (sent_adds e.strip h ls) in
          sent_few e.strip ls h (box_lines bank e.strip h ls y) few (many_more (Standing (accepting e.strip (box ls) h)) (Standing (sent e.strip ls h)) 257 (λ l. (same.standing l).0) m)
      after (issue c o) accepted few y m = no_more_links (record { request = issue c o; strip = e.strip; answer = accepted }) h (λ a. omega arith) few m
      after (assign c r) accepted few y m = no_more_links (record { request = assign c r; strip = e.strip; answer = accepted }) h (λ a. omega arith) few m
      after (relieve c r) accepted few y m = no_more_links (record { request = relieve c r; strip = e.strip; answer = accepted }) h (λ a. omega arith) few m
      after (handback c) accepted few y m = no_more_links (record { request = handback c; strip = e.strip; answer = accepted }) h (λ a. omega arith) few m
      after (trust o p) accepted few y m = no_more_links (record { request = trust o p; strip = e.strip; answer = accepted }) h (λ a. omega arith) few m
      after (distrust o p) accepted few y m = no_more_links (record { request = distrust o p; strip = e.strip; answer = accepted }) h (λ a. omega arith) few m
      after (try l) accepted few y m = no_more_links (record { request = try l; strip = e.strip; answer = accepted }) h (λ a. omega arith) few m
      after (suspend l) accepted few y m = no_more_links (record { request = suspend l; strip = e.strip; answer = accepted }) h (λ a. omega arith) few m
      after (resume l) accepted few y m = no_more_links (record { request = resume l; strip = e.strip; answer = accepted }) h (λ a. omega arith) few m
      after (withdraw l) accepted few y m = no_more_links (record { request = withdraw l; strip = e.strip; answer = accepted }) h (λ a. omega arith) few m
      after (may c r) accepted few y m = no_more_links (record { request = may c r; strip = e.strip; answer = accepted }) h (λ a. omega arith) few m
      after q (refused why) few y m = no_more_links (record { request = q; strip = e.strip; answer = refused why }) h (λ i. let z : ◌≡◌ {A = ℕ} 0 1 = cc in absurd (omega arith)) few m
      after q (refused_at i why) few y m = no_more_links (record { request = q; strip = e.strip; answer = refused_at i why }) h (λ i. let z : ◌≡◌ {A = ℕ} 0 1 = cc in absurd (omega arith)) few m
      after q (granted xs) few y m = no_more_links (record { request = q; strip = e.strip; answer = granted xs }) h (λ i. let z : ◌≡◌ {A = ℕ} 0 1 = cc in absurd (omega arith)) few m
      after q denied few y m = no_more_links (record { request = q; strip = e.strip; answer = denied }) h (λ i. let z : ◌≡◌ {A = ℕ} 0 1 = cc in absurd (omega arith)) few m

pub all_kept : AllKept
all_kept bank h x = record {
  cards = card_small bank h x;
  homes = one_home bank h x;
  holdings = λ c r s. (holder bank h x c r s, holds_role bank h x c r s);
  ends = λ l s. (let k = standing_linkable bank h x l s in (k.from, k.to, k.apart));
  shared = λ l s. (standing_linkable bank h x l s).shared;
  suspended = suspended_stands bank h x;
  few = few_links bank h x;
}

-- a named refusal is drawn by a check of that name
abbrev Ground : List Check → Refusal → Type 0
Ground [] r = ⊥
Ground ((r' when P) ∷ cs) r = ((r ≡ r') × P) ⊎ Ground cs r
Ground (unless_sound s ∷ cs) r = Ground cs r

ground : (bank : List OfficeModel) (cs : List Check) (r : Refusal) → FirstRefusal bank cs (λ b. b ≡ accepted) (refused (plain r)) → Ground cs r
ground bank [] r x = let z : ◌≡◌ {A = ℕ} 0 1 = cc in absurd (omega arith)
ground bank ((r' when P) ∷ cs) r (inl x) = let e = x.1.1 in let f = x.1.2 in inl (cc, x.0)
ground bank ((r' when P) ∷ cs) r (inr x) = inr (ground bank cs r x.1)
ground bank (unless_sound s ∷ cs) r (inl x) = let e = x.1.1.3 in let f = x.1.2 in let z : ◌≡◌ {A = ℕ} 0 1 = cc in absurd (omega arith)
ground bank (unless_sound s ∷ cs) r (inr x) = ground bank cs r x.1

pub full_at_256 : FullAt256
full_at_256 bank h n l x = pick (ground bank (linking bank h n l) LinksFull x)
  where
    pick : Ground (linking bank h n l) LinksFull → Many (Standing h) 256
    pick (inl y) = absurd (omega (arith, ap number_of y.0))
    pick (inr (inl y)) = absurd (omega (arith, ap number_of y.0))
    pick (inr (inr (inl y))) = absurd (omega (arith, ap number_of y.0))
    pick (inr (inr (inr (inl y)))) = absurd (omega (arith, ap number_of y.0))
    pick (inr (inr (inr (inr (inl y))))) = absurd (omega (arith, ap number_of y.0))
    pick (inr (inr (inr (inr (inr (inl y)))))) = y.1
    pick (inr (inr (inr (inr (inr (inr y)))))) = absurd y
