-- A chain that is called for fits on the strip.
use Rattle.std.proofs.Common.{◌≡◌, ℕ, suc, ◌<◌, ◌≤◌, List, [], ◌∷◌, length, sym, ap, ◌∙◌, subst, inl, inr, arith}
use mathlib.Core.List.Memᴰ
use mathlib.Core.List.{Memᴰ}
use Rattle.answers.specs.declared.Refusal.{Refusal}
use Rattle.search.specs.Chains.{Chain, alone, onward, Best}
use Rattle.offices.specs.Model.{OfficeModel}
use Rattle.law.specs.Roles.{LawfulBank, IsRole}
use Rattle.law.specs.Counting.{AllDiffer}
use Rattle.law.specs.Sound.{Link, Scene, Step}
use Rattle.law.specs.Findings.{Finding, breaks_hierarchy, breaks_exclusion, breaks_exposure, Finds}
use Rattle.law.specs.Requests.{Request, Answer, Reason, accepted, refused, refused_at, denied, plain, unsound, chain_of, issue, assign, relieve, handback, trust, distrust, link, try, box, suspend, resume, withdraw, may}
use Rattle.law.specs.Histories.{Event, accepting, Holds, InForce, scene}
use Rattle.law.specs.Checks.{Check, FirstRefusal}
use Rattle.law.specs.Right.{LinkAnswer, LinesAnswer, MayAnswer, CalledFor, Right}
use Rattle.law.specs.Promises.{NoneRefuses, earlier, ChainFits}
use Rattle.law.proofs.Scenes.{over_roles, role_heard}
use Rattle.law.proofs.Counts.{upto, in_upto, length_upto, no_more}
use Rattle.law.proofs.Changes.{standing_still, held_still}
use Rattle.law.proofs.Alikes.{link_adds, one}
use Rattle.law.proofs.Sixteen.{Ends, last, more, Named, done, also, link_ends, assign_ends, distrust_ends}
use Rattle.law.proofs.Kept.{role_stable, standing_linkable, holds_role}

-- a shortest chain meets no node twice
suffix : {G : ℕ → ℕ → Type 0} {a c : ℕ} {xs : List ℕ} → Chain G a c xs → (x : ℕ) → Memᴰ x xs → (ys : List ℕ) × Chain G x c ys × (length ys ≤ length xs)
suffix {G} {a} alone x m = elim (Memᴰ.cases_cons m) [ inl e ↦ (a ∷ [], subst (λ z. Chain G z a (a ∷ [])) (sym e) alone, omega arith) | inr k ↦ absurd (Memᴰ.not-nil k) ]
suffix {G} {a} {c} (onward {xs = xs} s k) x m = elim (Memᴰ.cases_cons m) [ inl e ↦ (a ∷ xs, subst (λ z. Chain G z c (a ∷ xs)) (sym e) (onward s k), omega arith) | inr i ↦ (let r = suffix k x i in let l = r.2 in (r.0, r.1, omega arith)) ]

shortest_differ : {G : ℕ → ℕ → Type 0} {a c : ℕ} {xs : List ℕ} → Chain G a c xs → ((ys : List ℕ) → Chain G a c ys → length xs ≤ length ys) → AllDiffer xs
shortest_differ alone f = (Memᴰ.not-nil, tt)
shortest_differ {a = a} (onward {xs = xs} s k) f = (
  (λ m. let r = suffix k a m in let l = f r.0 r.1 in let i = r.2 in omega arith),
  shortest_differ k (λ ys j. let l = f (a ∷ ys) (onward s j) in omega arith),
)

chain_roles : (P : ℕ → Type 0) {G : ℕ → ℕ → Type 0} → ((a b : ℕ) → G a b → P b) → {a c : ℕ} {xs : List ℕ} → P a → Chain G a c xs → (x : ℕ) → Memᴰ x xs → P x
chain_roles P f {a} r alone x m = elim (Memᴰ.cases_cons m) [ inl e ↦ subst P (sym e) r | inr k ↦ absurd (Memᴰ.not-nil k) ]
chain_roles P f {a} r (onward {b = b} s k) x m = elim (Memᴰ.cases_cons m) [ inl e ↦ subst P (sym e) r | inr i ↦ chain_roles P f (f a b s) k x i ]

module _ (bank : List OfficeModel) (lawful : LawfulBank bank) where
  best_fits : (linked : Link → Type 0) (S : ℕ → Type 0) → ((p : Link) → linked p → IsRole bank p.to) → ((a : ℕ) → S a → IsRole bank a) → {c : ℕ} {xs : List ℕ} → Best (Step bank linked) S c xs → length xs ≤ 1024
  best_fits linked S f g {xs = xs} x =
      let d = shortest_differ x.leads (λ ys k. x.shortest x.from ys x.starts k) in
      let l = no_more xs (upto 1024) d (λ y m. in_upto 1024 y (small y (chain_roles (IsRole bank) step (g x.from x.starts) x.leads y m))) in
      omega (arith, length_upto 1024)
    where
      step : (a b : ℕ) → Step bank linked a b → IsRole bank b
      step a b (inl s) = (over_roles bank lawful a b s.1).1
      step a b (inr l) = f _ l

      small : (y : ℕ) → IsRole bank y → y < 1024
      small y r = let h = role_heard bank y r in let k = lawful.heard in omega arith

  finds_fits : (s : Scene) → ((p : Link) → s.linked p → IsRole bank p.to) → ((c a : ℕ) → s.held c a → IsRole bank a) → (g : Finding) (xs : List ℕ) → Finds bank s g xs → length xs ≤ 1024
  finds_fits s f k (breaks_hierarchy a b) xs x = best_fits s.linked (λ z. z ≡ a) f (λ z e. subst (IsRole bank) (sym e) x.0.0.0) x.1
  finds_fits s f k (breaks_exclusion o i c ms) xs x = best_fits s.linked (s.held c) f (k c) x.1.best
  finds_fits s f k (breaks_exposure o i ms) xs x = best_fits s.linked _ f (λ a y. y.0) x.1.best

assigned : (c r c' b : ℕ) → assign c r ≡ assign c' b → r ≡ b
assigned c r c' b e = cc

module _ (bank : List OfficeModel) (lawful : LawfulBank bank) (n : ℕ) where
  no_more_than : (a b : Answer) → a ≡ b → length (chain_of b) ≤ n → length (chain_of a) ≤ n
  no_more_than a b e h = subst (λ z. length (chain_of z) ≤ n) (sym e) h

  -- a named check has no chain
  named_fits : {r : Refusal} (a : Answer) (why : Reason) → why ≡ plain r → a ≡ refused why → length (chain_of a) ≤ n
  named_fits {r} a why i j = no_more_than a (refused (plain r)) (j ∙ ap refused i) (omega arith)

  plain_fits : {cs : List Check} (Else : Answer → Type 0) (a : Answer) → Named cs → (Else a → length (chain_of a) ≤ n) → FirstRefusal bank cs Else a → length (chain_of a) ≤ n
  plain_fits Else a done f x = f x
  plain_fits Else a (also o r) f (inl x) = named_fits a x.1.0 x.1.1 x.1.2
  plain_fits Else a (also o r) f (inr x) = plain_fits Else a r f x.1

  ends_fits : {s : Scene} {cs : List Check} (a : Answer) → Ends s cs → (NoneRefuses bank (earlier cs) → (g : Finding) (xs : List ℕ) → Finds bank s g xs → length xs ≤ n) → FirstRefusal bank cs (λ b. b ≡ accepted) a → length (chain_of a) ≤ n
  ends_fits a last f (inl x) = let y = x.1.1 in no_more_than a (refused (unsound y.0 y.1)) (x.1.2 ∙ ap refused y.3) (f tt y.0 y.1 y.2)
  ends_fits a last f (inr x) = no_more_than a accepted x.1 (omega arith)
  ends_fits a (more o r) f (inl x) = named_fits a x.1.0 x.1.1 x.1.2
  ends_fits a (more o r) f (inr x) = ends_fits a r (λ p. f (x.0, p)) x.1

  link_fits : (h : List Event) → Right bank h → (p : Link) (a : Answer) → LinkAnswer bank h n p a → length (chain_of a) ≤ n
  link_fits h right p a x = ends_fits a (link_ends bank h n p) (λ pass g xs k.
      let long = pass.0 in
      let l = finds_fits bank lawful (scene (accepting n (link p) h))
      (λ q s. elim ((one n h p q).0 s) [ inl e ↦ subst (λ z. IsRole bank z.to) (sym e) (role_stable bank p.to (λ r. pass.1.0 (inr r))) | inr t ↦ (standing_linkable bank h right q t).to ])
      (λ c b s. holds_role bank h right c b (((link_adds n h p).held c b).0 s)) g xs k in
      omega arith) x

  lines_fits : (ls : List Link) (h : List Event) → Right bank h → (i : ℕ) (a : Answer) → LinesAnswer bank n h i ls a → length (chain_of a) ≤ n
  lines_fits [] h right i a x = no_more_than a accepted x (omega arith)
  lines_fits (l ∷ ls) h right i a (inl x) = no_more_than a (refused_at i x.0) x.2 (link_fits h right l (refused x.0) x.1)
  lines_fits (l ∷ ls) h right i a (inr x) = lines_fits ls (accepting n (link l) h) (x.0, right) (suc i) a x.1

  may_fits : (h : List Event) → Right bank h → (1024 ≤ n) → (c r : ℕ) (a : Answer) → MayAnswer bank h c r a → length (chain_of a) ≤ n
  may_fits h right long c r a (inl x) =
      let l = best_fits bank lawful (InForce h) (Holds h c) (λ p y. (standing_linkable bank h right p y.0).to) (holds_role bank h right c) x.1 in
      no_more_than a _ x.2 (omega arith)
  may_fits h right long c r a (inr x) = no_more_than a denied x.1 (omega arith)

  fits : (h : List Event) → Right bank h → (q : Request) (a : Answer) → CalledFor bank h n q a → length (chain_of a) ≤ n
  fits h right (issue c o) a x = plain_fits (λ b. b ≡ accepted) a (also (λ e. omega arith) (also (λ e. omega arith) (also (λ e. omega arith) done))) (λ e. no_more_than a accepted e (omega arith)) x
  fits h right (relieve c r) a x = plain_fits (λ b. b ≡ accepted) a (also (λ e. omega arith) (also (λ e. omega arith) (also (λ e. omega arith) (also (λ e. omega arith) (also (λ e. omega arith) done))))) (λ e. no_more_than a accepted e (omega arith)) x
  fits h right (handback c) a x = plain_fits (λ b. b ≡ accepted) a (also (λ e. omega arith) (also (λ e. omega arith) done)) (λ e. no_more_than a accepted e (omega arith)) x
  fits h right (trust o p) a x = plain_fits (λ b. b ≡ accepted) a (also (λ e. omega arith) done) (λ e. no_more_than a accepted e (omega arith)) x
  fits h right (suspend p) a x = plain_fits (λ b. b ≡ accepted) a (also (λ e. omega arith) (also (λ e. omega arith) done)) (λ e. no_more_than a accepted e (omega arith)) x
  fits h right (resume p) a x = plain_fits (λ b. b ≡ accepted) a (also (λ e. omega arith) (also (λ e. omega arith) done)) (λ e. no_more_than a accepted e (omega arith)) x
  fits h right (withdraw p) a x = plain_fits (λ b. b ≡ accepted) a (also (λ e. omega arith) done) (λ e. no_more_than a accepted e (omega arith)) x
  fits h right (link p) a x = link_fits h right p a x
  fits h right (try p) a x = link_fits h right p a x
  fits h right (box []) a x = no_more_than a accepted x (omega arith)
  fits h right (box (l ∷ ls)) a x = plain_fits (LinesAnswer bank n h 0 (l ∷ ls)) a (also (λ e. omega arith) done) (lines_fits (l ∷ ls) h right 0 a) x
  fits h right (may c r) a (inl x) = named_fits a x.1.0 x.1.1 x.1.2
  fits h right (may c r) a (inr x) = let short = x.0 in plain_fits (MayAnswer bank h c r) a (also (λ e. omega arith) (also (λ e. omega arith) (also (λ e. omega arith) done))) (may_fits h right (omega arith) c r a) x.1
  fits h right (assign c r) a x =
      let e : Event = record { request = assign c r; strip = n; answer = accepted } in
      ends_fits a (assign_ends bank h n c r) (λ pass g xs k.
      let long = pass.0 in
      let l = finds_fits bank lawful (scene (accepting n (assign c r) h)) (λ q s. (standing_linkable bank h right q ((standing_still e h (λ a. ((λ i. omega arith), (λ i. omega arith), λ i. omega arith)) q).0 s)).to)
      (λ c' b s. elim s [
        | inl y ↦ subst (IsRole bank) (assigned c r c' b y.1) (role_stable bank r pass.1.1.1.0)
        | inr y ↦ holds_role bank h right c' b y.1
      ]) g xs k in
      omega arith) x
  fits h right (distrust o p) a x =
      let e : Event = record { request = distrust o p; strip = n; answer = accepted } in
      ends_fits a (distrust_ends bank h n o p) (λ pass g xs k.
      let long = pass.0 in
      let l = finds_fits bank lawful (scene (accepting n (distrust o p) h))
      (λ q s. (standing_linkable bank h right q ((standing_still e h (λ a. ((λ i. omega arith), (λ i. omega arith), λ i. omega arith)) q).0 s)).to)
      (λ c b s. holds_role bank h right c b ((held_still e h (λ a. ((λ i. omega arith), (λ i. omega arith), λ i. omega arith)) c b).0 s)) g xs k in
      omega arith) x

pub chain_fits : ChainFits
chain_fits bank h n q a lawful right x = fits bank lawful n h right q a x
