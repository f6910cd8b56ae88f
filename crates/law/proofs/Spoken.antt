-- What a short history says, in lists, and the answers that are checked over them by computing.
use Rattle.std.proofs.Common.{◌≡◌, ℕ, ◌<◌, Bool, true, not, ◌&&◌, eqb, ltb, leb, List, [], ◌∷◌, length, refl, ap, inl, inr, arith}
use mathlib.Core.List.Memᴰ
use mathlib.Core.Logic.Iff
use Rattle.std.proofs.lemmas.Bool.{and_parts, eqb-false, ltb-true, leb-true, not-true, both_ways}
use Rattle.offices.specs.Model.{OfficeModel}
use Rattle.banks.specs.Banks.{office_at}
use Rattle.banks.specs.Codes.{office_of, role_of}
use Rattle.law.specs.Roles.{LawfulBank}
use Rattle.law.specs.Sound.{Link, Scene, Sound}
use Rattle.law.specs.Findings.{Finding, Finds}
use Rattle.law.specs.Requests.{Answer, accepted, refused, unsound, assign, trust, link}
use Rattle.law.specs.Histories.{Event, accepting, scene}
use Rattle.law.specs.Checks.{Check, FirstRefusal, linking}
use Rattle.law.specs.Examples.{among}
use Rattle.law.specs.Promises.{NoneRefuses, earlier}
use Rattle.law.proofs.Counts.{no_more}
use Rattle.law.proofs.Changes.{kind, standing_still, held_still, trusted_still}
use Rattle.law.proofs.Alikes.{link_adds}
use Rattle.law.proofs.Sixteen.{Ends, last, more}
use Rattle.law.proofs.Closures.{in_among}
use Rattle.law.proofs.Judging.{Facts, Shown, targets, in_targets, is_role, role_is, found_unsound}

abbrev pub no_facts : Facts
no_facts = record { links = []; cards = []; trust = [] }

pub shown_new : Shown (scene []) no_facts
shown_new = record {
  linked = λ p. ((λ s. absurd s), Memᴰ.not-nil);
  held = λ c r. ((λ s. absurd s), Memᴰ.not-nil);
  trusted = λ o p. ((λ t. elim t [ inl e ↦ inl e | inr s ↦ absurd s ]), λ t. elim t [ inl e ↦ inl e | inr m ↦ absurd (Memᴰ.not-nil m) ]);
}

abbrev pub with_link : Link → Facts → Facts
with_link l f = record { links = l ∷ f.links; cards = f.cards; trust = f.trust }

pub shown_link : (h : List Event) {f : Facts} (n : ℕ) (l : Link) → Shown (scene h) f → Shown (scene (accepting n (link l) h)) (with_link l f)
shown_link h {f} n l x =
    let y = link_adds n h l in
    record {
      linked = λ p. (
        (λ s. elim ((y.standing p).0 s) [ inl m ↦ Memᴰ.append_left f.links m | inr t ↦ Memᴰ.tail ((x.linked p).0 t) ]),
        λ m. (y.standing p).1 (elim (Memᴰ.cases_cons m) [ inl e ↦ inl (Memᴰ.head e) | inr k ↦ inr ((x.linked p).1 k) ]),
      );
      held = λ c r. Iff.trans (y.held c r) (x.held c r);
      trusted = λ o p. Iff.trans (y.trusted o p) (x.trusted o p);
    }

-- an event that leaves the scene as it was
pub shown_quiet : (e : Event) (h : List Event) {f : Facts} → (e.answer ≡ accepted → 8 < kind e.request) → Shown (scene h) f → Shown (scene (e ∷ h)) f
shown_quiet e h k x = record {
  linked = λ p. Iff.trans (standing_still e h (λ a. let z = k a in ((λ i. omega arith), (λ i. omega arith), λ i. omega arith)) p) (x.linked p);
  held = λ c r. Iff.trans (held_still e h (λ a. let z = k a in ((λ i. omega arith), (λ i. omega arith), λ i. omega arith)) c r) (x.held c r);
  trusted = λ o p. Iff.trans (trusted_still e h (λ a. let z = k a in ((λ i. omega arith), λ i. omega arith)) o p) (x.trusted o p);
}

abbrev pub with_card : ℕ → ℕ → Facts → Facts
with_card c r f = record { links = f.links; cards = record { from = c; to = r } ∷ f.cards; trust = f.trust }

pub shown_assign : (h : List Event) {f : Facts} (n c r : ℕ) → Shown (scene h) f → Shown (scene (accepting n (assign c r) h)) (with_card c r f)
shown_assign h n c r x =
    let e : Event = record { request = assign c r; strip = n; answer = accepted } in
    record {
      linked = λ p. Iff.trans (standing_still e h (λ a. ((λ i. omega arith), (λ i. omega arith), λ i. omega arith)) p) (x.linked p);
      held = λ c' r'. (
        (λ s. elim s [ inl b ↦ (let i = b.1 in let j : c' ≡ c = cc in let k : r' ≡ r = cc in Memᴰ.head (λ t. record { from = j t; to = k t })) | inr b ↦ Memᴰ.tail ((x.held c' r').0 b.1) ]),
        λ m. elim (Memᴰ.cases_cons m) [
          | inl i ↦ (let j = ap (λ (y : Link). y.from) i in let k = ap (λ (y : Link). y.to) i in inl (refl, cc))
          | inr k ↦ inr ((λ b. elim b.1 [ inl i ↦ (let z = ap kind i in omega arith) | inr i ↦ (let z = ap kind i in omega arith) ]), (x.held c' r').1 k)
        ],
      );
      trusted = λ o p. Iff.trans (trusted_still e h (λ a. ((λ i. omega arith), λ i. omega arith)) o p) (x.trusted o p);
    }

abbrev pub with_trust : ℕ → ℕ → Facts → Facts
with_trust o p f = record { links = f.links; cards = f.cards; trust = record { from = o; to = p } ∷ f.trust }

pub shown_trust : (h : List Event) {f : Facts} (n o p : ℕ) → Shown (scene h) f → Shown (scene (accepting n (trust o p) h)) (with_trust o p f)
shown_trust h n o p x =
    let e : Event = record { request = trust o p; strip = n; answer = accepted } in
    record {
      linked = λ q. Iff.trans (standing_still e h (λ a. ((λ i. omega arith), (λ i. omega arith), λ i. omega arith)) q) (x.linked q);
      held = λ c r. Iff.trans (held_still e h (λ a. ((λ i. omega arith), (λ i. omega arith), λ i. omega arith)) c r) (x.held c r);
      trusted = λ o' p'. (
        (λ s. elim s [
          | inl i ↦ inl i
          | inr y ↦ elim y [
            | inl b ↦ (let i = b.1 in let j : o' ≡ o = cc in let k : p' ≡ p = cc in inr (Memᴰ.head (λ t. record { from = j t; to = k t })))
            | inr b ↦ elim ((x.trusted o' p').0 (inr b.1)) [ inl i ↦ inl i | inr m ↦ inr (Memᴰ.tail m) ]
          ]
        ]),
        λ s. elim s [
          | inl i ↦ inl i
          | inr m ↦ elim (Memᴰ.cases_cons m) [
            | inl i ↦ (let j = ap (λ (y : Link). y.from) i in let k = ap (λ (y : Link). y.to) i in inr (inl (refl, cc)))
            | inr k ↦ elim ((x.trusted o' p').1 (inr k)) [ inl i ↦ inl i | inr y ↦ inr (inr ((λ b. let z = ap kind b.1 in omega arith), y)) ]
          ]
        ],
      );
    }

-- no check before the 16 refuses the LINK
abbrev pub linkable : List OfficeModel → Facts → ℕ → Link → Bool
linkable bank f n p = leb 1024 n && ((is_role bank p.from && is_role bank p.to) && (not (eqb (office_of p.from) (office_of p.to))
    && ((office_at bank (office_of p.to)).shared (role_of p.to) && (not (among p.to (targets p.from f.links)) && ltb (length f.links) 256))))

module _ (bank : List OfficeModel) where
  -- with the 16 last: accepted if sound, and else refused with the finding
  pub accepted_by : {s : Scene} {cs : List Check} → Ends s cs → NoneRefuses bank (earlier cs) → Sound bank s → FirstRefusal bank cs (λ b. b ≡ accepted) accepted
  accepted_by last p k = inr ((λ u. u k), refl)
  accepted_by (more o r) p k = inr (p.0, accepted_by r p.1 k)

  pub refused_by : {s : Scene} {cs : List Check} (Else : Answer → Type 0) (g : Finding) (xs : List ℕ) → Ends s cs → NoneRefuses bank (earlier cs) → Finds bank s g xs → FirstRefusal bank cs Else (refused (unsound g xs))
  refused_by {s} Else g xs last p k = inl (found_unsound bank s g xs k, (unsound g xs, (g, xs, k, refl), refl))
  refused_by Else g xs (more o r) p k = inr (p.0, refused_by Else g xs r p.1 k)

  module _ (lawful : LawfulBank bank) (h : List Event) (f : Facts) (shown : Shown (scene h) f) where
    pub linkable_by : (n : ℕ) (p : Link) → linkable bank f n p ≡ true → NoneRefuses bank (earlier (linking bank h n p))
    linkable_by n p e =
        let a = and_parts (leb 1024 n) _ e in
        let b = and_parts (is_role bank p.from && is_role bank p.to) _ a.1 in
        let b' = and_parts (is_role bank p.from) _ b.0 in
        let c = and_parts (not (eqb (office_of p.from) (office_of p.to))) _ b.1 in
        let d = and_parts ((office_at bank (office_of p.to)).shared (role_of p.to)) _ c.1 in
        let g = and_parts (not (among p.to (targets p.from f.links))) _ d.1 in
        let long = leb-true 1024 n a.0 in
        let room = ltb-true (length f.links) 256 g.1 in (
          (λ i. omega arith),
          (
            (λ i. elim i [ inl j ↦ j (role_is bank lawful p.from b'.0) | inr j ↦ j (role_is bank lawful p.to b'.1) ]),
            (
              eqb-false (office_of p.from) (office_of p.to) (not-true _ c.0),
              (
                (λ i. both_ways _ i d.0),
                (
                  (λ i. both_ways _ (not-true _ g.0) (in_among p.to (targets p.from f.links) (in_targets p.from p.to f.links ((shown.linked p).0 i)))),
                  (
                    (λ m. let l = no_more m.0 f.links m.1 (λ q i. (shown.linked q).0 (m.2 q i)) in let k = m.3 in omega arith),
                    tt,
                  ),
                ),
              ),
            ),
          ),
        )
