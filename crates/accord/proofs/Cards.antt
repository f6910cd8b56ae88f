-- Accepted requests of the card room and about trust keep tables and history in accord.
use Rattle.std.proofs.Common.{◌≡◌, ℕ, true, false, cond, eqb, ◌↔◌, List, Some, None, sym, refl, ap, ◌∙◌, subst, inl, inr}
use mathlib.Core.Logic.Iff
use Rattle.std.proofs.lemmas.Bool.{cases_eq, both_ways}
use Rattle.banks.specs.Codes.{office_of, role_of}
use Rattle.law.specs.Requests.{Request, issue, assign, relieve, handback, trust, distrust}
use Rattle.law.specs.Histories.{Event, accepting, Issued, Holds, Trusts}
use Rattle.accord.specs.Tables.{Tables, Holding, Trusting}
use Rattle.accord.specs.Agree.{Agree}
use Rattle.accord.specs.Settling.{carded, holding, trusting}
use Rattle.accord.proofs.Still.{homes_still, holdings_still, trust_still, recorded_still, resting_still}
use Rattle.accord.proofs.Choosing.{some_one, some_none, at_it, at_other, at_pair, off_pair, pair_known, code_one}

same_issue : (c o c' o' : ℕ) → issue c o ≡ issue c' o' → (c ≡ c') × (o ≡ o')
same_issue c o c' o' e = (cc, cc)

same_assign : (c r c' r' : ℕ) → assign c r ≡ assign c' r' → (c ≡ c') × (r ≡ r')
same_assign c r c' r' e = (cc, cc)

same_relieve : (c r c' r' : ℕ) → relieve c r ≡ relieve c' r' → (c ≡ c') × (r ≡ r')
same_relieve c r c' r' e = (cc, cc)

same_trust : (o p o' p' : ℕ) → trust o p ≡ trust o' p' → (o ≡ o') × (p ≡ p')
same_trust o p o' p' e = (cc, cc)

same_distrust : (o p o' p' : ℕ) → distrust o p ≡ distrust o' p' → (o ≡ o') × (p ≡ p')
same_distrust o p o' p' e = (cc, cc)

module _ (t : Tables) (h : List Event) (n : ℕ) (a : Agree t h) where
  module _ (c o : ℕ) (new : (p : ℕ) → t.home c ≡ Some p → ⊥) where
    issued_to : (c' o' : ℕ) → Issued (accepting n (issue c o) h) c' o' → cond (eqb c' c) (Some o) (t.home c') ≡ Some o'
    issued_to c' o' (inl b) = let e = same_issue c o c' o' b.1 in at_it c' c (Some o) (t.home c') (sym e.0) ∙ ap Some e.1
    issued_to c' o' (inr b) = let k = (a.homes c' o').0 b.1 in elim (cases_eq c' c) [
      | inl e ↦ absurd (new o' (subst (λ x. t.home x ≡ Some o') e k))
      | inr d ↦ at_other c' c (Some o) (t.home c') d ∙ k
    ]

    to_issued : (c' o' : ℕ) → cond (eqb c' c) (Some o) (t.home c') ≡ Some o' → Issued (accepting n (issue c o) h) c' o'
    to_issued c' o' k = elim (cases_eq c' c) [
      | inl e ↦ (let f = some_one o o' (sym (at_it c' c (Some o) (t.home c') e) ∙ k) in inl (refl, cc))
      | inr d ↦ inr ((λ b. (let same = b.1 in cc)), (a.homes c' o').1 (sym (at_other c' c (Some o) (t.home c') d) ∙ k))
    ]

    pub agree_issue : Agree (carded t c (Some o)) (accepting n (issue c o) h)
    agree_issue =
        let q : Request = issue c o in
        record {
          homes = λ c' o'. (issued_to c' o', to_issued c' o');
          holdings = λ c' r. Iff.trans (holdings_still n a q refl c' r) (keeps c' r);
          trust = trust_still n a q refl;
          standing = recorded_still n a q refl;
          suspended = resting_still n a q refl;
          apart = a.apart;
        }
      where
        keeps : (c' r : ℕ) → Holding t c' r ↔ Holding (carded t c (Some o)) c' r
        keeps c' r = elim (cases_eq c' c) [
          | inl e ↦ (
            (λ x. absurd (new (office_of r) (subst (λ z. t.home z ≡ Some (office_of r)) e x.0))),
            λ x. absurd (both_ways _ (at_it c' c false (t.held c' (role_of r)) e) x.1),
          )
          | inr d ↦ (
            (λ x. (at_other c' c (Some o) (t.home c') d ∙ x.0, at_other c' c false (t.held c' (role_of r)) d ∙ x.1)),
            λ x. (sym (at_other c' c (Some o) (t.home c') d) ∙ x.0, sym (at_other c' c false (t.held c' (role_of r)) d) ∙ x.1),
          )
        ]

  pub agree_handback : (c : ℕ) → Agree (carded t c None) (accepting n (handback c) h)
  agree_handback c =
      let q : Request = handback c in
      record {
        homes = λ c' o. (issued c' o, to_issued c' o);
        holdings = λ c' r. (held c' r, to_held c' r);
        trust = trust_still n a q refl;
        standing = recorded_still n a q refl;
        suspended = resting_still n a q refl;
        apart = a.apart;
      }
    where
      issued : (c' o : ℕ) → Issued (accepting n (handback c) h) c' o → cond (eqb c' c) None (t.home c') ≡ Some o
      issued c' o (inl b) = absurd (let same = b.1 in cc)
      issued c' o (inr b) = elim (cases_eq c' c) [
        | inl e ↦ absurd (b.0 (refl, cc))
        | inr d ↦ at_other c' c None (t.home c') d ∙ (a.homes c' o).0 b.1
      ]

      to_issued : (c' o : ℕ) → cond (eqb c' c) None (t.home c') ≡ Some o → Issued (accepting n (handback c) h) c' o
      to_issued c' o k = elim (cases_eq c' c) [
        | inl e ↦ absurd (some_none _ o (at_it c' c None (t.home c') e) k)
        | inr d ↦ inr ((λ b. d (let i = b.1 in cc)), (a.homes c' o).1 (sym (at_other c' c None (t.home c') d) ∙ k))
      ]

      held : (c' r : ℕ) → Holds (accepting n (handback c) h) c' r → Holding (carded t c None) c' r
      held c' r (inl b) = absurd (let same = b.1 in cc)
      held c' r (inr b) = let x = (a.holdings c' r).0 b.1 in elim (cases_eq c' c) [
        | inl e ↦ absurd (b.0 (refl, inr (cc)))
        | inr d ↦ (at_other c' c None (t.home c') d ∙ x.0, at_other c' c false (t.held c' (role_of r)) d ∙ x.1)
      ]

      to_held : (c' r : ℕ) → Holding (carded t c None) c' r → Holds (accepting n (handback c) h) c' r
      to_held c' r x = elim (cases_eq c' c) [
        | inl e ↦ absurd (some_none _ (office_of r) (at_it c' c None (t.home c') e) x.0)
        | inr d ↦ inr (
          (λ b. elim b.1 [ inl i ↦ (let same = i in cc) | inr i ↦ d (cc) ]),
          (a.holdings c' r).1 (sym (at_other c' c None (t.home c') d) ∙ x.0, sym (at_other c' c false (t.held c' (role_of r)) d) ∙ x.1),
        )
      ]

  module _ (c r : ℕ) (home : t.home c ≡ Some (office_of r)) where
    -- of one card's roles the one with this number
    only : (c' r' : ℕ) → t.home c' ≡ Some (office_of r') → (c' ≡ c) × (role_of r' ≡ role_of r) → r' ≡ r
    only c' r' k x = code_one r' r (some_one _ _ (sym k ∙ ap t.home x.0 ∙ home)) x.1

    pub agree_assign : Agree (holding t c (role_of r) true) (accepting n (assign c r) h)
    agree_assign =
        let q : Request = assign c r in
        record {
          homes = homes_still n a q refl;
          holdings = λ c' r'. (held c' r', to_held c' r');
          trust = trust_still n a q refl;
          standing = recorded_still n a q refl;
          suspended = resting_still n a q refl;
          apart = a.apart;
        }
      where
        held : (c' r' : ℕ) → Holds (accepting n (assign c r) h) c' r' → Holding (holding t c (role_of r) true) c' r'
        held c' r' (inl b) =
            let e = same_assign c r c' r' b.1 in
            let f = e.0 in let g = e.1 in
            (subst (λ z. t.home z ≡ Some (office_of r')) f (home ∙ ap (λ z. Some (office_of z)) g), at_pair c' (role_of r') c (role_of r) true _ (sym f) (ap role_of (sym g)))
        held c' r' (inr b) = let x = (a.holdings c' r').0 b.1 in (
          x.0,
          elim (pair_known c' (role_of r') c (role_of r)) [
            | inl y ↦ at_pair c' (role_of r') c (role_of r) true _ y.0 y.1
            | inr d ↦ off_pair c' (role_of r') c (role_of r) true _ d ∙ x.1
          ],
        )

        to_held : (c' r' : ℕ) → Holding (holding t c (role_of r) true) c' r' → Holds (accepting n (assign c r) h) c' r'
        to_held c' r' x = elim (pair_known c' (role_of r') c (role_of r)) [
          | inl y ↦ (let f = only c' r' x.0 y in let g = y.0 in inl (refl, cc))
          | inr d ↦ inr (
            (λ b. elim b.1 [ inl i ↦ (let same = i in cc) | inr i ↦ (let same = i in cc) ]),
            (a.holdings c' r').1 (x.0, sym (off_pair c' (role_of r') c (role_of r) true _ d) ∙ x.1),
          )
        ]

    pub agree_relieve : Agree (holding t c (role_of r) false) (accepting n (relieve c r) h)
    agree_relieve =
        let q : Request = relieve c r in
        record {
          homes = homes_still n a q refl;
          holdings = λ c' r'. (held c' r', to_held c' r');
          trust = trust_still n a q refl;
          standing = recorded_still n a q refl;
          suspended = resting_still n a q refl;
          apart = a.apart;
        }
      where
        held : (c' r' : ℕ) → Holds (accepting n (relieve c r) h) c' r' → Holding (holding t c (role_of r) false) c' r'
        held c' r' (inl b) = absurd (let same = b.1 in cc)
        held c' r' (inr b) = let x = (a.holdings c' r').0 b.1 in elim (pair_known c' (role_of r') c (role_of r)) [
          | inl y ↦ (let f = only c' r' x.0 y in let g = y.0 in absurd (b.0 (refl, inl (cc))))
          | inr d ↦ (x.0, off_pair c' (role_of r') c (role_of r) false _ d ∙ x.1)
        ]

        to_held : (c' r' : ℕ) → Holding (holding t c (role_of r) false) c' r' → Holds (accepting n (relieve c r) h) c' r'
        to_held c' r' x = elim (pair_known c' (role_of r') c (role_of r)) [
          | inl y ↦ absurd (both_ways _ (at_pair c' (role_of r') c (role_of r) false _ y.0 y.1) x.1)
          | inr d ↦ inr (
            (λ b. elim b.1 [
              | inl i ↦ (let e = same_relieve c r c' r' i in d (sym e.0, ap role_of (sym e.1)))
              | inr i ↦ (let same = i in cc)
            ]),
            (a.holdings c' r').1 (x.0, sym (off_pair c' (role_of r') c (role_of r) false _ d) ∙ x.1),
          )
        ]

  pub agree_trust : (o p : ℕ) → Agree (trusting t o p true) (accepting n (trust o p) h)
  agree_trust o p =
      let q : Request = trust o p in
      record {
        homes = homes_still n a q refl;
        holdings = holdings_still n a q refl;
        trust = λ x y. (to x y, from x y);
        standing = recorded_still n a q refl;
        suspended = resting_still n a q refl;
        apart = a.apart;
      }
    where
      to : (x y : ℕ) → Trusts (accepting n (trust o p) h) x y → Trusting (trusting t o p true) x y
      to x y (inl i) = inl i
      to x y (inr (inl b)) = let e = same_trust o p x y b.1 in inr (at_pair x y o p true _ (sym e.0) (sym e.1))
      to x y (inr (inr b)) = elim ((a.trust x y).0 (inr b.1)) [
        | inl i ↦ inl i
        | inr k ↦ inr (elim (pair_known x y o p) [ inl z ↦ at_pair x y o p true _ z.0 z.1 | inr d ↦ off_pair x y o p true _ d ∙ k ])
      ]

      from : (x y : ℕ) → Trusting (trusting t o p true) x y → Trusts (accepting n (trust o p) h) x y
      from x y (inl i) = inl i
      from x y (inr k) = elim (pair_known x y o p) [
        | inl z ↦ (let f = z.0 in let g = z.1 in inr (inl (refl, cc)))
        | inr d ↦ elim ((a.trust x y).1 (inr (sym (off_pair x y o p true _ d) ∙ k))) [
          | inl i ↦ inl i
          | inr s ↦ inr (inr ((λ b. (let same = b.1 in cc)), s))
        ]
      ]

  pub agree_distrust : (o p : ℕ) → Agree (trusting t o p false) (accepting n (distrust o p) h)
  agree_distrust o p =
      let q : Request = distrust o p in
      record {
        homes = homes_still n a q refl;
        holdings = holdings_still n a q refl;
        trust = λ x y. (to x y, from x y);
        standing = recorded_still n a q refl;
        suspended = resting_still n a q refl;
        apart = a.apart;
      }
    where
      to : (x y : ℕ) → Trusts (accepting n (distrust o p) h) x y → Trusting (trusting t o p false) x y
      to x y (inl i) = inl i
      to x y (inr (inl b)) = absurd (let same = b.1 in cc)
      to x y (inr (inr b)) = elim (pair_known x y o p) [
        | inl z ↦ (let f = z.0 in let g = z.1 in absurd (b.0 (refl, cc)))
        | inr d ↦ elim ((a.trust x y).0 (inr b.1)) [ inl i ↦ inl i | inr k ↦ inr (off_pair x y o p false _ d ∙ k) ]
      ]

      from : (x y : ℕ) → Trusting (trusting t o p false) x y → Trusts (accepting n (distrust o p) h) x y
      from x y (inl i) = inl i
      from x y (inr k) = elim (pair_known x y o p) [
        | inl z ↦ absurd (both_ways _ (at_pair x y o p false _ z.0 z.1) k)
        | inr d ↦ elim ((a.trust x y).1 (inr (sym (off_pair x y o p false _ d) ∙ k))) [
          | inl i ↦ inl i
          | inr s ↦ inr (inr ((λ b. let e = same_distrust o p x y b.1 in d (sym e.0, sym e.1)), s))
        ]
      ]
