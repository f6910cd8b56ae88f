-- Accepted requests about links keep tables and history in accord.
use Rattle.std.proofs.Common.{◌≡◌, ℕ, suc, ◌-◌, ◌<◌, ◌≤◌, true, false, cond, eqb, ltb, ◌⊎◌, ◌↔◌, List, sym, refl, ap, ◌∙◌, inl, inr, arith}
use mathlib.Core.Logic.Iff
use Rattle.std.proofs.lemmas.Bool.{cases_eq, cases_lt, both_ways, lt-ltb, le-ltb, cond-true, cond-false}
use Rattle.law.specs.Sound.{Link}
use Rattle.law.specs.Requests.{Request, accepted, link, suspend, resume, withdraw}
use Rattle.law.specs.Histories.{Event, accepting, Standing, Suspended}
use Rattle.law.proofs.Changes.{kind}
use Rattle.law.proofs.Alikes.{one}
use Rattle.accord.specs.Tables.{Tables, Recorded, Resting}
use Rattle.accord.specs.Agree.{Agree}
use Rattle.accord.specs.Settling.{with_record, rested, without_record, At}
use Rattle.accord.proofs.Choosing.{at_it, at_other}
use Rattle.accord.proofs.Still.{homes_still, holdings_still, trust_still, recorded_still, resting_still}

same_suspend : (l m : Link) → suspend l ≡ suspend m → l ≡ m
same_suspend l m e = cc

same_resume : (l m : Link) → resume l ≡ resume m → l ≡ m
same_resume l m e = cc

same_withdraw : (l m : Link) → withdraw l ≡ withdraw m → l ≡ m
same_withdraw l m e = cc

-- what a record more records
pub recorded_more : (t : Tables) (l m : Link) → Recorded (with_record t l) m ↔ ((m ≡ l) ⊎ Recorded t m)
recorded_more t l m = (to, from)
  where
    to : Recorded (with_record t l) m → (m ≡ l) ⊎ Recorded t m
    to x = let i = x.1 in elim (cases_eq x.0 t.count) [
      | inl e ↦ inl (sym x.2 ∙ at_it x.0 t.count l (t.link x.0) e)
      | inr d ↦ inr (x.0, omega arith, sym (at_other x.0 t.count l (t.link x.0) d) ∙ x.2)
    ]

    from : (m ≡ l) ⊎ Recorded t m → Recorded (with_record t l) m
    from (inl e) = (t.count, omega arith, at_it t.count t.count l _ refl ∙ sym e)
    from (inr x) = let i = x.1 in (x.0, omega arith, at_other x.0 t.count l (t.link x.0) (λ e. omega arith) ∙ x.2)

resting_more : (t : Tables) (l m : Link) → Resting t m ↔ Resting (with_record t l) m
resting_more t l m = (
  (λ x. let i = x.1 in (x.0, omega arith, at_other x.0 t.count l _ (λ e. omega arith) ∙ x.2, at_other x.0 t.count false _ (λ e. omega arith) ∙ x.3)),
  λ x. (let i = x.1 in elim (cases_eq x.0 t.count) [
    | inl e ↦ absurd (both_ways _ (at_it x.0 t.count false (t.suspended x.0) e) x.3)
    | inr d ↦ (x.0, omega arith, sym (at_other x.0 t.count l _ d) ∙ x.2, sym (at_other x.0 t.count false _ d) ∙ x.3)
  ]),
)

module _ (t : Tables) (h : List Event) (n : ℕ) (a : Agree t h) where
  pub agree_link : (l : Link) → (Recorded t l → ⊥) → Agree (with_record t l) (accepting n (link l) h)
  agree_link l new =
      let q : Request = link l in
      record {
        homes = homes_still n a q refl;
        holdings = holdings_still n a q refl;
        trust = trust_still n a q refl;
        standing = λ m. Iff.trans (one n h l m) (Iff.trans (or_with m) (Iff.symm (recorded_more t l m)));
        suspended = λ m. Iff.trans (resting_still n a q refl m) (resting_more t l m);
        apart = separate;
      }
    where
      or_with : (m : Link) → ((m ≡ l) ⊎ Standing h m) ↔ ((m ≡ l) ⊎ Recorded t m)
      or_with m = ((λ x. elim x [ inl e ↦ inl e | inr s ↦ inr ((a.standing m).0 s) ]), λ x. elim x [ inl e ↦ inl e | inr s ↦ inr ((a.standing m).1 s) ])

      separate : (i j : ℕ) → i < j → j < suc t.count → cond (eqb i t.count) l (t.link i) ≡ cond (eqb j t.count) l (t.link j) → ⊥
      separate i j k m e =
          let i_old = at_other i t.count l (t.link i) (λ f. omega arith) in
          elim (cases_eq j t.count) [
            | inl f ↦ new (i, omega arith, sym i_old ∙ e ∙ at_it j t.count l (t.link j) f)
            | inr d ↦ a.apart i j k (omega arith) (sym i_old ∙ e ∙ at_other j t.count l (t.link j) d)
          ]

  module _ (l : Link) (k : ℕ) (at : At t l k) where
    -- one link has one record
    pub one_place : (i : ℕ) → i < t.count → t.link i ≡ l → i ≡ k
    one_place i m e = elim (cases_eq i k) [
      | inl f ↦ f
      | inr d ↦ elim (cases_lt i k) [
        | inl b ↦ absurd (a.apart i k b at.0 (e ∙ sym at.1))
        | inr b ↦ absurd (a.apart k i (omega arith) m (at.1 ∙ sym e))
      ]
    ]

    pub agree_suspend : Agree (rested t k true) (accepting n (suspend l) h)
    agree_suspend =
        let q : Request = suspend l in
        record {
          homes = homes_still n a q refl;
          holdings = holdings_still n a q refl;
          trust = trust_still n a q refl;
          standing = recorded_still n a q refl;
          suspended = λ m. (to m, from m);
          apart = a.apart;
        }
      where
        to : (m : Link) → Suspended (accepting n (suspend l) h) m → Resting (rested t k true) m
        to m (inl b) = (k, at.0, at.1 ∙ same_suspend l m b.1, at_it k k true _ refl)
        to m (inr b) = let x = (a.suspended m).0 b.1 in (x.0, x.1, x.2, elim (cases_eq x.0 k) [ inl f ↦ at_it x.0 k true _ f | inr d ↦ at_other x.0 k true _ d ∙ x.3 ])

        from : (m : Link) → Resting (rested t k true) m → Suspended (accepting n (suspend l) h) m
        from m x = elim (cases_eq x.0 k) [
          | inl f ↦ (let g : l ≡ m = sym at.1 ∙ ap t.link (sym f) ∙ x.2 in inl (refl, cc))
          | inr d ↦ inr (
            (λ b. elim b.1 [ inl i ↦ (let same = i in cc) | inr i ↦ (let same = i in cc) ]),
            (a.suspended m).1 (x.0, x.1, x.2, sym (at_other x.0 k true _ d) ∙ x.3),
          )
        ]

    pub agree_resume : Agree (rested t k false) (accepting n (resume l) h)
    agree_resume =
        let q : Request = resume l in
        record {
          homes = homes_still n a q refl;
          holdings = holdings_still n a q refl;
          trust = trust_still n a q refl;
          standing = recorded_still n a q refl;
          suspended = λ m. (to m, from m);
          apart = a.apart;
        }
      where
        to : (m : Link) → Suspended (accepting n (resume l) h) m → Resting (rested t k false) m
        to m (inl b) = absurd (let same = b.1 in cc)
        to m (inr b) = let x = (a.suspended m).0 b.1 in elim (cases_eq x.0 k) [
          | inl f ↦ (let g : l ≡ m = sym at.1 ∙ ap t.link (sym f) ∙ x.2 in absurd (b.0 (refl, inl (cc))))
          | inr d ↦ (x.0, x.1, x.2, at_other x.0 k false _ d ∙ x.3)
        ]

        from : (m : Link) → Resting (rested t k false) m → Suspended (accepting n (resume l) h) m
        from m x = elim (cases_eq x.0 k) [
          | inl f ↦ absurd (both_ways _ (at_it x.0 k false _ f) x.3)
          | inr d ↦ inr (
            (λ b. elim b.1 [ inl i ↦ d (one_place x.0 x.1 (x.2 ∙ sym (same_resume l m i))) | inr i ↦ (let same = i in cc) ]),
            (a.suspended m).1 (x.0, x.1, x.2, sym (at_other x.0 k false _ d) ∙ x.3),
          )
        ]

    -- where the record at place i was before
    abbrev was : ℕ → ℕ
    was i = cond (ltb i k) i (suc i)

    record Moved (i : ℕ) : Type 0 where
      link_is : cond (ltb i k) (t.link i) (t.link (suc i)) ≡ t.link (was i)
      rests : cond (ltb i k) (t.suspended i) (t.suspended (suc i)) ≡ t.suspended (was i)
      within : i < t.count - 1 → was i < t.count
      other : was i ≡ k → ⊥
      low : i ≤ was i
      high : was i ≤ suc i
      near : i < k → was i ≡ i
      far : k ≤ i → was i ≡ suc i

    moved : (i : ℕ) → Moved i
    moved i = elim (cases_lt i k) [
      | inl b ↦ (let e = lt-ltb i k b in let w : was i ≡ i = cond-true (ltb i k) i (suc i) e in record {
        link_is = cond-true (ltb i k) _ _ e ∙ ap t.link (sym w);
        rests = cond-true (ltb i k) _ _ e ∙ ap t.suspended (sym w);
        within = λ m. omega arith;
        other = λ f. omega arith;
        low = omega arith;
        high = omega arith;
        near = λ m. w;
        far = λ m. absurd (omega arith);
      })
      | inr b ↦ (let e = le-ltb i k b in let w : was i ≡ suc i = cond-false (ltb i k) i (suc i) e in record {
        link_is = cond-false (ltb i k) _ _ e ∙ ap t.link (sym w);
        rests = cond-false (ltb i k) _ _ e ∙ ap t.suspended (sym w);
        within = λ m. omega arith;
        other = λ f. omega arith;
        low = omega arith;
        high = omega arith;
        near = λ m. absurd (omega arith);
        far = λ m. w;
      })
    ]

    -- where another record than that at place k has moved to
    new_place : (i : ℕ) → i < t.count → (i ≡ k → ⊥) → (j : ℕ) × (j < t.count - 1) × (was j ≡ i)
    new_place i m d = let c = at.0 in elim (cases_lt i k) [
      | inl b ↦ (i, omega arith, (moved i).near b)
      | inr b ↦ (i - 1, omega arith, (let f = (moved (i - 1)).far (omega arith) in omega arith))
    ]

    same_was : (i j : ℕ) → i < j → was i ≡ was j → ⊥
    same_was i j lt e = elim (cases_lt i k) [
      | inl b ↦ (let f = (moved i).near b in let g = (moved j).low in omega arith)
      | inr b ↦ (let f = (moved i).far b in let g = (moved j).far (omega arith) in omega arith)
    ]

    pub agree_withdraw : Agree (without_record t k) (accepting n (withdraw l) h)
    agree_withdraw =
        let q : Request = withdraw l in
        record {
          homes = homes_still n a q refl;
          holdings = holdings_still n a q refl;
          trust = trust_still n a q refl;
          standing = λ m. (stands m, to_stand m);
          suspended = λ m. (rest m, to_rest m);
          apart = separate;
        }
      where
        gone : (m : Link) (i : ℕ) → i < t.count → t.link i ≡ m → ((accepted ≡ accepted) × (withdraw l ≡ withdraw m) → ⊥) → i ≡ k → ⊥
        gone m i lt e unended f = let g : l ≡ m = sym at.1 ∙ ap t.link (sym f) ∙ e in unended (refl, cc)

        not_ended : (m : Link) (i : ℕ) → i < t.count → t.link i ≡ m → (i ≡ k → ⊥) → withdraw l ≡ withdraw m → ⊥
        not_ended m i lt e d f = d (one_place i lt (e ∙ sym (same_withdraw l m f)))

        stands : (m : Link) → Standing (accepting n (withdraw l) h) m → Recorded (without_record t k) m
        stands m (inl b) = elim b.1 [ inl i ↦ absurd (let same = i in cc) | inr i ↦ (let j = ap kind i.1 in absurd (omega arith)) ]
        stands m (inr b) =
            let x = (a.standing m).0 b.1 in
            let p = new_place x.0 x.1 (gone m x.0 x.1 x.2 b.0) in
            (p.0, p.1, (moved p.0).link_is ∙ ap t.link p.2 ∙ x.2)

        to_stand : (m : Link) → Recorded (without_record t k) m → Standing (accepting n (withdraw l) h) m
        to_stand m x =
            let w = moved x.0 in
            let lt = w.within x.1 in
            let e : t.link (was x.0) ≡ m = sym w.link_is ∙ x.2 in
            inr ((λ b. not_ended m (was x.0) lt e w.other b.1), (a.standing m).1 (was x.0, lt, e))

        rest : (m : Link) → Suspended (accepting n (withdraw l) h) m → Resting (without_record t k) m
        rest m (inl b) = absurd (let same = b.1 in cc)
        rest m (inr b) =
            let x = (a.suspended m).0 b.1 in
            let p = new_place x.0 x.1 (gone m x.0 x.1 x.2 (λ y. b.0 (y.0, inr y.1))) in
            (p.0, p.1, (moved p.0).link_is ∙ ap t.link p.2 ∙ x.2, (moved p.0).rests ∙ ap t.suspended p.2 ∙ x.3)

        to_rest : (m : Link) → Resting (without_record t k) m → Suspended (accepting n (withdraw l) h) m
        to_rest m x =
            let w = moved x.0 in
            let lt = w.within x.1 in
            let e : t.link (was x.0) ≡ m = sym w.link_is ∙ x.2 in
            inr (
              (λ b. elim b.1 [ inl i ↦ (let same = i in cc) | inr i ↦ not_ended m (was x.0) lt e w.other i ]),
              (a.suspended m).1 (was x.0, lt, e, sym w.rests ∙ x.3),
            )

        separate : (i j : ℕ) → i < j → j < t.count - 1 → cond (ltb i k) (t.link i) (t.link (suc i)) ≡ cond (ltb j k) (t.link j) (t.link (suc j)) → ⊥
        separate i j below m e =
            let v = moved i in
            let w = moved j in
            let hi = v.high in let lo = w.low in let inside = w.within m in
            elim (cases_lt (was i) (was j)) [
              | inl b ↦ a.apart (was i) (was j) b inside (sym v.link_is ∙ e ∙ w.link_is)
              | inr b ↦ same_was i j below (omega arith)
            ]
