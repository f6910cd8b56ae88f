-- Soundness and findings of a scene that is given by lists, checked by computing.
use Rattle.std.proofs.Common.{◌≡◌, ℕ, ◌*◌, ◌/◌, ◌%◌, ◌^◌, ◌<◌, ◌≤◌, Bool, true, false, not, ◌&&◌, ◌||◌, eqb, ltb, leb, ◌⊎◌, ◌↔◌, List, [], ◌∷◌, ◌++◌, length, sym, refl, ap, ◌∙◌, subst, inl, inr, arith}
use mathlib.Core.List.Memᴰ
use mathlib.Core.List.{Memᴰ}
use Rattle.std.proofs.lemmas.Bool.{and_parts, and_from, or_cases, or_left, or_right, not-true, not_from_false, both_ways, cases_Bool, cases_lt, eqb-true, eqb-false, eq-eqb, ne_eqb, ltb-true, lt-ltb, leb-true}
use Rattle.search.specs.Chains.{Chain, Reached, Before, Best}
use Rattle.search.proofs.Chaining.{reaches_itself}
use Rattle.offices.specs.Model.{OfficeModel, SetModel}
use Rattle.offices.specs.Word.{bit}
use Rattle.offices.proofs.Bit.{bit_past}
use Rattle.banks.specs.Banks.{office_at}
use Rattle.banks.specs.Codes.{office_of, role_of}
use Rattle.law.specs.Roles.{LawfulBank, set_at, member_code, IsRole, IsSet, Over}
use Rattle.law.specs.Sound.{Link, Scene, Step, Leads, PlaceReached, Overreached, Outsiders, Hierarchy, Exclusion, Sound}
use Rattle.law.specs.Findings.{Finding, breaks_hierarchy, breaks_exclusion, breaks_exposure, Marks, Shows, Finds}
use Rattle.law.specs.Examples.{among}
use Rattle.law.proofs.Scenes.{role_heard, set_heard, over_roles, some_reached}
use Rattle.law.proofs.Counts.{upto, in_upto, upto_in, upto_differ, no_more}
use Rattle.law.proofs.Closures.{all, put, keep, among_in, in_among, all_in, keep_in, in_keep, keep_differ, grow, closed, none_below, leads_first, is_chain, stays_in, grown, best_by}

abbrev pub is_role : List OfficeModel → ℕ → Bool
is_role bank c = ltb (role_of c) (office_at bank (office_of c)).roles

abbrev pub over : List OfficeModel → ℕ → ℕ → Bool
over bank a b = eqb (office_of a) (office_of b) && (office_at bank (office_of a)).over (role_of a) (role_of b)

-- the codes of the bank's roles
abbrev pub codes : List OfficeModel → List ℕ
codes bank = keep (is_role bank) (upto (length bank * 64))

-- where the links from a lead
abbrev pub targets : ℕ → List Link → List ℕ
targets a [] = []
targets a (l ∷ ls) = put (eqb a l.from) l.to (targets a ls)

abbrev pub next : List OfficeModel → List ℕ → List Link → ℕ → List ℕ
next bank cs links a = keep (λ b. not (eqb a b) && over bank a b) cs ++ targets a links

-- the places of a set that are among these codes
abbrev pub hits : List ℕ → ℕ → SetModel → List ℕ
hits xs o set = keep (λ p. among (member_code o set p) xs) (upto (length set.members))

abbrev pub trusts : List Link → ℕ → ℕ → Bool
trusts ts o p = eqb o p || among p (targets o ts)

abbrev pub outsiders : List ℕ → List Link → ℕ → List ℕ
outsiders cs ts o = keep (λ a. not (trusts ts o (office_of a))) cs

pub in_targets : (a b : ℕ) (ls : List Link) → Memᴰ (record { from = a; to = b }) ls → Memᴰ b (targets a ls)
in_targets a b [] m = absurd (Memᴰ.not-nil m)
in_targets a b (l ∷ ls) m = elim (Memᴰ.cases_cons m) [
  | inl e ↦ subst (λ z. Memᴰ b (put z l.to (targets a ls))) (sym (eq-eqb a l.from (ap (λ (x : Link). x.from) e))) (Memᴰ.head (ap (λ (x : Link). x.to) e))
  | inr k ↦ skip (eqb a l.from) (in_targets a b ls k)
]
  where
    skip : (z : Bool) → Memᴰ b (targets a ls) → Memᴰ b (put z l.to (targets a ls))
    skip true k = Memᴰ.tail k
    skip false k = k

pub targets_in : (a b : ℕ) (ls : List Link) → Memᴰ b (targets a ls) → Memᴰ (record { from = a; to = b }) ls
targets_in a b [] m = absurd (Memᴰ.not-nil m)
targets_in a b (l ∷ ls) m = go (eqb a l.from) refl m (targets_in a b ls)
  where
    go : (z : Bool) → eqb a l.from ≡ z → Memᴰ b (put z l.to (targets a ls)) → (Memᴰ b (targets a ls) → Memᴰ (record { from = a; to = b }) ls) → Memᴰ (record { from = a; to = b }) (l ∷ ls)
    go true e k rest = elim (Memᴰ.cases_cons k) [
      | inl i ↦ Memᴰ.head (let f = eqb-true a l.from e in λ j. record { from = f j; to = i j })
      | inr i ↦ Memᴰ.tail (rest i)
    ]
    go false e k rest = Memᴰ.tail (rest k)

-- the digit that bit i of w tests
abbrev pub digit : ℕ → ℕ → Bool
digit w i = eqb (w / 2 ^ i % 2) 1

bit_digit : (w i : ℕ) → bit w i ≡ digit w i
unfolding bit
bit_digit w i = refl

module _ (bank : List OfficeModel) (lawful : LawfulBank bank) where
  over_is : (a b : ℕ) → over bank a b ≡ true → Over bank a b
  over_is a b e = let t = and_parts (eqb (office_of a) (office_of b)) _ e in (eqb-true (office_of a) (office_of b) t.0, t.1)

  is_over : (a b : ℕ) → Over bank a b → over bank a b ≡ true
  is_over a b x = and_from (eqb (office_of a) (office_of b)) _ (eq-eqb (office_of a) (office_of b) x.0) x.1

  pub role_is : (c : ℕ) → is_role bank c ≡ true → IsRole bank c
  role_is c e = ltb-true (role_of c) _ e

  in_codes : (c : ℕ) → IsRole bank c → Memᴰ c (codes bank)
  in_codes c r = in_keep (is_role bank) (upto (length bank * 64)) c (in_upto (length bank * 64) c (let h = role_heard bank c r in omega arith)) (lt-ltb _ _ r)

  codes_in : (c : ℕ) → Memᴰ c (codes bank) → IsRole bank c
  codes_in c m = role_is c (keep_in (is_role bank) (upto (length bank * 64)) c m).1

abbrev pub froms : List Link → List ℕ
froms [] = []
froms (l ∷ ls) = l.from ∷ froms ls

in_froms : (c a : ℕ) (ls : List Link) → Memᴰ (record { from = c; to = a }) ls → Memᴰ c (froms ls)
in_froms c a [] m = absurd (Memᴰ.not-nil m)
in_froms c a (l ∷ ls) m = elim (Memᴰ.cases_cons m) [ inl e ↦ Memᴰ.head (ap (λ (x : Link). x.from) e) | inr k ↦ Memᴰ.tail (in_froms c a ls k) ]

abbrev pub before : List ℕ → List ℕ → Bool
before [] ys = true
before (x ∷ xs) [] = false
before (x ∷ xs) (y ∷ ys) = ltb x y || (eqb x y && before xs ys)

is_before : (xs ys : List ℕ) → before xs ys ≡ true → Before xs ys
is_before [] ys e = tt
is_before (x ∷ xs) [] e = let z : ◌≡◌ {A = ℕ} 0 1 = cc in omega arith
is_before (x ∷ xs) (y ∷ ys) e = elim (or_cases (ltb x y) _ e) [ inl i ↦ inl (ltb-true x y i) | inr i ↦ (let t = and_parts (eqb x y) (before xs ys) i in inr (eqb-true x y t.0, is_before xs ys t.1)) ]

-- of every set of the bank
abbrev pub sets : List OfficeModel → (ℕ → ℕ → Bool) → Bool
sets bank g = all (λ o. all (g o) (upto (length (office_at bank o).sets))) (upto (length bank))

sets_in : (bank : List OfficeModel) (g : ℕ → ℕ → Bool) → sets bank g ≡ true → (o k : ℕ) → IsSet bank o k → g o k ≡ true
sets_in bank g e o k is = all_in (g o) (upto (length (office_at bank o).sets)) (all_in (λ o. all (g o) (upto (length (office_at bank o).sets))) (upto (length bank)) e o (in_upto _ o (set_heard bank o k is))) k (in_upto _ k is)

abbrev pub same : Bool → Bool → Bool
same true b = b
same false b = not b

is_same : (a b : Bool) → same a b ≡ true → a ≡ b
is_same true b e = sym e
is_same false b e = sym (not-true b e)

-- what a scene says, in lists
pub record Facts : Type 0 where
  pub links : List Link
  pub cards : List Link
  pub trust : List Link

pub record Shown (s : Scene) (f : Facts) : Type 0 where
  pub linked : (p : Link) → s.linked p ↔ Memᴰ p f.links
  pub held : (c r : ℕ) → s.held c r ↔ Memᴰ (record { from = c; to = r }) f.cards
  pub trusted : (o p : ℕ) → s.trusted o p ↔ ((o ≡ p) ⊎ Memᴰ (record { from = o; to = p }) f.trust)

module _ (bank : List OfficeModel) (lawful : LawfulBank bank) (cs : List ℕ) (listed : codes bank ≡ cs) (s : Scene) (f : Facts) (shown : Shown s f) where
  in_cs : (c : ℕ) → IsRole bank c → Memᴰ c cs
  in_cs c r = subst (λ z. Memᴰ c z) listed (in_codes bank lawful c r)

  complete : (a b : ℕ) → Step bank s.linked a b → Memᴰ b (next bank cs f.links a)
  complete a b (inl x) = Memᴰ.append_left (targets a f.links) (in_keep (λ b. not (eqb a b) && over bank a b) cs b (in_cs b (over_roles bank lawful a b x.1).1)
      (and_from (not (eqb a b)) (over bank a b) (not_from_false (eqb a b) (ne_eqb a b x.0)) (is_over bank lawful a b x.1)))
  complete a b (inr l) = Memᴰ.append_right (keep (λ b. not (eqb a b) && over bank a b) cs) (in_targets a b f.links ((shown.linked _).0 l))

  stepping : (a b : ℕ) → Memᴰ b (next bank cs f.links a) → Step bank s.linked a b
  stepping a b m = elim (Memᴰ.append_cases (keep (λ b. not (eqb a b) && over bank a b) cs) m) [
    | inl k ↦ (let t = and_parts (not (eqb a b)) (over bank a b) (keep_in (λ b. not (eqb a b) && over bank a b) cs b k).1 in
        inl (eqb-false a b (not-true (eqb a b) t.0), over_is bank lawful a b t.1))
    | inr k ↦ inr ((shown.linked _).1 (targets_in a b f.links k))
  ]

  -- these are just the codes that chains from the starts reach
  abbrev pub Exact : (ℕ → Type 0) → List ℕ → Type 0
  Exact start xs = (b : ℕ) → Memᴰ b xs ↔ Reached (Step bank s.linked) start b

  pub exact_by : (start : ℕ → Type 0) (S : List ℕ) (n : ℕ) (xs : List ℕ) → ((a : ℕ) → start a ↔ Memᴰ a S) → grow (next bank cs f.links) n S ≡ xs
      → closed (next bank cs f.links) xs ≡ true → all (λ a. among a xs) S ≡ true → Exact start xs
  exact_by start S n xs same grew shut begun b = (
    (λ m. grown (next bank cs f.links) (Step bank s.linked) complete stepping start n S (λ a i. (a, (same a).1 i, reaches_itself a)) b (subst (λ z. Memᴰ b z) (sym grew) m)),
    (λ r. stays_in (next bank cs f.links) (Step bank s.linked) complete xs shut (among_in r.0 xs (all_in (λ a. among a xs) S begun r.0 ((same r.0).0 r.1))) r.2.1),
  )

  module _ (start : ℕ → Type 0) (xs : List ℕ) (exact : Exact start xs) (o k : ℕ) where
    hit : (p : ℕ) → PlaceReached bank s start o (set_at bank o k) p → Memᴰ p (hits xs o (set_at bank o k))
    hit p y = in_keep (λ p. among (member_code o (set_at bank o k) p) xs) (upto (length (set_at bank o k).members)) p (in_upto _ p y.0)
        (in_among _ xs ((exact _).1 y.1))

    reach : (p : ℕ) → p < length (set_at bank o k).members → among (member_code o (set_at bank o k) p) xs ≡ true → PlaceReached bank s start o (set_at bank o k) p
    reach p h e = (h, (exact _).0 (among_in _ xs e))

    pub too_few : length (hits xs o (set_at bank o k)) < (set_at bank o k).bound → Overreached bank s start o k → ⊥
    too_few h x = let m = x.1 in let l = no_more m.0 (hits xs o (set_at bank o k)) m.1 (λ p i. hit p (m.2 p i)) in let b = m.3 in omega arith

    pub enough : IsSet bank o k → (set_at bank o k).bound ≤ length (hits xs o (set_at bank o k)) → Overreached bank s start o k
    enough is h = (
      is,
      (
        hits xs o (set_at bank o k),
        keep_differ _ (upto (length (set_at bank o k).members)) (upto_differ (length (set_at bank o k).members)),
        (λ p i. let t = keep_in (λ p. among (member_code o (set_at bank o k) p) xs) (upto (length (set_at bank o k).members)) p i in reach p (upto_in _ p t.0) t.1),
        h,
      ),
    )

  -- fewer are reached from these than the bound
  abbrev pub few : ℕ → List ℕ → ℕ → ℕ → Bool
  few n S o k =
      let xs = grow (next bank cs f.links) n S in
      (closed (next bank cs f.links) xs && all (λ a. among a xs) S) && ltb (length (hits xs o (set_at bank o k))) (set_at bank o k).bound

  few_by : (start : ℕ → Type 0) (S : List ℕ) (n : ℕ) → ((a : ℕ) → start a ↔ Memᴰ a S) → (o k : ℕ) → few n S o k ≡ true → Overreached bank s start o k → ⊥
  few_by start S n same o k e =
      let xs = grow (next bank cs f.links) n S in
      let t = and_parts (closed (next bank cs f.links) xs && all (λ a. among a xs) S) _ e in
      let u = and_parts (closed (next bank cs f.links) xs) _ t.0 in
      too_few start xs (exact_by start S n xs same refl u.0 u.1) o k (ltb-true _ _ t.1)

  pub held_same : (c a : ℕ) → s.held c a ↔ Memᴰ a (targets c f.cards)
  held_same c a = ((λ x. in_targets c a f.cards ((shown.held c a).0 x)), λ m. (shown.held c a).1 (targets_in c a f.cards m))

  trusting : (o p : ℕ) → s.trusted o p → trusts f.trust o p ≡ true
  trusting o p x = elim ((shown.trusted o p).0 x) [ inl e ↦ or_left (eqb o p) _ (eq-eqb o p e) | inr m ↦ or_right (eqb o p) _ (in_among p (targets o f.trust) (in_targets o p f.trust m)) ]

  trusted : (o p : ℕ) → trusts f.trust o p ≡ true → s.trusted o p
  trusted o p e = (shown.trusted o p).1 (elim (or_cases (eqb o p) _ e) [ inl i ↦ inl (eqb-true o p i) | inr i ↦ inr (targets_in o p f.trust (among_in p (targets o f.trust) i)) ])

  pub outsiders_same : (o a : ℕ) → Outsiders bank s o a ↔ Memᴰ a (outsiders cs f.trust o)
  outsiders_same o a = (
    (λ x. in_keep (λ a. not (trusts f.trust o (office_of a))) cs a (in_cs a x.0) (elim (cases_Bool (trusts f.trust o (office_of a))) [
      | inl e ↦ absurd (x.1 (trusted o (office_of a) e))
      | inr e ↦ not_from_false _ e
    ])),
    (λ m. let t = keep_in (λ a. not (trusts f.trust o (office_of a))) cs a m in
        (codes_in bank lawful a (subst (λ z. Memᴰ a z) (sym listed) t.0), λ x. both_ways _ (not-true _ t.1) (trusting o (office_of a) x))),
  )

  -- rule 1 at the chains from a, if it need hold at b only where the second test says so
  abbrev pub kept_from : ℕ → (ℕ → Bool) → ℕ → Bool
  kept_from n need a =
      let xs = grow (next bank cs f.links) n (a ∷ []) in
      (closed (next bank cs f.links) xs && among a xs) && all (λ b. not (eqb (office_of a) (office_of b)) || (over bank a b || not (need b))) xs

  kept_by : (n : ℕ) (need : ℕ → Bool) (a b : ℕ) → kept_from n need a ≡ true → need b ≡ true → office_of a ≡ office_of b → Leads bank s.linked a b → Over bank a b
  kept_by n need a b e must same l =
      let xs = grow (next bank cs f.links) n (a ∷ []) in
      let t = and_parts (closed (next bank cs f.links) xs && among a xs) _ e in
      let u = and_parts (closed (next bank cs f.links) xs) _ t.0 in
      let m = stays_in (next bank cs f.links) (Step bank s.linked) complete xs u.0 (among_in a xs u.1) l.1 in
      elim (or_cases (not (eqb (office_of a) (office_of b))) _ (all_in (λ b. not (eqb (office_of a) (office_of b)) || (over bank a b || not (need b))) xs t.1 b m)) [
        | inl i ↦ absurd (both_ways _ (not-true _ i) (eq-eqb (office_of a) (office_of b) same))
        | inr i ↦ elim (or_cases (over bank a b) _ i) [ inl j ↦ over_is bank lawful a b j | inr j ↦ absurd (both_ways _ (not-true _ j) must) ]
      ]

  abbrev pub hierarchy : ℕ → Bool
  hierarchy n = all (kept_from n (λ b. true)) cs

  pub hierarchy_by : (n : ℕ) → hierarchy n ≡ true → Hierarchy bank s
  hierarchy_by n e a b ra rb same l = kept_by n (λ b. true) a b (all_in (kept_from n (λ b. true)) cs e a (in_cs a ra)) refl same l

  abbrev pub exclusion : ℕ → (ℕ → ℕ → ℕ → Bool) → Bool
  exclusion n spare = sets bank (λ o k. all (λ c. few n (targets c f.cards) o k || spare o k c) (froms f.cards))

  exclusion_else : (n : ℕ) (spare : ℕ → ℕ → ℕ → Bool) → exclusion n spare ≡ true → (o k c : ℕ) → Overreached bank s (s.held c) o k → spare o k c ≡ true
  exclusion_else n spare e o k c x =
      let r = (some_reached bank lawful s (s.held c) o k x).1 in
      elim (or_cases (few n (targets c f.cards) o k) _ (all_in (λ c. few n (targets c f.cards) o k || spare o k c) (froms f.cards) (sets_in bank _ e o k x.0) c (in_froms c r.1.0 f.cards ((shown.held c r.1.0).0 r.1.1)))) [
        | inl i ↦ absurd (few_by (s.held c) (targets c f.cards) n (held_same c) o k i x)
        | inr i ↦ i
      ]

  pub exclusion_by : (n : ℕ) → exclusion n (λ o k c. false) ≡ true → Exclusion bank s
  exclusion_by n e o k c x = both_ways _ refl (exclusion_else n (λ o k c. false) e o k c x)

  abbrev pub exposure : ℕ → (ℕ → ℕ → Bool) → Bool
  exposure n spare = sets bank (λ o k. few n (outsiders cs f.trust o) o k || spare o k)

  exposure_else : (n : ℕ) (spare : ℕ → ℕ → Bool) → exposure n spare ≡ true → (o k : ℕ) → Overreached bank s (Outsiders bank s o) o k → spare o k ≡ true
  exposure_else n spare e o k x = elim (or_cases (few n (outsiders cs f.trust o) o k) _ (sets_in bank _ e o k x.0)) [
    | inl i ↦ absurd (few_by (Outsiders bank s o) (outsiders cs f.trust o) n (outsiders_same o) o k i x)
    | inr i ↦ i
  ]

  pub sound_by : (n : ℕ) → hierarchy n ≡ true → exclusion n (λ o k c. false) ≡ true → exposure n (λ o k. false) ≡ true → Sound bank s
  sound_by n p q r = record {
    hierarchy = hierarchy_by n p;
    exclusion = exclusion_by n q;
    exposure = λ o k x. both_ways _ refl (exposure_else n (λ o k. false) r o k x);
  }

  -- the byte has these places, the lowest of them is p, and the chain to it is the best
  abbrev pub shows : ℕ → List ℕ → ℕ → SetModel → ℕ → ℕ → ℕ → List ℕ → Bool
  shows n S o set places p x ys =
      let xs = grow (next bank cs f.links) n S in
      (closed (next bank cs f.links) xs && all (λ a. among a xs) S)
      && ((ltb places (2 ^ length set.members) && all (λ q. same (digit places q) (among (member_code o set q) xs)) (upto (length set.members)))
      && (((ltb p (length set.members) && among (member_code o set p) xs) && all (λ q. not (among (member_code o set q) xs)) (upto p))
      && ((among x S && is_chain (next bank cs f.links) x ys (member_code o set p))
      && all (λ a. none_below (next bank cs f.links) (length ys) (member_code o set p) a && leads_first (next bank cs f.links) (x ∷ ys) (member_code o set p) a) S)))

  shows_by : (start : ℕ → Type 0) (S : List ℕ) → ((a : ℕ) → start a ↔ Memᴰ a S) → (n o k places p x : ℕ) (ys : List ℕ)
      → shows n S o (set_at bank o k) places p x ys ≡ true → Marks bank s start o (set_at bank o k) places × Shows bank s start o (set_at bank o k) (x ∷ ys)
  shows_by start S alike n o k places p x ys e =
      let xs = grow (next bank cs f.links) n S in
      let ms = (set_at bank o k).members in
      let test : ℕ → Bool = λ q. among (member_code o (set_at bank o k) q) xs in
      let a = and_parts (closed (next bank cs f.links) xs && all (λ a. among a xs) S) _ e in
      let a' = and_parts (closed (next bank cs f.links) xs) _ a.0 in
      let b = and_parts (ltb places (2 ^ length ms) && all (λ q. same (digit places q) (test q)) (upto (length ms))) _ a.1 in
      let b' = and_parts (ltb places (2 ^ length ms)) _ b.0 in
      let c = and_parts ((ltb p (length ms) && test p) && all (λ q. not (test q)) (upto p)) _ b.1 in
      let c' = and_parts (ltb p (length ms) && test p) _ c.0 in
      let c'' = and_parts (ltb p (length ms)) _ c'.0 in
      let d = and_parts (among x S && is_chain (next bank cs f.links) x ys (member_code o (set_at bank o k) p)) _ c.1 in
      let d' = and_parts (among x S) _ d.0 in
      let exact : Exact start xs = exact_by start S n xs alike refl a'.0 a'.1 in
      let mark : (q : ℕ) → q < length ms → bit places q ≡ test q = λ q h. bit_digit places q ∙ is_same (digit places q) (test q) (all_in (λ q. same (digit places q) (test q)) (upto (length ms)) b'.1 q (in_upto (length ms) q h)) in
      let met : (q : ℕ) → PlaceReached bank s start o (set_at bank o k) q → test q ≡ true = λ q r. in_among (member_code o (set_at bank o k) q) xs ((exact (member_code o (set_at bank o k) q)).1 r.1) in (
        (λ q. (
          (λ m. elim (cases_lt q (length ms)) [
            | inl h ↦ reach start xs exact o k q h (sym (mark q h) ∙ m)
            | inr h ↦ absurd (both_ways _ (bit_past places (length ms) q (ltb-true places (2 ^ length ms) b'.0) h) m)
          ]),
          λ r. mark q r.0 ∙ met q r,
        )),
        record {
          place = p;
          shown = record {
            reached = reach start xs exact o k p (ltb-true p (length ms) c''.0) c''.1;
            lowest = λ q r. elim (cases_lt q p) [
              | inl h ↦ absurd (both_ways _ (not-true (test q) (all_in (λ q. not (test q)) (upto p) c'.1 q (in_upto p q h))) (met q r))
              | inr h ↦ h
            ];
          };
          best = best_by (next bank cs f.links) (Step bank s.linked) complete stepping start S (member_code o (set_at bank o k) p) x ys (λ a i. (alike a).0 i) ((alike x).1 (among_in x S d'.0)) d'.1 d.1;
        },
      )

  abbrev pub reaches_bound : ℕ → List ℕ → ℕ → ℕ → Bool
  reaches_bound n S o k = ltb k (length (office_at bank o).sets) && leb (set_at bank o k).bound (length (hits (grow (next bank cs f.links) n S) o (set_at bank o k)))

  bound_by : (start : ℕ → Type 0) (S : List ℕ) → ((a : ℕ) → start a ↔ Memᴰ a S) → (n o k places p x : ℕ) (ys : List ℕ)
      → shows n S o (set_at bank o k) places p x ys ≡ true → reaches_bound n S o k ≡ true → Overreached bank s start o k
  bound_by start S alike n o k places p x ys e r =
      let xs = grow (next bank cs f.links) n S in
      let a = and_parts (closed (next bank cs f.links) xs && all (λ a. among a xs) S) _ e in
      let a' = and_parts (closed (next bank cs f.links) xs) _ a.0 in
      let t = and_parts (ltb k (length (office_at bank o).sets)) _ r in
      enough start xs (exact_by start S n xs alike refl a'.0 a'.1) o k (ltb-true k _ t.0) (leb-true (set_at bank o k).bound (length (hits xs o (set_at bank o k))) t.1)

  -- a finding with its chain, checked by computing
  abbrev pub finds : ℕ → Finding → ℕ → ℕ → List ℕ → Bool
  finds n (breaks_hierarchy a b) p x ys =
      ((is_role bank a && is_role bank b) && (eqb (office_of a) (office_of b) && not (over bank a b)))
      && ((eqb x a && is_chain (next bank cs f.links) x ys b)
      && (all (λ a'. kept_from n (λ b'. not (before (a ∷ b ∷ []) (a' ∷ b' ∷ []))) a') cs
      && all (λ z. none_below (next bank cs f.links) (length ys) b z && leads_first (next bank cs f.links) (x ∷ ys) b z) (a ∷ [])))
  finds n (breaks_exclusion o k c places) p x ys =
      (hierarchy n && exclusion n (λ o' k' c'. before (o ∷ k ∷ c ∷ []) (o' ∷ k' ∷ c' ∷ [])))
      && (reaches_bound n (targets c f.cards) o k && shows n (targets c f.cards) o (set_at bank o k) places p x ys)
  finds n (breaks_exposure o k places) p x ys =
      (hierarchy n && (exclusion n (λ o' k' c'. false) && exposure n (λ o' k'. before (o ∷ k ∷ []) (o' ∷ k' ∷ []))))
      && (reaches_bound n (outsiders cs f.trust o) o k && shows n (outsiders cs f.trust o) o (set_at bank o k) places p x ys)

  pub finds_by : (n : ℕ) (g : Finding) (p x : ℕ) (ys : List ℕ) → finds n g p x ys ≡ true → Finds bank s g (x ∷ ys)
  finds_by n (breaks_hierarchy a b) p x ys e =
      let t = and_parts ((is_role bank a && is_role bank b) && (eqb (office_of a) (office_of b) && not (over bank a b))) _ e in
      let t' = and_parts (is_role bank a && is_role bank b) _ t.0 in
      let r = and_parts (is_role bank a) _ t'.0 in
      let o = and_parts (eqb (office_of a) (office_of b)) _ t'.1 in
      let u = and_parts (eqb x a && is_chain (next bank cs f.links) x ys b) _ t.1 in
      let c = and_parts (eqb x a) _ u.0 in
      let v = and_parts (all (λ a'. kept_from n (λ b'. not (before (a ∷ b ∷ []) (a' ∷ b' ∷ []))) a') cs) _ u.1 in
      let best = best_by (next bank cs f.links) (Step bank s.linked) complete stepping (λ z. z ≡ a) (a ∷ []) b x ys (λ z i. Memᴰ.head i) (eqb-true x a c.0) c.1 v.1 in (
        (
          (
            role_is bank lawful a r.0,
            role_is bank lawful b r.1,
            eqb-true (office_of a) (office_of b) o.0,
            (x ∷ ys, subst (λ z. Chain (Step bank s.linked) z b (x ∷ ys)) best.starts best.leads),
            λ y. both_ways _ (not-true _ o.1) (is_over bank lawful a b y),
          ),
          (λ a' b' m. elim (cases_Bool (before (a ∷ b ∷ []) (a' ∷ b' ∷ []))) [
            | inl i ↦ is_before (a ∷ b ∷ []) (a' ∷ b' ∷ []) i
            | inr i ↦ absurd (m.4 (kept_by n (λ b'. not (before (a ∷ b ∷ []) (a' ∷ b' ∷ []))) a' b'
                (all_in (λ a'. kept_from n (λ b'. not (before (a ∷ b ∷ []) (a' ∷ b' ∷ []))) a') cs v.0 a' (in_cs a' m.0)) (not_from_false _ i) m.2 m.3))
          ]),
        ),
        best,
      )
  finds_by n (breaks_exclusion o k c places) p x ys e =
      let t = and_parts (hierarchy n && exclusion n (λ o' k' c'. before (o ∷ k ∷ c ∷ []) (o' ∷ k' ∷ c' ∷ []))) _ e in
      let h = and_parts (hierarchy n) _ t.0 in
      let b = and_parts (reaches_bound n (targets c f.cards) o k) _ t.1 in
      let w = shows_by (s.held c) (targets c f.cards) (held_same c) n o k places p x ys b.1 in (
        (
          hierarchy_by n h.0,
          bound_by (s.held c) (targets c f.cards) (held_same c) n o k places p x ys b.1 b.0,
          (λ o' k' c' y. is_before (o ∷ k ∷ c ∷ []) (o' ∷ k' ∷ c' ∷ []) (exclusion_else n (λ o' k' c'. before (o ∷ k ∷ c ∷ []) (o' ∷ k' ∷ c' ∷ [])) h.1 o' k' c' y)),
          w.0,
        ),
        w.1,
      )
  finds_by n (breaks_exposure o k places) p x ys e =
      let t = and_parts (hierarchy n && (exclusion n (λ o' k' c'. false) && exposure n (λ o' k'. before (o ∷ k ∷ []) (o' ∷ k' ∷ [])))) _ e in
      let h = and_parts (hierarchy n) _ t.0 in
      let i = and_parts (exclusion n (λ o' k' c'. false)) _ h.1 in
      let b = and_parts (reaches_bound n (outsiders cs f.trust o) o k) _ t.1 in
      let w = shows_by (Outsiders bank s o) (outsiders cs f.trust o) (outsiders_same o) n o k places p x ys b.1 in (
        (
          hierarchy_by n h.0,
          exclusion_by n i.0,
          bound_by (Outsiders bank s o) (outsiders cs f.trust o) (outsiders_same o) n o k places p x ys b.1 b.0,
          (λ o' k' y. is_before (o ∷ k ∷ []) (o' ∷ k' ∷ []) (exposure_else n (λ o' k'. before (o ∷ k ∷ []) (o' ∷ k' ∷ [])) i.1 o' k' y)),
          w.0,
        ),
        w.1,
      )

  pub best_in : (start : ℕ → Type 0) (S : List ℕ) (c x : ℕ) (ys : List ℕ) → ((a : ℕ) → start a ↔ Memᴰ a S) → among x S ≡ true → is_chain (next bank cs f.links) x ys c ≡ true
      → all (λ a. none_below (next bank cs f.links) (length ys) c a && leads_first (next bank cs f.links) (x ∷ ys) c a) S ≡ true → Best (Step bank s.linked) start c (x ∷ ys)
  best_in start S c x ys alike here chain e = best_by (next bank cs f.links) (Step bank s.linked) complete stepping start S c x ys (λ a i. (alike a).0 i) ((alike x).1 (among_in x S here)) chain e

-- a finding is a breach
pub found_unsound : (bank : List OfficeModel) (s : Scene) (g : Finding) (xs : List ℕ) → Finds bank s g xs → Sound bank s → ⊥
found_unsound bank s (breaks_hierarchy a b) xs x k = let m = x.0.0 in m.4 (k.hierarchy a b m.0 m.1 m.2 m.3)
found_unsound bank s (breaks_exclusion o k c ms) xs x q = q.exclusion o k c x.0.1
found_unsound bank s (breaks_exposure o k ms) xs x q = q.exposure o k x.0.2
