-- No request is without an answer: it cannot be that each is wrong.
use Rattle.std.proofs.Common.{◌≡◌, ℕ, zero, suc, ◌^◌, ◌<◌, ◌≤◌, true, ◌||◌, eqb, ◌⊎◌, List, [], ◌∷◌, length, Decides, sym, refl, ap, ◌∙◌, subst, inl, inr, arith}
use lib.Bits.{bit_or}
use Rattle.std.proofs.lemmas.Bool.{cases_lt, cases_eq, cases_Bool, both_ways, or_cases, or_left, or_right, eqb-true, eq-eqb}
use Rattle.search.specs.Chains.{Chain, Before, Best, Reached}
use Rattle.offices.specs.Model.{OfficeModel, SetModel}
use Rattle.offices.specs.Word.{bit}
use Rattle.offices.proofs.Bit.{bit-or, bit_one, bit_none}
use Rattle.banks.specs.Banks.{office_at}
use Rattle.banks.specs.Codes.{office_of, role_of}
use Rattle.law.specs.Roles.{LawfulBank, set_at, member_code}
use Rattle.law.specs.Sound.{Link, Scene, Step, PlaceReached, Overreached, Outsiders, Hierarchy, Exclusion, Sound}
use Rattle.law.specs.Findings.{Finding, breaks_hierarchy, breaks_exclusion, breaks_exposure, Misled, Marks, Shows, Finds}
use Rattle.law.specs.Requests.{Request, Answer, Reason, accepted, refused, refused_at, granted, denied, plain, unsound, issue, assign, relieve, handback, trust, distrust, link, try, box, suspend, resume, withdraw, may}
use Rattle.law.specs.Histories.{Event, accepting, Holds, InForce}
use Rattle.law.specs.Checks.{Check, ◌when◌, unless_sound, Refuses, Says, FirstRefusal, linking, checks}
use Rattle.law.specs.Right.{LinkAnswer, LinesAnswer, MayAnswer, Unrefused}
use Rattle.law.specs.Promises.{SomeAnswer}
use Rattle.law.proofs.Scenes.{some_reached}

-- it cannot be that there is none
abbrev Sure : Type 0 → Type 0
Sure P = (P → ⊥) → ⊥

then : {P Q : Type 0} → Sure P → (P → Sure Q) → Sure Q
then x f k = x (λ p. f p k)

sure : {P : Type 0} → P → Sure P
sure p k = k p

or_not : (P : Type 0) → Sure (P ⊎ (P → ⊥))
or_not P k = k (inr (λ p. k (inl p)))

least_below : (P : ℕ → Type 0) (b n : ℕ) → n ≤ b → P n → Sure ((m : ℕ) × P m × ((k : ℕ) → P k → m ≤ k))
least_below P zero n l p = sure (n, p, λ k q. omega arith)
least_below P (suc b) n l p = then (or_not ((k : ℕ) × (k < n) × P k)) (λ x. elim x [
  | inl y ↦ (let i = y.1 in least_below P b y.0 (omega arith) y.2)
  | inr none ↦ sure (n, p, λ k q. elim (cases_lt k n) [ inl i ↦ absurd (none (k, i, q)) | inr i ↦ i ])
])

least : (P : ℕ → Type 0) (n : ℕ) → P n → Sure ((m : ℕ) × P m × ((k : ℕ) → P k → m ≤ k))
least P n p = least_below P n n (omega arith) p

-- of the lists of n numbers that have P, one comes before each
first : (n : ℕ) (P : List ℕ → Type 0) (xs : List ℕ) → length xs ≡ n → P xs
    → Sure ((ys : List ℕ) × (length ys ≡ n) × P ys × ((zs : List ℕ) → length zs ≡ n → P zs → Before ys zs))
first zero P [] l p = sure ([], refl, p, λ zs i q. tt)
first zero P (x ∷ xs) l p = absurd (omega arith)
first (suc n) P [] l p = absurd (omega arith)
first (suc n) P (x ∷ xs) l p =
    then (least (λ a. (rest : List ℕ) × (length rest ≡ n) × P (a ∷ rest)) x (xs, omega arith, p)) (λ low.
    then (first n (λ zs. P (low.0 ∷ zs)) low.1.0 low.1.1 low.1.2) (λ tail.
    sure (low.0 ∷ tail.0, ap suc tail.1, tail.2, before low.0 tail.0 low.2 tail.3)))
  where
    before : (a : ℕ) (ys : List ℕ) → ((k : ℕ) → (rest : List ℕ) × (length rest ≡ n) × P (k ∷ rest) → a ≤ k)
        → ((zs : List ℕ) → length zs ≡ n → P (a ∷ zs) → Before ys zs) → (zs : List ℕ) → length zs ≡ suc n → P zs → Before (a ∷ ys) zs
    before a ys low rest [] i q = absurd (omega arith)
    before a ys low rest (z ∷ zs) i q =
        let le = low z (zs, omega arith, q) in
        elim (cases_eq a z) [
          | inl e ↦ inr (e, rest zs (omega arith) (subst (λ y. P (y ∷ zs)) (sym e) q))
          | inr d ↦ inl (omega arith)
        ]

-- a chain from one of the starts to t
abbrev Led : (ℕ → ℕ → Type 0) → (ℕ → Type 0) → ℕ → List ℕ → Type 0
Led S Start t xs = (a : ℕ) × Start a × Chain S a t xs

-- where a chain leads there is a best one
best : (S : ℕ → ℕ → Type 0) (Start : ℕ → Type 0) (t : ℕ) → Reached S Start t → Sure ((xs : List ℕ) × Best S Start t xs)
best S Start t r =
    then (least (λ n. (xs : List ℕ) × Led S Start t xs × (length xs ≡ n)) (length r.2.0) (r.2.0, (r.0, r.1, r.2.1), refl)) (λ short.
    then (first short.0 (Led S Start t) short.1.0 short.1.2 short.1.1) (λ f.
    sure (
      f.0,
      record {
        from = f.2.0;
        starts = f.2.1;
        leads = f.2.2;
        shortest = λ a ys s c. subst (λ k. k ≤ length ys) (sym f.1) (short.2 (length ys) (ys, (a, s, c), refl));
        first = λ a ys s c e. f.3 ys (e ∙ f.1) (a, s, c);
      },
    )))

-- a byte with a bit for each of the first n places that have R
marks : (R : ℕ → Type 0) (n : ℕ) → Sure ((w : ℕ) × ((p : ℕ) → Decides (bit w p) ((p < n) × R p)))
marks R zero = sure (0, λ p. ((λ e. absurd (both_ways (bit 0 p) (bit_none p) e)), λ x. let l = x.0 in absurd (omega arith)))
marks R (suc n) = then (marks R n) (λ m. then (or_not (R n)) (λ x. elim x [
  | inl r ↦ sure (bit_or m.0 (2 ^ n), λ p. (with_to m.0 m.1 r p, with_from m.0 m.1 p))
  | inr d ↦ sure (m.0, λ p. ((λ e. let y = (m.1 p).0 e in let l = y.0 in (omega arith, y.1)), λ y. (m.1 p).1 (under p y.0 (λ e. d (subst R e y.1)), y.1)))
]))
  where
    under : (p : ℕ) → p < suc n → (p ≡ n → ⊥) → p < n
    under p l d = elim (cases_eq p n) [ inl e ↦ absurd (d e) | inr k ↦ omega arith ]

    bits : (w p : ℕ) → bit (bit_or w (2 ^ n)) p ≡ (bit w p || eqb p n)
    bits w p = bit-or w (2 ^ n) p ∙ ap (λ b. bit w p || b) (bit_one n p)

    with_to : (w : ℕ) → ((p : ℕ) → Decides (bit w p) ((p < n) × R p)) → R n → (p : ℕ) → bit (bit_or w (2 ^ n)) p ≡ true → (p < suc n) × R p
    with_to w d r p e = elim (or_cases (bit w p) (eqb p n) (sym (bits w p) ∙ e)) [
      | inl i ↦ (let y = (d p).0 i in let l = y.0 in (omega arith, y.1))
      | inr i ↦ (let k = eqb-true p n i in (omega arith, subst R (sym k) r))
    ]

    with_from : (w : ℕ) → ((p : ℕ) → Decides (bit w p) ((p < n) × R p)) → (p : ℕ) → (p < suc n) × R p → bit (bit_or w (2 ^ n)) p ≡ true
    with_from w d p y = bits w p ∙ elim (cases_eq p n) [
      | inl e ↦ or_right (bit w p) (eqb p n) (eq-eqb p n e)
      | inr k ↦ or_left (bit w p) (eqb p n) ((d p).1 (under p y.0 k, y.1))
    ]

abbrev Two : (ℕ → ℕ → Type 0) → List ℕ → Type 0
Two P [] = ⊥
Two P (a ∷ []) = ⊥
Two P (a ∷ b ∷ cs) = P a b

two : (P : ℕ → ℕ → Type 0) (a b : ℕ) → P a b → Sure ((a : ℕ) × (b : ℕ) × P a b × ((a' b' : ℕ) → P a' b' → Before (a ∷ b ∷ []) (a' ∷ b' ∷ [])))
two P a b p = then (first 2 (Two P) (a ∷ b ∷ []) refl p) (λ f. pick f.0 f.1 f.2 f.3)
  where
    pick : (ys : List ℕ) → length ys ≡ 2 → Two P ys → ((zs : List ℕ) → length zs ≡ 2 → Two P zs → Before ys zs) → Sure ((a : ℕ) × (b : ℕ) × P a b × ((a' b' : ℕ) → P a' b' → Before (a ∷ b ∷ []) (a' ∷ b' ∷ [])))
    pick [] l q f = absurd q
    pick (a ∷ []) l q f = absurd q
    pick (a ∷ b ∷ []) l q f = sure (a, b, q, λ a' b' r. f (a' ∷ b' ∷ []) refl r)
    pick (a ∷ b ∷ c ∷ cs) l q f = absurd (omega arith)

abbrev Three : (ℕ → ℕ → ℕ → Type 0) → List ℕ → Type 0
Three P [] = ⊥
Three P (a ∷ []) = ⊥
Three P (a ∷ b ∷ []) = ⊥
Three P (a ∷ b ∷ c ∷ cs) = P a b c

three : (P : ℕ → ℕ → ℕ → Type 0) (a b c : ℕ) → P a b c → Sure ((a : ℕ) × (b : ℕ) × (c : ℕ) × P a b c × ((a' b' c' : ℕ) → P a' b' c' → Before (a ∷ b ∷ c ∷ []) (a' ∷ b' ∷ c' ∷ [])))
three P a b c p = then (first 3 (Three P) (a ∷ b ∷ c ∷ []) refl p) (λ f. pick f.0 f.1 f.2 f.3)
  where
    pick : (ys : List ℕ) → length ys ≡ 3 → Three P ys → ((zs : List ℕ) → length zs ≡ 3 → Three P zs → Before ys zs) → Sure ((a : ℕ) × (b : ℕ) × (c : ℕ) × P a b c × ((a' b' c' : ℕ) → P a' b' c' → Before (a ∷ b ∷ c ∷ []) (a' ∷ b' ∷ c' ∷ [])))
    pick [] l q f = absurd q
    pick (a ∷ []) l q f = absurd q
    pick (a ∷ b ∷ []) l q f = absurd q
    pick (a ∷ b ∷ c ∷ []) l q f = sure (a, b, c, q, λ a' b' c' r. f (a' ∷ b' ∷ c' ∷ []) refl r)
    pick (a ∷ b ∷ c ∷ d ∷ ds) l q f = absurd (omega arith)

module _ (bank : List OfficeModel) (s : Scene) where
  shows : (Start : ℕ → Type 0) (o : ℕ) (set : SetModel) → (p : ℕ) × PlaceReached bank s Start o set p → Sure ((w : ℕ) × Marks bank s Start o set w × ((xs : List ℕ) × Shows bank s Start o set xs))
  shows Start o set x =
      then (marks (λ p. Reached (Step bank s.linked) Start (member_code o set p)) (length set.members)) (λ m.
      then (least (PlaceReached bank s Start o set) x.0 x.1) (λ low.
      then (best (Step bank s.linked) Start (member_code o set low.0) low.1.1) (λ b.
      sure (m.0, m.1, (b.0, record { place = low.0; shown = record { reached = low.1; lowest = low.2 }; best = b.1 })))))

  abbrev Findable : Type 0
  Findable = (f : Finding) × ((xs : List ℕ) × Finds bank s f xs)

  misled_found : (a b : ℕ) → Misled bank s a b → Sure Findable
  misled_found a b m = then (two (Misled bank s) a b m) (λ x.
      then (best (Step bank s.linked) (λ y. y ≡ x.0) x.1 (x.0, refl, x.2.3)) (λ y.
      sure (breaks_hierarchy x.0 x.1, (y.0, ((x.2, x.3), y.1)))))

  none_misled : (((a : ℕ) × ((b : ℕ) × Misled bank s a b)) → ⊥) → Hierarchy bank s
  none_misled none a b ra rb same l = (
    same,
    elim (cases_Bool ((office_at bank (office_of a)).over (role_of a) (role_of b)))
        [ inl e ↦ e | inr e ↦ absurd (none (a, (b, (ra, rb, same, l, λ o. both_ways _ e o.1)))) ],
  )

  module _ (lawful : LawfulBank bank) where
    excluded_found : Hierarchy bank s → (o k c : ℕ) → Overreached bank s (s.held c) o k → Sure Findable
    excluded_found h o k c m = then (three (λ o k c. Overreached bank s (s.held c) o k) o k c m) (λ x.
        then (shows (s.held x.2) x.0 (set_at bank x.0 x.1) (some_reached bank lawful s (s.held x.2) x.0 x.1 x.3)) (λ y.
        sure (breaks_exclusion x.0 x.1 x.2 y.0, (y.2.0, ((h, x.3, x.4, y.1), y.2.1)))))

    exposed_found : Hierarchy bank s → Exclusion bank s → (o k : ℕ) → Overreached bank s (Outsiders bank s o) o k → Sure Findable
    exposed_found h e o k m = then (two (λ o k. Overreached bank s (Outsiders bank s o) o k) o k m) (λ x.
        then (shows (Outsiders bank s x.0) x.0 (set_at bank x.0 x.1) (some_reached bank lawful s (Outsiders bank s x.0) x.0 x.1 x.2)) (λ y.
        sure (breaks_exposure x.0 x.1 y.0, (y.2.0, ((h, e, x.2, x.3, y.1), y.2.1)))))

    pub found : (Sound bank s → ⊥) → Sure Findable
    found bad = then (or_not ((a : ℕ) × ((b : ℕ) × Misled bank s a b))) (λ x. elim x [
      | inl m ↦ misled_found m.0 m.1.0 m.1.1
      | inr nm ↦ (let h = none_misled nm in
          then (or_not ((o : ℕ) × ((k : ℕ) × ((c : ℕ) × Overreached bank s (s.held c) o k)))) (λ y. elim y [
            | inl m ↦ excluded_found h m.0 m.1.0 m.1.1.0 m.1.1.1
            | inr ne ↦ (let e : Exclusion bank s = λ o k c r. ne (o, (k, (c, r))) in
                then (or_not ((o : ℕ) × ((k : ℕ) × Overreached bank s (Outsiders bank s o) o k))) (λ z. elim z [
                  | inl m ↦ exposed_found h e m.0 m.1.0 m.1.1
                  | inr nx ↦ absurd (bad (record { hierarchy = h; exclusion = e; exposure = λ o k r. nx (o, (k, r)) }))
                ]))
          ]))
    ])

module _ (bank : List OfficeModel) (lawful : LawfulBank bank) where
  reason : (c : Check) → Refuses bank c → Sure ((why : Reason) × Says bank c why)
  reason (r when P) p = sure (plain r, refl)
  reason (unless_sound s) bad = then (found bank s lawful bad) (λ x. sure (unsound x.0 x.1.0, (x.0, x.1.0, x.1.1, refl)))

  judged : (cs : List Check) (Else : Answer → Type 0) → Sure ((a : Answer) × Else a) → Sure ((a : Answer) × FirstRefusal bank cs Else a)
  judged [] Else x = x
  judged (c ∷ cs) Else x = then (or_not (Refuses bank c)) (λ y. elim y [
    | inl r ↦ then (reason c r) (λ w. sure (refused w.0, inl (r, (w.0, w.1, refl))))
    | inr n ↦ then (judged cs Else x) (λ z. sure (z.0, inr (n, z.1)))
  ])

  linked : (h : List Event) (n : ℕ) (l : Link) → Sure ((a : Answer) × LinkAnswer bank h n l a)
  linked h n l = judged (linking bank h n l) (λ b. b ≡ accepted) (sure (accepted, refl))

  -- a LINK is accepted or refused
  either_way : (cs : List Check) (a : Answer) → FirstRefusal bank cs (λ b. b ≡ accepted) a → (a ≡ accepted) ⊎ ((why : Reason) × (a ≡ refused why))
  either_way [] a x = inl x
  either_way (c ∷ cs) a (inl x) = inr (x.1.0, x.1.2)
  either_way (c ∷ cs) a (inr x) = either_way cs a x.1

  boxed : (n : ℕ) (ls : List Link) (h : List Event) (i : ℕ) → Sure ((a : Answer) × LinesAnswer bank n h i ls a)
  boxed n [] h i = sure (accepted, refl)
  boxed n (l ∷ ls) h i = then (linked h n l) (λ x. elim (either_way (linking bank h n l) x.0 x.1) [
    | inl e ↦ then (boxed n ls (accepting n (link l) h) (suc i)) (λ y. sure (y.0, inr (subst (λ a. LinkAnswer bank h n l a) e x.1, y.1)))
    | inr e ↦ sure (refused_at i e.0, inl (e.0, subst (λ a. LinkAnswer bank h n l a) e.1 x.1, refl))
  ])

  asked : (h : List Event) (c r : ℕ) → Sure ((a : Answer) × MayAnswer bank h c r a)
  asked h c r = then (or_not (Reached (Step bank (InForce h)) (Holds h c) r)) (λ x. elim x [
    | inl y ↦ then (best (Step bank (InForce h)) (Holds h c) r y) (λ b. sure (granted b.0, inl (b.0, b.1, refl)))
    | inr n ↦ sure (denied, inr (n, refl))
  ])

  unrefused : (h : List Event) (n : ℕ) (q : Request) → Sure ((a : Answer) × Unrefused bank h n q a)
  unrefused h n (issue c o) = sure (accepted, refl)
  unrefused h n (assign c r) = sure (accepted, refl)
  unrefused h n (relieve c r) = sure (accepted, refl)
  unrefused h n (handback c) = sure (accepted, refl)
  unrefused h n (trust o p) = sure (accepted, refl)
  unrefused h n (distrust o p) = sure (accepted, refl)
  unrefused h n (link l) = sure (accepted, refl)
  unrefused h n (try l) = sure (accepted, refl)
  unrefused h n (box ls) = boxed n ls h 0
  unrefused h n (suspend l) = sure (accepted, refl)
  unrefused h n (resume l) = sure (accepted, refl)
  unrefused h n (withdraw l) = sure (accepted, refl)
  unrefused h n (may c r) = asked h c r

pub some_answer : SomeAnswer
some_answer bank h n q lawful none = judged bank lawful (checks bank h n q) (Unrefused bank h n q) (unrefused bank lawful h n q) (λ x. none x.0 x.1)
