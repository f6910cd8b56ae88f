-- The best chain, the counts and the outcome are the only ones.
use Rattle.std.proofs.Common.{◌≡◌, ℕ, ◌≤◌, Bool, List, [], ◌∷◌, ◌++◌, length, drop, sym, refl, ap, ◌∙◌, ⊎_elim, arith, Ok, Err, Some, None, Option, Result}
use Rattle.search.specs.declared.Outcome.{Outcome}
use Rattle.search.specs.declared.Unfit.{Unfit}
use Rattle.search.specs.Chains.{Best, Before, Number, Nearer, Reached}
use Rattle.search.specs.Outcomes.{Fitting, Searched}
use Rattle.search.specs.Asked.{Steps, Marked}
use Rattle.search.proofs.Tallies.{tally_mono}
use Rattle.search.specs.Laws.{OneBest, OneNearer, OneReached, NearerFew, OneOutcome}

-- two lists as long, each before the other, are one
pub before_same : (xs ys : List ℕ) → length xs ≡ length ys → Before xs ys → Before ys xs → xs ≡ ys
before_same [] [] l p q = refl
before_same [] (y ∷ ys) l p q = absurd (omega arith)
before_same (x ∷ xs) [] l p q = absurd p
before_same (x ∷ xs) (y ∷ ys) l p q = ⊎_elim
    (λ a. ⊎_elim (λ b. absurd (omega arith)) (λ b. absurd (omega (arith, b.0))) q)
    (λ a. ⊎_elim
    (λ b. absurd (omega (arith, a.0)))
    (λ b. let e = a.0 in let f = before_same xs ys (omega arith) a.1 b.1 in cc)
    q)
    p

pub best_same : (S : ℕ → ℕ → Type 0) (Start : ℕ → Type 0) (t : ℕ) (xs ys : List ℕ) → Best S Start t xs → Best S Start t ys → xs ≡ ys
best_same S Start t xs ys p q =
    let a = p.shortest q.from ys q.starts q.leads in
    let b = q.shortest p.from xs p.starts p.leads in
    let l : length xs ≡ length ys = omega arith in
    before_same xs ys l (p.first q.from ys q.starts q.leads (sym l)) (q.first p.from xs p.starts p.leads l)

pub number_le : (P Q : ℕ → Type 0) (n a b : ℕ) → ((v : ℕ) → P v → Q v) → Number n P a → Number n Q b → a ≤ b
number_le P Q n a b f x y =
    let m = tally_mono x.0 y.0 n (λ v l e. (y.1 v l).1 (f v ((x.1 v l).0 e))) in
    omega (arith, x.2, y.2)

pub number_same : (P : ℕ → Type 0) (n a b : ℕ) → Number n P a → Number n P b → a ≡ b
number_same P n a b x y = omega (arith, number_le P P n a b (λ v h. h) x y, number_le P P n b a (λ v h. h) y x)

pub one_best : OneBest
one_best n leads starts t xs ys p q = best_same (Steps leads) (Marked n starts) t xs ys p q

pub one_nearer : OneNearer
one_nearer n leads starts t a b x y = number_same (Nearer (Steps leads) (Marked n starts) t) n a b x y

pub one_reached : OneReached
one_reached n leads starts a b x y = number_same (Reached (Steps leads) (Marked n starts)) n a b x y

pub nearer_few : NearerFew
nearer_few n leads starts t a b x y =
    number_le (Nearer (Steps leads) (Marked n starts) t) (Reached (Steps leads) (Marked n starts)) n a b (λ v h. (h.0, h.2, (h.1, h.3))) x y

pub best_reached : (S : ℕ → ℕ → Type 0) (Start : ℕ → Type 0) (t : ℕ) (xs : List ℕ) → Best S Start t xs → Reached S Start t
best_reached S Start t xs b = (b.from, b.starts, (xs, b.leads))

abbrev made : Option ℕ → ℕ → Outcome
made len looked = record { len = len; looked = looked }

abbrev told : Result Outcome Unfit → Result Outcome Unfit
told r = r

fitted : (n : ℕ) (leads : ℕ → ℕ → Bool) (starts : List Bool) (t near home : ℕ) (old new : List ℕ) (len : Option ℕ) (looked : ℕ) → Searched n leads starts t near home old new (Ok (made len looked)) → Fitting n t (length starts) near home (length old)
fitted n leads starts t near home old new None looked p = p.fitting
fitted n leads starts t near home old new (Some len) looked p = p.fitting

one_found : (n : ℕ) (leads : ℕ → ℕ → Bool) (starts : List Bool) (t near home : ℕ) (old new new' : List ℕ) (len len' : Option ℕ) (looked looked' : ℕ) → Searched n leads starts t near home old new (Ok (made len looked)) → Searched n leads starts t near home old new' (Ok (made len' looked')) → (told (Ok (made len looked)) ≡ told (Ok (made len' looked'))) × (new ≡ new')
one_found n leads starts t near home old new new' (Some len) (Some len') looked looked' p q =
    let c = one_best n leads starts t p.chain q.chain p.best q.best in
    let l : len ≡ len' = sym p.long ∙ ap length c ∙ q.long in
    let k : looked ≡ looked' = one_nearer n leads starts t looked looked' p.count q.count in
    (cc, p.strip ∙ ap (λ x. x ++ drop len old) c ∙ ap (λ x. q.chain ++ drop x old) l ∙ sym q.strip)
one_found n leads starts t near home old new new' (Some len) None looked looked' p q =
    absurd (q.none (best_reached (Steps leads) (Marked n starts) t p.chain p.best))
one_found n leads starts t near home old new new' None (Some len') looked looked' p q =
    absurd (p.none (best_reached (Steps leads) (Marked n starts) t q.chain q.best))
one_found n leads starts t near home old new new' None None looked looked' p q =
    let k : looked ≡ looked' = one_reached n leads starts looked looked' p.count q.count in
    (cc, p.strip ∙ sym q.strip)

pub one_outcome : OneOutcome
one_outcome n leads starts t near home old new new' (Ok o) (Ok o') p q = one_found n leads starts t near home old new new' o.len o'.len o.looked o'.looked p q
one_outcome n leads starts t near home old new new' (Ok o) (Err e) p q = absurd (q.0 (fitted n leads starts t near home old new o.len o.looked p))
one_outcome n leads starts t near home old new new' (Err e) (Ok o) p q = absurd (p.0 (fitted n leads starts t near home old new' o.len o.looked q))
one_outcome n leads starts t near home old new new' (Err e) (Err e') p q = (refl, p.1 ∙ sym q.1)
