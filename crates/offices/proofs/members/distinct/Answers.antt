use Rattle.std.proofs.Common.{◌≡◌, ℕ, ◌+◌, ◌-◌, ◌<◌, Bool, true, false, not, ◌&&◌, ◌||◌, eqb, List, [], ◌∷◌, length, get_or, take, drop, sym, refl, ap, ◌∙◌, arith}
use Rattle.std.specs.List.{list_any}
use Rattle.std.proofs.lemmas.List.{at_drop_more, take_rest}
use Rattle.offices.specs.Drafting.{missing, all_differ}
use Rattle.offices.proofs.members.distinct.Goals as goal

neither : (x y : Bool) → (not x && not y) ≡ not (x || y)
neither true y = refl
neither false y = refl

missing_is : (x : ℕ) (ys : List ℕ) → missing x ys ≡ not (list_any (λ y. eqb y x) ys)
missing_is x [] = refl
missing_is x (y ∷ ys) = ap (λ b. not (eqb y x) && b) (missing_is x ys) ∙ neither (eqb y x) (list_any (λ z. eqb z x) ys)

one_more : (xs : List ℕ) (i : ℕ) (found : Bool) → i < length xs → found ≡ list_any (λ y. eqb y (get_or xs i 0)) (take (length xs - (i + 1)) (drop (i + 1) xs)) → all_differ (drop i xs) ≡ (not found && all_differ (drop (i + 1) xs))
one_more xs i found l f =
    at_drop_more all_differ xs i 0 l
    ∙ ap (λ b. b && all_differ (drop (i + 1) xs))
    (missing_is (get_or xs i 0) (drop (i + 1) xs) ∙ ap not (ap (list_any (λ y. eqb y (get_or xs i 0))) (sym (take_rest xs (i + 1))) ∙ sym f))

pub returns-then-contains : goal.returns-then-contains
returns-then-contains c =
    let xs = c.args.members.now in let i = c.loop-at.at in
    sym (c.loop-at.invariant ∙ one_more xs i c.contains.result (omega arith) c.contains.ensures.value ∙ ap (λ b. not b && all_differ (drop (i + 1) xs)) c.if-contains.true)

pub loop-at-preserved : goal.loop-at-preserved
loop-at-preserved c =
    let xs = c.args.members.now in let i = c.loop-at.at in
    c.loop-at.invariant ∙ one_more xs i c.contains.result (omega arith) c.contains.ensures.value ∙ ap (λ b. not b && all_differ (drop (i + 1) xs)) c.if-contains.false
