-- A distance, or none.
use Rattle.std.proofs.Common.{◌≡◌, ℕ, ◌<◌, ◌≤◌, Bool, true, false, ◌⊎◌, Option, Some, None, sym, refl, ap, ◌∙◌, inl, inr, not, arith}
use Rattle.std.proofs.lemmas.Option.{none-some, same_Some}
use Rattle.std.proofs.lemmas.Bool.{ltb-true, lt-ltb, le-ltb, eq-eqb, ne_eqb, eqb-false, false≢true}
use Rattle.std.specs.Option.{is_some}
use Rattle.search.specs.Layers.{is_at, is_below}

pub cases_distance : (o : Option ℕ) → (o ≡ None) ⊎ ((j : ℕ) × (o ≡ Some j))
cases_distance None = inl refl
cases_distance (Some j) = inr (j, refl)

pub none_or_some : {o : Option ℕ} (j : ℕ) → o ≡ None → o ≡ Some j → ⊥
none_or_some j a b = none-some j (sym a ∙ b)

pub one_distance : {o : Option ℕ} (i j : ℕ) → o ≡ Some i → o ≡ Some j → i ≡ j
one_distance i j a b = same_Some i j (sym a ∙ b)

pub below_true : (k : ℕ) (o : Option ℕ) → is_below k o ≡ true → (j : ℕ) × (o ≡ Some j) × (j < k)
below_true k None h = absurd (false≢true h)
below_true k (Some j) h = (j, refl, ltb-true j k h)

pub below_some : (k j : ℕ) (o : Option ℕ) → o ≡ Some j → j < k → is_below k o ≡ true
below_some k j o e l = ap (is_below k) e ∙ lt-ltb j k l

pub below_far : (k j : ℕ) (o : Option ℕ) → o ≡ Some j → k ≤ j → is_below k o ≡ false
below_far k j o e l = ap (is_below k) e ∙ le-ltb j k l

pub below_none : (k : ℕ) (o : Option ℕ) → o ≡ None → is_below k o ≡ false
below_none k o e = ap (is_below k) e

pub below_zero : (o : Option ℕ) → is_below 0 o ≡ false
below_zero None = refl
below_zero (Some j) = le-ltb j 0 (omega arith)

pub at_some : (k : ℕ) (o : Option ℕ) → o ≡ Some k → is_at k o ≡ true
at_some k o e = ap (is_at k) e ∙ eq-eqb k k refl

pub at_other : (k : ℕ) (o : Option ℕ) → (o ≡ Some k → ⊥) → is_at k o ≡ false
at_other k None h = refl
at_other k (Some j) h = ne_eqb j k (λ e. h (ap Some e))

pub at_false : (k : ℕ) (o : Option ℕ) → is_at k o ≡ false → o ≡ Some k → ⊥
at_false k o h e = eqb-false k k (sym (ap (is_at k) e) ∙ h) refl

pub none_known : (o : Option ℕ) (r : Bool) → is_some o ≡ not r → r ≡ true → o ≡ None
none_known None r e h = refl
none_known (Some j) r e h = absurd (false≢true (sym (e ∙ ap not h)))

pub some_known : (o : Option ℕ) (r : Bool) → is_some o ≡ not r → r ≡ false → (j : ℕ) × (o ≡ Some j)
some_known None r e h = absurd (false≢true (e ∙ ap not h))
some_known (Some j) r e h = (j, refl)
