-- The facts of an office have one proof at most, so they come out of a truncation.
use Rattle.std.proofs.Common.{◌≡◌, ℕ, Bool, List, [], ◌∷◌}
use mathlib.Core.Logic.{∥∥₁_elim}
use denote.Struct.Props.{props}
use Rattle.std.specs.List.{AllByRecursion}
use Rattle.offices.specs.Order.{Order}
use Rattle.offices.specs.Model.{SetModel, Shaped}

same : {A : Type 0} (x y : A) → IsProp A → x ≡ y
same x y p = p x y

pub order_prop : (n : ℕ) (over : ℕ → ℕ → Bool) → IsProp (Order n over)
order_prop n over p q = λ i. record {
  inside = same p.inside q.inside (hlevel props) i;
  itself = same p.itself q.itself (hlevel props) i;
  apart = same p.apart q.apart (hlevel props) i;
  across = same p.across q.across (hlevel props) i;
}

all_prop : {X : Type 0} (P : X → Type 0) → ((x : X) → IsProp (P x)) → (xs : List X) → IsProp (AllByRecursion P xs)
all_prop P h [] p q = hlevel props
all_prop P h (x ∷ xs) p q = λ i. (h x p.0 q.0 i, all_prop P h xs p.1 q.1 i)

pub shaped_prop : (n : ℕ) (s : SetModel) → IsProp (Shaped n s)
shaped_prop n s p q = λ i. record {
  least = same p.least q.least (hlevel props) i;
  most = same p.most q.most (hlevel props) i;
  low = same p.low q.low (hlevel props) i;
  high = same p.high q.high (hlevel props) i;
  exist = all_prop _ (λ r. hlevel props) _ p.exist q.exist i;
  differ = same p.differ q.differ (hlevel props) i;
}

pub order_from : (n : ℕ) (over : ℕ → ℕ → Bool) → ∥ Order n over ∥₁ → Order n over
order_from n over t = ∥∥₁_elim t (order_prop n over) (λ o. o)

pub shaped_from : (n : ℕ) (sets : List SetModel) → ∥ AllByRecursion (Shaped n) sets ∥₁ → AllByRecursion (Shaped n) sets
shaped_from n sets t = ∥∥₁_elim t (all_prop (Shaped n) (shaped_prop n) sets) (λ o. o)
