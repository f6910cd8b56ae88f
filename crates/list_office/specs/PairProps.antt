-- The facts of a list of pairs have one proof at most, so they come out of a truncation.
use Rattle.std.specs.Prelude.{◌≡◌, ℕ, ◌<◌, Bool, true, List}
use Rattle.std.proofs.Common.{sym, ◌∙◌}
use Rattle.std.proofs.Math.Logic.{∥∥₁_elim}
use denote.Struct.Props.{props}
use Rattle.offices.proofs.Props.{order_prop}
use Rattle.offices.specs.Members.{row_holds}
use Rattle.list_office.specs.declared.pair.Pair.{Pair}
use Rattle.list_office.specs.declared.list.PairList.{PairList}
use Rattle.list_office.specs.Listed.{pairs_in}
use Rattle.list_office.specs.Pairs.{Acyclic, Rows, closed_by}

same : {A : Type 0} (x y : A) → IsProp A → x ≡ y
same x y p = p x y

acyclic_prop : (n : ℕ) (ps : List Pair) → IsProp (Acyclic n ps)
acyclic_prop n ps p q = λ i. record {
  inside = same p.inside q.inside (hlevel props) i;
  order = order_prop n (closed_by n ps) p.order q.order i;
}

pub acyclic_from : (n : ℕ) (ps : List Pair) → ∥ Acyclic n ps ∥₁ → Acyclic n ps
acyclic_from n ps t = ∥∥₁_elim t (acyclic_prop n ps) (λ a. a)

pub rows_from : (steps : ℕ → ℕ → Bool) (ps : List Pair) → ∥ Rows steps ps ∥₁ → Rows steps ps
rows_from steps ps t = ∥∥₁_elim t (hlevel props) (λ r. r)

-- a step leads between two roles
pub steps_inside : (l : PairList) (a b : ℕ) → row_holds l.juniors a b ≡ true → (a < 64) × (b < 64)
steps_inside l a b h = (acyclic_from 64 (pairs_in l) l.order).inside a b (sym (rows_from (row_holds l.juniors) (pairs_in l) l.steps a b) ∙ h)
