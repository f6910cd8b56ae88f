use Rattle.std.proofs.Common.{length, arith, refl, ap, ◌∙◌, sym, subst}
use Rattle.offices.proofs.RowFacts.{row_replicate}
use Rattle.list_office.specs.Pairs.{Acyclic, Rows, closed_by}
use Rattle.list_office.proofs.PairFacts.{acyclic_none, closed_none}
use Rattle.list_office.proofs.lists.PairListSeniority.alone.Goals as goal

pub invariant_of-result : goal.invariant_of-result
invariant_of-result c = record {
  most = omega (arith, c.new.ensures, ap length c.new.ensures);
  rows = refl;
  steps = ∣ subst (Rows _) (sym c.new.ensures) (λ a b. row_replicate 64 c.empty.result a b c.empty.ensures) ∣₁;
  order = ∣ subst (Acyclic 64) (sym c.new.ensures) (acyclic_none 64) ∣₁;
}

pub returns-clause-over : goal.returns-clause-over
returns-clause-over c = ap (closed_by 64) c.new.ensures ∙ closed_none 64
