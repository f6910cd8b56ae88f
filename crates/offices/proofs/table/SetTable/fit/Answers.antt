use Rattle.std.proofs.Common.{◌≡◌, inl, inr, sym, ap, ◌∙◌, subst, arith}
use Rattle.std.specs.List.{AllByRecursion}
use Rattle.offices.specs.Bases.{table_sets}
use Rattle.offices.specs.Model.{Shaped}
use Rattle.offices.specs.Sets.{sets_of, fitted}
use Rattle.offices.proofs.Fitted.{cut, sets_front, fitted_shaped}
use Rattle.offices.proofs.Lawfulness.{table_shaped}
use Rattle.offices.proofs.table.SetTable.fit.Goals as goal
use Rattle.offices.proofs.table.SetTable.fit.Goals.{then-self-roles, else-self-roles}

pub invariant_of-self : goal.invariant_of-self
invariant_of-self c =
    let d = c.args.self.now in
    let roles = c.min-roles.result in
    let k = c.if-self-roles.room in
    let e : sets_of c.min-self.result d.sets ≡ fitted d.roles roles c.args.room (table_sets d) =
    ap (λ n. sets_of n d.sets) c.min-self.ensures ∙ sets_front d.count k d.sets (omega arith)
    ∙ cut d.roles roles c.args.room k (table_sets d)
    (elim c.if-self-roles.branch [ then-self-roles w ↦ inl (omega arith, omega arith) | else-self-roles w ↦ inr (omega arith, omega arith) ]) in
    record {
      few = omega arith;
      eight = omega arith;
      room = d.room;
      shaped = ∣ subst (AllByRecursion (Shaped roles)) (sym e) (fitted_shaped d.roles roles c.args.room (table_sets d) (table_shaped d)) ∣₁;
    }

pub returns-clause-sets : goal.returns-clause-sets
returns-clause-sets c =
    let d = c.args.self.now in
    let roles = c.min-roles.result in
    let k = c.if-self-roles.room in
    ap (λ n. sets_of n d.sets) c.min-self.ensures ∙ sets_front d.count k d.sets (omega arith)
    ∙ cut d.roles roles c.args.room k (table_sets d)
    (elim c.if-self-roles.branch [ then-self-roles w ↦ inl (omega arith, omega arith) | else-self-roles w ↦ inr (omega arith, omega arith) ])
    ∙ ap (λ r. fitted d.roles r c.args.room (table_sets d)) c.min-roles.ensures
