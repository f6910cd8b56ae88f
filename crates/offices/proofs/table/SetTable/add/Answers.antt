use Rattle.std.proofs.Common.{sym, subst, arith, rules}
use Rattle.std.specs.List.{AllByRecursion}
use Rattle.std.proofs.ByRecursion.{All-push}
use Rattle.offices.specs.Bases.{table_sets}
use Rattle.offices.specs.Model.{Shaped}
use Rattle.offices.specs.Sets.{set_model}
use Rattle.offices.proofs.Lawfulness.{table_shaped}
use Rattle.offices.proofs.SetShape.{sets_push, shaped_good}
use Rattle.offices.proofs.table.SetTable.add.Goals as goal

pub invariant_of-self : goal.invariant_of-self
invariant_of-self c =
    let d = c.args.self.now in
    let set = c.exclusive_set-set.result in
    let new = subst (Shaped d.roles) (sym c.exclusive_set-set.ensures) (shaped_good d.roles c.args.members.now c.args.bound (sym c.if-not-well_formed.ensures) (sym c.if-not-exist.ensures)) in
    record {
      few = d.few;
      eight = search rules;
      room = search rules;
      shaped =
          ∣ subst (AllByRecursion (Shaped d.roles)) (sym (sets_push d.count d.sets set (omega arith)))
          (All-push (Shaped d.roles) (table_sets d) (set_model set) (table_shaped d) new) ∣₁;
    }
