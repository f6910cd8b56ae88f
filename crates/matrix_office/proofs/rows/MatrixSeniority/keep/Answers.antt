use Rattle.std.proofs.Common.{sym, ◌∙◌, subst, rules}
use mathlib.Core.Path.{fun_ext}
use Rattle.offices.specs.Members.{row_holds}
use Rattle.offices.specs.Order.{Order}
use Rattle.offices.proofs.Closing.{grown_order}
use Rattle.offices.proofs.Props.{order_from}
use Rattle.drafting.proofs.KeepAnswers.{storable_pair}
use Rattle.matrix_office.proofs.rows.MatrixSeniority.keep.Goals as goal

pub invariant_of-self : goal.invariant_of-self
invariant_of-self c =
    let over = row_holds c.args.self.now.rows in
    let may = storable_pair c.is_over.result c.args.senior c.args.junior (sym c.in_ok-storable.was ∙ c.storable.ensures) in
    let same = fun_ext (λ a. fun_ext (λ b. c.absorb.ensures a b)) in
    let order = order_from 64 over c.args.self.now.order in
    record {
      room = search rules;
      order = ∣ subst (Order 64) (sym same) (grown_order 64 over order c.args.senior c.args.junior (sym c.is_over.ensures ∙ may.2)) ∣₁;
    }
