use Rattle.std.proofs.Common.{sym, ap, subst}
use mathlib.Core.Path.{fun_ext}
use Rattle.offices.specs.Members.{row_holds}
use Rattle.offices.specs.Model.{OfficeModel}
use Rattle.offices.specs.Order.{Order}
use Rattle.directory.proofs.entry.OfficeEntry.read.Goals as goal

pub invariant_of-result : goal.invariant_of-result
invariant_of-result g c =
    let m = g.O.Office.model c.args.office.now in
    let law = g.met.O.Office.lawful c.args.office.now in
    let over = fun_ext (λ a. fun_ext (λ b. c.seniority_of.ensures a b)) in
    let base = c.base_of-base.ensures in
    record {
      order = ∣ subst (λ n. Order n (row_holds c.seniority_of.result)) (sym (ap (λ (x : OfficeModel). x.roles) base)) (subst (Order m.roles) (sym over) law.order) ∣₁;
      words = ∣ c.words_of.ensures ∣₁;
    }
