use Rattle.std.proofs.Common.{refl, ap, ◌∙◌}
use Rattle.offices.specs.Bases.{base_roles, office_with}
use Rattle.offices.specs.Order.{within}
use Rattle.offices.proofs.Histories.{keeps_to}
use Rattle.drafting.proofs.draft.Draft.exclude.Goals as goal

pub returns : goal.returns
returns g c =
    let d = c.args.self.now.office in
    let over = g.S.Seniority.over d.seniority in
    let seen = within (base_roles d.base) over in
    let e = c.exclude.ensures in
    let alike = ap (λ n. office_with c.exclude.new.self (within n over)) e.kept in
    record {
      answer = e.answer;
      after = alike ∙ e.after seen;
      kind = refl;
      history = keeps_to _ _ _ _ _ alike (e.history seen);
    }
