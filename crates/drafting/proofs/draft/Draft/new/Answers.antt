use Rattle.std.proofs.Common.{[], sym, ap, ◌∙◌, subst}
use Rattle.offices.specs.Bases.{base_roles, office_with}
use Rattle.offices.specs.Order.{within, itself_alone}
use Rattle.offices.specs.Drafting.{Drafted}
use Rattle.offices.proofs.Histories.{drafted_none}
use Rattle.drafting.specs.Within.{within_alone}
use Rattle.drafting.proofs.draft.Draft.new.Goals as goal

pub returns : goal.returns
returns g c =
    let b = c.new.result in
    let n = base_roles b in
    record {
      office = subst (Drafted c.args.roles [])
          (sym (ap (office_with b) (ap (within n) c.alone.ensures.over ∙ within_alone n b.table.few ∙ ap itself_alone c.new.ensures.1) ∙ c.new.ensures.0))
          (drafted_none c.args.roles);
      kind = c.alone.ensures.blank;
    }
