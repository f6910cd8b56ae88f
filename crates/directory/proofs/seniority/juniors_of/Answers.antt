use Rattle.std.proofs.Common.{◌≤◌, ◌∙◌, arith, rules}
use Rattle.std.proofs.lemmas.Iterator.{YieldsList-from_range}
use Rattle.std.proofs.lemmas.Iterator.Consumers.{YieldsList-from_filter}
use Rattle.directory.proofs.Folding.{roles_folded}
use Rattle.directory.proofs.Gathering.{among_filtered}
use Rattle.directory.proofs.seniority.juniors_of.Goals as goal
use Rattle.directory.proofs.seniority.juniors_of.Goals.{then-senior-roles, else-senior-roles}

pub returns : goal.returns
returns g c i =
    let m = g.O.Office.model c.args.office.now in
    let law = g.met.O.Office.lawful c.args.office.now in
    let over = m.over c.args.senior in
    let n = c.if-senior-roles.asked in
    let few : n ≤ 64 = elim c.if-senior-roles.branch [ then-senior-roles w ↦ omega (arith, law.few, c.requires) | else-senior-roles w ↦ omega arith ] in
    roles_folded _ (λ x. x) _ _ _ _ _ _ c.fold.ensures.ran
    (YieldsList-from_filter _ over (YieldsList-from_range 0 n n c.filter.ensures.source (omega arith)) c.filter.ensures.closure (λ x b q k. search rules)) c.empty.ensures (λ w x b q k. search rules) i
    ∙ among_filtered over n few
    (λ j h.
    let inside = law.order.inside c.args.senior j h in
    elim c.if-senior-roles.branch [ then-senior-roles w ↦ omega (arith, inside, c.requires) | else-senior-roles w ↦ omega (arith, inside, c.requires) ]) i
