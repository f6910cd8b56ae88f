use Rattle.std.proofs.Common.{◌≡◌, true, arith, rules}
use Rattle.std.proofs.lemmas.Bool.{false_from_ne_true}
use Rattle.directory.proofs.Rows.{rows_made}
use Rattle.directory.proofs.seniority.seniority_of.Goals as goal

pub returns : goal.returns
returns g c =
    let m = g.O.Office.model c.args.office.now in
    let law = g.met.O.Office.lawful c.args.office.now in
    rows_made _ m.over _ 64 (λ k y f' l h. search rules) c.from_fn.result c.from_fn.ensures.items
    (λ a b l. false_from_ne_true (m.over a b) (λ (h : m.over a b ≡ true). let inside = law.order.inside a b h in omega (arith, law.few)))
