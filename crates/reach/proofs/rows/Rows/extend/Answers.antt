use Rattle.std.proofs.Common.{◌<◌, ◌≤◌, ap, ◌∙◌, ⊎_elim, arith}
use Rattle.std.proofs.lemmas.List.{with_items_is}
use Rattle.std.proofs.lemmas.Bool.{cases_lt}
use Rattle.std.proofs.lemmas.Bool.Decides.{nat_tests}
use Rattle.reach.specs.Rows.{rows_have}
use Rattle.reach.specs.Within.{rows_past}
use Rattle.reach.proofs.Places.{at_place}
use Rattle.reach.proofs.rows.Rows.extend.Goals as goal

pub returns : goal.returns
unfolding rows_have
returns g c a b =
    let t = c.args.self.now in let xs = c.loop-row.row-items in let known = c.loop-row.invariant in
    ap (λ l. at_place l a b) (with_items_is t.rows xs (omega arith))
    ∙ ⊎_elim
    (λ (h : a < c.loop-row.row-index). known.done a b h)
    (λ (h : c.loop-row.row-index ≤ a). known.rest a b h ∙ grind (arith, nat_tests, rows_past t a c.args.from))
    (cases_lt a c.loop-row.row-index)
