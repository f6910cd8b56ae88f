use Rattle.std.proofs.Common.{◌≤◌, ap, ◌∙◌, ⊎_elim, arith}
use Rattle.offices.specs.Members.{holds}
use Rattle.std.proofs.lemmas.Bool.{cases_lt}
use Rattle.matrix_office.proofs.Joined.{joined_past}
use Rattle.matrix_office.proofs.rows.absorb.Goals as goal

pub returns : goal.returns
returns c a b =
    ⊎_elim
    (c.loop-row.invariant.0 a b)
    (λ (h : c.loop-row.row-index ≤ a). ap (λ s. holds s b) (c.loop-row.invariant.1 a h)
    ∙ joined_past c.args.rows.now c.args.senior (holds c.args.below) a b (omega arith))
    (cases_lt a c.loop-row.row-index)
