use Rattle.std.proofs.Common.{sym, subst, rules}
use mathlib.Core.Path.{fun_ext}
use Rattle.offices.specs.Order.{Order}
use Rattle.offices.proofs.Closing.{alone_order}
use Rattle.matrix_office.proofs.rows.MatrixSeniority.alone.Goals as goal

pub invariant_of-result : goal.invariant_of-result
invariant_of-result c =
    let same = fun_ext (λ a. fun_ext (λ b. c.diagonal.ensures a b)) in
    record { room = search rules; order = ∣ subst (Order 64) (sym same) (alone_order 64) ∣₁ }
