use Rattle.reach.specs.Rows.{rows_have}
use Rattle.reach.proofs.Places.{place_fresh}
use Rattle.reach.proofs.rows.Rows.new.Goals as goal

pub returns : goal.returns
unfolding rows_have
returns g c a b =
    let items = c.in_ok-rows.ensures.items_if_clones_equal (λ y e. e) in
    let none = place_fresh g.row.N c.empty.result a b (c.empty.ensures b) in
    cc
