use Rattle.std.proofs.Common.{◌-◌, ◌&&◌, sym, ap, ◌∙◌, ap₂, arith}
use Rattle.std.proofs.lemmas.Bool.{lt-ltb}
use Rattle.tree_office.specs.Climb.{climb}
use Rattle.tree_office.specs.Seniors.{senior_in}
use Rattle.tree_office.specs.Climbing.{climb_found, climb_up, climb_top, climb_none, grows_from}
use Rattle.tree_office.proofs.trees.TreeSeniority.is_over.Goals as goal

pub returns-then-at-senior : goal.returns-then-at-senior
returns-then-at-senior c =
    let up = senior_in c.args.self.now in
    sym (ap₂ (λ x y. x && y) (lt-ltb c.args.junior 64 c.if-junior-ge64.false)
    (c.loop-turn.invariant.1 ∙ climb_found up (64 - c.loop-turn.turn) c.args.senior c.loop-turn.at (omega arith) c.if-at-senior.true))

pub returns-in_default : goal.returns-in_default
returns-in_default c =
    let up = senior_in c.args.self.now in
    sym (ap₂ (λ x y. x && y) (lt-ltb c.args.junior 64 c.if-junior-ge64.false)
    (c.loop-turn.invariant.1 ∙ climb_top up (64 - c.loop-turn.turn) c.args.senior c.loop-turn.at (omega arith) c.if-at-senior.false (sym c.in_default.ensures.value)))

pub loop-turn-preserved : goal.loop-turn-preserved
loop-turn-preserved c =
    let t = c.args.self.now in
    let up = senior_in t in
    let at = c.loop-turn.at in
    let next = sym c.in-Some.ensures.value in (
      ((grows_from 64 up t.grows).1.placed at c.in-Some.next next).1,
      c.loop-turn.invariant.1 ∙ climb_up up (64 - c.loop-turn.turn) c.args.senior at (omega arith) c.if-at-senior.false c.in-Some.next next
          ∙ ap (λ k. climb k up c.args.senior c.in-Some.next) (omega arith),
    )

pub returns : goal.returns
returns c =
    let up = senior_in c.args.self.now in
    sym (ap₂ (λ x y. x && y) (lt-ltb c.args.junior 64 c.if-junior-ge64.false)
    (c.loop-turn.invariant.1 ∙ climb_none up (64 - c.loop-turn.turn) c.args.senior c.loop-turn.at (omega arith)))
