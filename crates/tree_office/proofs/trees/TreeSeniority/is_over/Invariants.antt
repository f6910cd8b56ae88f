use Rattle.std.proofs.Common.{◌≡◌, ◌-◌, ◌<◌}
use Rattle.tree_office.specs.Climb.{climb}
use Rattle.tree_office.specs.Seniors.{senior_in}
use Rattle.tree_office.proofs.trees.TreeSeniority.is_over.Given as goal

abbrev pub invariant-loop-turn : goal.invariant-loop-turn
invariant-loop-turn l = (l.at < 64) × (climb 64 (senior_in l.self) l.senior l.junior ≡ climb (64 - l.turn) (senior_in l.self) l.senior l.at)
