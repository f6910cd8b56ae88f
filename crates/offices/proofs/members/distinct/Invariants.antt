use Rattle.std.proofs.Common.{◌≡◌, drop}
use Rattle.offices.specs.Drafting.{all_differ}
use Rattle.offices.proofs.members.distinct.Given as goal

abbrev pub invariant-loop-at : goal.invariant-loop-at
invariant-loop-at l = all_differ l.members ≡ all_differ (drop l.at l.members)
