use Rattle.std.proofs.Common.{◌-◌}
use Rattle.search.specs.Layers.{marked, Going}
use Rattle.search.proofs.layers.reach.Given as goal

abbrev pub invariant-loop-near : goal.invariant-loop-near
invariant-loop-near g l = Going (g.G.Graph.size l.graph) (g.G.Graph.leads l.graph) (marked l.starts) l.target l.k l.looked l.near

abbrev pub decreases-loop-near : goal.decreases-loop-near
decreases-loop-near g l = g.G.Graph.size l.graph - l.looked
