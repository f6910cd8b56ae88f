use Rattle.std.proofs.Common.{◌≡◌, length}
use Rattle.search.specs.Layers.{marked}
use Rattle.search.specs.Walks.{Walked, node_before}
use Rattle.search.proofs.best.walk.Given as goal

abbrev pub invariant-loop-i : goal.invariant-loop-i
invariant-loop-i g l = Walked (length l.home) (g.G.Graph.leads l.graph) (marked l.starts) l.steps l.home l.i l.strip × (l.before ≡ node_before l.strip l.i)
