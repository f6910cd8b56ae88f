use Rattle.std.proofs.Common.{length}
use Rattle.search.specs.Layers.{Layered, turned, only}
use Rattle.search.proofs.layers.homing.Given as goal

abbrev pub invariant-loop-k : goal.invariant-loop-k
invariant-loop-k g l = Layered (length l.fn.home) (turned (g.G.Graph.leads l.graph)) (only l.target) l.k l.home
