use Rattle.std.proofs.Common.{length}
use Rattle.search.specs.Layers.{Turning}
use Rattle.search.proofs.layers.layer.Given as goal

abbrev pub invariant-loop-u : goal.invariant-loop-u
invariant-loop-u g l = Turning (length l.initial.d) (g.G.Graph.leads l.graph) l.k l.u l.count l.initial.d l.d
