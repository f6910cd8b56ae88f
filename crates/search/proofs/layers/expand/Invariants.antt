use Rattle.search.specs.Layers.{Spread}
use Rattle.search.proofs.layers.expand.Given as goal

abbrev pub invariant-loop-v : goal.invariant-loop-v
invariant-loop-v g l = Spread (g.G.Graph.leads l.graph) l.u l.k l.v l.initial.d l.d
