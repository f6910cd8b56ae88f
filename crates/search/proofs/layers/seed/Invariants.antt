use Rattle.search.specs.Layers.{marked, Begun}
use Rattle.search.proofs.layers.seed.Given as goal

abbrev pub invariant-loop-v : goal.invariant-loop-v
invariant-loop-v l = Begun (marked l.starts) l.v l.d
