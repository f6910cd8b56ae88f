use Rattle.std.proofs.Common.{ℕ, ◌-◌, Option, length, sym, subst, arith}
use Rattle.search.specs.Layers.{marked}
use Rattle.search.specs.Walks.{SomeBelow, Least, Passing, goes_on}
use Rattle.search.proofs.Walking.{walked_more, walked_next, before_more}
use Rattle.search.proofs.best.walk.Goals as goal

pub next_node-v-requires-clause-some : goal.next_node-v-requires-clause-some
next_node-v-requires-clause-some g c =
    let n = length c.args.home.now in
    let s = g.G.Graph.leads c.args.graph.now in
    let st = marked c.args.starts.now in
    let k = c.args.steps in
    let d = c.args.home.now in
    let i = c.loop-i.i in
    let P : Option ℕ → Type 0 = λ x. SomeBelow n (Passing (goes_on s st x) d (k - i)) in
    subst P (sym c.loop-i.invariant.1) (walked_next n s st k d c.requires.start c.requires.down i c.loop-i.strip (omega arith) c.loop-i.invariant.0)

pub loop-i-preserved : goal.loop-i-preserved
loop-i-preserved g c =
    let n = length c.args.home.now in
    let s = g.G.Graph.leads c.args.graph.now in
    let st = marked c.args.starts.now in
    let k = c.args.steps in
    let d = c.args.home.now in
    let i = c.loop-i.i in
    let v = c.next_node-v.result in
    let P : Option ℕ → Type 0 = λ x. Least n (Passing (goes_on s st x) d (k - i)) v in
    (walked_more n s st k d i v c.loop-i.strip (omega arith) c.loop-i.invariant.0 (subst P c.loop-i.invariant.1 c.next_node-v.ensures), before_more i v c.loop-i.strip (omega arith))
