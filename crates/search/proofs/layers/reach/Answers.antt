use Rattle.std.proofs.Common.{◌≡◌, ℕ, ◌+◌, ◌≤◌, length, Some, sym, ◌∙◌, subst, ⊎_elim, arith}
use Rattle.search.specs.Layers.{marked, Layered, at_layer, distance}
use Rattle.search.proofs.Distances.{none_known, some_known, none_or_some}
use Rattle.search.proofs.Reaching.{going_none, going_more, going_room, arrives, stops}
use Rattle.search.proofs.layers.reach.Given as given
use Rattle.search.proofs.layers.reach.Goals as goal

pub loop-near-init : goal.loop-near-init
loop-near-init g c = going_none (g.G.Graph.size c.args.graph.now) (g.G.Graph.leads c.args.graph.now) (marked c.args.starts.now) c.args.target c.seed.new.d (omega arith) (λ v l. c.seed.ensures v (omega arith))

pub returns-then-count-eq0 : goal.returns-then-count-eq0
returns-then-count-eq0 g c =
    let n = g.G.Graph.size c.args.graph.now in
    let i = c.loop-near.invariant in
    let few = g.met.G.Graph.few c.args.graph.now in
    let e : length c.loop-near.near ≡ n = omega arith in
    let P : ℕ → Type 0 = λ x. c.layer-count.result ≡ at_layer c.loop-near.k c.loop-near.near x in
    stops n (g.G.Graph.leads c.args.graph.now) c.args.starts.now (g.met.G.Graph.inside c.args.graph.now) c.loop-near.k c.loop-near.near i.layered c.args.target c.loop-near.looked c.requires.all i.seen (sym (subst P e c.layer-count.ensures.many) ∙ c.if-count-eq0.true) (none_known _ _ c.is_none.ensures c.loop-near-test.true)

room : (g : given.Over) (c : goal.Else-count-eq0 g) → (c.layer-count.result ≡ at_layer c.loop-near.k c.loop-near.near (g.G.Graph.size c.args.graph.now)) × (c.loop-near.looked + c.layer-count.result ≤ g.G.Graph.size c.args.graph.now)
room g c =
    let n = g.G.Graph.size c.args.graph.now in
    let i = c.loop-near.invariant in
    let e : length c.loop-near.near ≡ n = omega arith in
    let P : ℕ → Type 0 = λ x. c.layer-count.result ≡ at_layer c.loop-near.k c.loop-near.near x in
    let many = subst P e c.layer-count.ensures.many in
    (many, going_room n (g.G.Graph.leads c.args.graph.now) (marked c.args.starts.now) c.loop-near.k c.loop-near.looked c.layer-count.result c.loop-near.near i.seen many)

pub overflow_add-looked : goal.overflow_add-looked
overflow_add-looked g c = let few = g.met.G.Graph.few c.args.graph.now in omega (arith, (room g c).1)

pub loop-near-smaller : goal.loop-near-smaller
loop-near-smaller g c = omega (arith, (room g c).1)

pub loop-near-preserved : goal.loop-near-preserved
loop-near-preserved g c =
    let n = g.G.Graph.size c.args.graph.now in
    let s = g.G.Graph.leads c.args.graph.now in
    let st = marked c.args.starts.now in
    let i = c.loop-near.invariant in
    let k = c.loop-near.k in
    let e : length c.loop-near.near ≡ n = omega arith in
    let P : ℕ → Type 0 = λ x. Layered x s st k c.loop-near.near → Layered x s st (k + 1) c.layer-count.new.d in
    let few = g.met.G.Graph.few c.args.graph.now in
    going_more n s st c.args.target k c.loop-near.looked c.layer-count.result c.loop-near.near c.layer-count.new.d i (none_known _ _ c.is_none.ensures c.loop-near-test.true) (subst P e (c.layer-count.ensures.next st) i.layered) c.layer-count.ensures.grown (room g c).0 (omega arith)

pub returns : goal.returns
returns g c =
    let n = g.G.Graph.size c.args.graph.now in
    let s = g.G.Graph.leads c.args.graph.now in
    let i = c.loop-near.invariant in
    let at : distance c.loop-near.near c.args.target ≡ Some c.loop-near.k = let far = some_known (distance c.loop-near.near c.args.target) _ c.is_none.ensures c.loop-near-test.false in ⊎_elim (λ x. absurd (none_or_some far.0 x far.1)) (λ x. x) i.target in
    arrives n s c.args.starts.now (g.met.G.Graph.inside c.args.graph.now) c.loop-near.k c.loop-near.near i.layered c.args.target c.loop-near.looked c.requires.all i.seen i.few at
