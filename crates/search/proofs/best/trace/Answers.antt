use Rattle.std.proofs.Common.{◌≡◌, ◌+◌, ◌-◌, length, subst, arith}
use Rattle.search.specs.Asked.{Steps, Marked}
use Rattle.search.specs.Arrivals.{Shortest}
use Rattle.search.specs.Layers.{Layered, marked, masked, turned, only}
use Rattle.search.specs.Inside.{masked_inside}
use Rattle.search.specs.Walks.{Walked, SomeBelow, Passing, Descends}
use Rattle.search.proofs.Walking.{starting, descends, walked_best}
use Rattle.search.proofs.Masking.{shortest_mask, best_unmask}
use Rattle.search.proofs.best.trace.Goals as goal

pub walk-requires-clause-start : goal.walk-requires-clause-start
walk-requires-clause-start g c =
    let n = g.G.Graph.size c.args.graph.now in
    let s = g.G.Graph.leads c.args.graph.now in
    let marks = c.args.starts.now in
    let t = c.args.target in
    let k = length c.args.strip.now - 1 in
    let f = c.args.near.now in
    let d = c.homing.new.home in
    let few = g.met.G.Graph.few c.args.graph.now in
    let inside = g.met.G.Graph.inside c.args.graph.now in
    let e : length c.args.home.now ≡ n = omega arith in
    let e' : n ≡ length d = omega arith in
    let l : length c.args.strip.now ≡ k + 1 = omega arith in
    let sh : Shortest (Steps s) (Marked n marks) t (k + 1) = subst (λ x. Shortest (Steps s) (Marked n marks) t x) l c.requires.short in
    let h : Layered n (turned (masked f k s)) (only t) k d = subst (λ x. Layered x (turned (masked f k s)) (only t) k d) e c.homing.ensures in
    subst (λ x. SomeBelow x (Passing (marked marks) d k)) e' (starting n (masked f k s) (masked_inside f k inside) t k d c.requires.all.0 h marks (shortest_mask n s inside marks t k f c.requires.labels sh))

pub walk-requires-clause-down : goal.walk-requires-clause-down
walk-requires-clause-down g c =
    let n = g.G.Graph.size c.args.graph.now in
    let s = g.G.Graph.leads c.args.graph.now in
    let t = c.args.target in
    let k = length c.args.strip.now - 1 in
    let f = c.args.near.now in
    let d = c.homing.new.home in
    let few = g.met.G.Graph.few c.args.graph.now in
    let inside = g.met.G.Graph.inside c.args.graph.now in
    let e : length c.args.home.now ≡ n = omega arith in
    let e' : n ≡ length d = omega arith in
    let h : Layered n (turned (masked f k s)) (only t) k d = subst (λ x. Layered x (turned (masked f k s)) (only t) k d) e c.homing.ensures in
    subst (λ x. Descends x (masked f k s) d) e' (descends n (masked f k s) (masked_inside f k inside) t k d c.requires.all.0 h)

pub returns : goal.returns
returns g c =
    let n = g.G.Graph.size c.args.graph.now in
    let s = g.G.Graph.leads c.args.graph.now in
    let marks = c.args.starts.now in
    let t = c.args.target in
    let k = length c.args.strip.now - 1 in
    let f = c.args.near.now in
    let d = c.homing.new.home in
    let xs = c.walk.new.strip in
    let few = g.met.G.Graph.few c.args.graph.now in
    let inside = g.met.G.Graph.inside c.args.graph.now in
    let e : length c.args.home.now ≡ n = omega arith in
    let e' : length d ≡ n = omega arith in
    let l : length c.args.strip.now ≡ k + 1 = omega arith in
    let sh : Shortest (Steps s) (Marked n marks) t (k + 1) = subst (λ x. Shortest (Steps s) (Marked n marks) t x) l c.requires.short in
    let h : Layered n (turned (masked f k s)) (only t) k d = subst (λ x. Layered x (turned (masked f k s)) (only t) k d) e c.homing.ensures in
    let w : Walked n (masked f k s) (marked marks) k d (k + 1) xs = subst (λ x. Walked x (masked f k s) (marked marks) k d (k + 1) xs) e' c.walk.ensures in
    best_unmask n s inside marks t k f c.requires.labels sh xs (omega arith) (walked_best n (masked f k s) (masked_inside f k inside) t k d c.requires.all.0 h marks (shortest_mask n s inside marks t k f c.requires.labels sh) xs (omega arith) w)
