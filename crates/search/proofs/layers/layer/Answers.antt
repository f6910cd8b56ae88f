use Rattle.std.proofs.Common.{◌≡◌, ℕ, ◌+◌, List, Option, length, sym, subst, arith, rules}
use Rattle.search.specs.Layers.{Turning, Spread}
use Rattle.search.proofs.Spreads.{turning_more, turning_skip, partial_all}
use Rattle.search.proofs.layers.layer.Goals as goal
use Rattle.search.proofs.layers.layer.Goals.{then-eq, else-eq}

pub loop-u-preserved : goal.loop-u-preserved
loop-u-preserved g c =
    let n = length c.args.d.now in
    let s = g.G.Graph.leads c.args.graph.now in
    let k = c.args.k in
    let u = c.loop-u.u in
    let d₀ = c.args.d.now in
    let e : length c.loop-u.d ≡ n = omega arith in
    let P : ℕ → List (Option ℕ) → Type 0 = λ m d. Turning n s k (u + 1) m d₀ d in
    elim c.if-eq.branch [
      | then-eq w ↦ subst (P c.if-eq.count) (sym w.d-is) (subst (λ x. P x w.expand.new.d) (sym w.count-is) (turning_more n s k u c.loop-u.count d₀ c.loop-u.d w.expand.new.d (omega arith) (search rules) c.loop-u.invariant (subst (λ x. Spread s u k x c.loop-u.d w.expand.new.d) e w.expand.ensures)))
      | else-eq w ↦ subst (P c.if-eq.count) (sym w.d-is) (subst (λ x. P x c.loop-u.d) (sym w.count-is) (turning_skip n s k u c.loop-u.count d₀ c.loop-u.d (search rules) c.loop-u.invariant))
    ]

pub returns : goal.returns
returns g c =
    let n = length c.args.d.now in
    let e : c.loop-u.u ≡ n = omega arith in
    let s = g.G.Graph.leads c.args.graph.now in
    let k = c.args.k in
    let P : ℕ → Type 0 = λ u. Turning n s k u c.loop-u.count c.args.d.now c.loop-u.d in
    let h : Turning n s k n c.loop-u.count c.args.d.now c.loop-u.d = subst P e c.loop-u.invariant in
    record {
      next = λ st p. partial_all n s st k c.loop-u.d (h.next st p);
      grown = h.grown;
      many = h.many;
    }
