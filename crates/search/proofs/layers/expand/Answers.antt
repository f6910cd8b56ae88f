use Rattle.std.proofs.Common.{◌≡◌, ℕ, ◌+◌, List, Option, None, get_or, set, sym, subst, arith}
use Rattle.std.proofs.lemmas.List.{set-get_or}
use Rattle.std.proofs.lemmas.Bool.{both_ways}
use Rattle.search.specs.Layers.{Spread}
use Rattle.search.proofs.Spreads.{spread_skip, spread_mark}
use Rattle.search.proofs.Distances.{none_known, some_known}
use Rattle.search.proofs.layers.expand.Goals as goal
use Rattle.search.proofs.layers.expand.Goals.{then-is_none+then-step, else-is_none, else-is_none-via-then-is_none+else-step, else-is_none-via-else-is_none}

pub loop-v-preserved : goal.loop-v-preserved
loop-v-preserved g c =
    let s = g.G.Graph.leads c.args.graph.now in
    let P : List (Option ℕ) → Type 0 = λ e. Spread s c.args.u c.args.k (c.loop-v.v + 1) c.args.d.now e in
    let skip = spread_skip s c.args.u c.args.k c.loop-v.v c.args.d.now c.loop-v.d c.loop-v.invariant in
    let v = c.loop-v.v in
    let e : List (Option ℕ) = c.loop-v.d in
    let kept : e ≡ set e v (get_or e v None) = sym (set-get_or e v None) in
    elim c.if-is_none.branch [
      | then-is_none+then-step w ↦ subst P (sym w.d-is) (spread_mark s c.args.u c.args.k v c.args.d.now e c.loop-v.invariant (omega arith) (none_known _ _ c.is_none.ensures w.if-is_none.true) (sym w.if-step.ensures))
      | else-is_none w ↦ subst P (sym w.d-is) (elim w.else-is_none.branch [
        | else-is_none-via-then-is_none+else-step w' ↦ subst P (sym w'.d-is) (subst P kept (skip (λ t. absurd (both_ways _ (sym w'.if-step.ensures) t))))
        | else-is_none-via-else-is_none w' ↦ subst P (sym w'.d-is) (subst P kept (skip (λ t. some_known _ _ c.is_none.ensures w'.if-is_none.false)))
      ])
    ]
