-- What a closure reads at one place after another of a list, until there is none.
use Rattle.std.proofs.Common.{◌≡◌, ℕ, suc, ◌+◌, ◌-◌, ◌<◌, ◌≤◌, List, [], ◌∷◌, length, Option, Some, None, MatchOption, sym, ap, ◌∙◌, subst, arith}
use Rattle.std.proofs.lemmas.Grind.{common_steps}
use Rattle.std.proofs.iter.Yields.{nat_range_steps}
use Rattle.std.proofs.lemmas.Iterator.{YieldsList}
use Rattle.std.specs.Fn.{Called}
use Rattle.std.specs.Iterator.{AlwaysYields}
use Rattle.std.specs.Iterator.Adapters.{map_while_source, map_while_callee, map_while_steps}
use Rattle.std.specs.List.{slice_get}
use Rattle.std.specs.declared.iter.MapWhile.{MapWhile}
use Rattle.std.specs.declared.ops.Range.{Range}
use denote.Param.Members.{Mut}

nothing_there : (x : ℕ) → Some x ≡ None → ⊥
nothing_there x e = grind (arith, common_steps)

same_there : (x y : ℕ) → Some x ≡ Some y → x ≡ y
same_there x y e = grind (arith, common_steps)

-- the closure is f, and reads `at p` at the place p
module _ {F : Type 0} (g : Mut F (ℕ × Unit {0}) (Option ℕ)) (at : ℕ → Option ℕ) (f : F) (each : (p : ℕ) (r : Option ℕ) (q : F) → Called g f (p, tt) r q → (q ≡ f) × (r ≡ at p)) where
  -- the place that comes next, and the end of the places
  abbrev next : MapWhile (Range ℕ) F → ℕ
  next s = (map_while_source s).start

  abbrev past : MapWhile (Range ℕ) F → ℕ
  past s = (map_while_source s).end

  -- a step that gave r, where the range gave o
  abbrev Step : MapWhile (Range ℕ) F → Option ℕ → Option ℕ → MapWhile (Range ℕ) F → Type 0
  Step s o r t = nat_range_steps (map_while_source s) o (map_while_source t) × MatchOption o ((r ≡ None) × (map_while_callee t ≡ map_while_callee s)) (λ p. Called g (map_while_callee s) (p, tt) r (map_while_callee t))

  read_next : (s t : MapWhile (Range ℕ) F) (r o : Option ℕ) → map_while_callee s ≡ f → Step s o r t → next s < past s → (r ≡ at (next s)) × (map_while_callee t ≡ f) × (next t ≡ next s + 1) × (past t ≡ past s)
  read_next s t r None c h room = absurd (omega (arith, h.0.1.0))
  read_next s t r (Some p) c h room =
      let one = each p r (map_while_callee t) (subst (λ w. Called g w (p, tt) r (map_while_callee t)) c h.1) in
      (one.1 ∙ ap at h.0.1.1, one.0, h.0.1.2, h.0.0)

  read_nothing : (s t : MapWhile (Range ℕ) F) (r o : Option ℕ) → map_while_callee s ≡ f → Step s o r t → at (next s) ≡ None → r ≡ None
  read_nothing s t r None c h e = h.1.0
  read_nothing s t r (Some p) c h e =
      let one = each p r (map_while_callee t) (subst (λ w. Called g w (p, tt) r (map_while_callee t)) c h.1) in
      one.1 ∙ ap at h.0.1.1 ∙ e

  read_all : (ys : List ℕ) (s : MapWhile (Range ℕ) F) → map_while_callee s ≡ f → ((k : ℕ) → at (next s + k) ≡ slice_get ys k) → length ys ≤ past s - next s → AlwaysYields (map_while_steps nat_range_steps g) (λ x. x) s ys
  read_all [] s c e room = λ x t h. nothing_there x (read_nothing s t (Some x) h.0 c (h.1, h.2) (ap at (omega arith) ∙ e 0))
  read_all (y ∷ ys) s c e room =
      let here : at (next s) ≡ Some y = ap at (omega arith) ∙ e 0 in (
        (λ t h. let n = read_next s t None h.0 c (h.1, h.2) (omega arith) in nothing_there y (sym here ∙ sym n.0)),
        λ x t h.
            let n = read_next s t (Some x) h.0 c (h.1, h.2) (omega arith) in (
              same_there x y (n.0 ∙ here),
              read_all ys t n.1 (λ k. ap at (omega (arith, n.2)) ∙ e (suc k)) (omega (arith, n.2, n.3)),
            ),
      )

  -- the first n places of ys, which has no more, give ys
  pub YieldsList-from_places : {s : MapWhile (Range ℕ) F} (ys : List ℕ) (n : ℕ) → map_while_source s ≡ record { start = 0; end = n } → map_while_callee s ≡ f → ((k : ℕ) → at k ≡ slice_get ys k) → length ys ≤ n → YieldsList (map_while_steps nat_range_steps g) (λ x. x) s ys
  YieldsList-from_places {s} ys n source callee e few =
      let begin : next s ≡ 0 = ap (λ (r : Range ℕ). r.start) source in
      let end : past s ≡ n = ap (λ (r : Range ℕ). r.end) source in
      record { runs = read_all ys s callee (λ k. ap at (omega (arith, begin)) ∙ e k) (omega (arith, few, begin, end)) }
