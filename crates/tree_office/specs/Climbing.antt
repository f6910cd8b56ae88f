-- A relation that keeps the law of a tree is found by climbing.
use Rattle.std.specs.Prelude.{◌≡◌, ℕ, zero, suc, ◌-◌, ◌<◌, ◌≤◌, Bool, true, false, ◌&&◌, ◌||◌, List, length, is_some, Some, None, Ok, Option, ◌==◌, ◌≢◌, nat_lt, slice_set}
use Rattle.std.proofs.Math.Path.{refl, sym, ap, fun_ext}
use Rattle.std.proofs.Common.{ap₂, subst, ◌∙◌, ⊎_elim}
use Rattle.std.proofs.Math.Logic.{∥∥₁_elim}
use denote.Struct.Props.{props}
use Rattle.offices.proofs.Props.{order_prop}
use native.Mathlib.Omega.{arith}
use Rattle.std.proofs.lemmas.List.{get_or-set_same, get_or-set_other}
use Rattle.std.proofs.Math.Bool.{or-false}
use Rattle.std.proofs.lemmas.Bool.{and_from, and_right, cond-true, cond-false, cases_Bool, both_ways, or_right, lt-ltb, le-ltb, cases_lt, eq-eqb, ne_eqb, cases_eq}
use Rattle.offices.specs.Order.{Order, grown, itself_alone}
use Rattle.offices.proofs.Closing.{grown_order, alone_order}
use Rattle.tree_office.specs.Climb.{on, climb, senior_of, tree_over, TreeLaw, Grows}
use Rattle.tree_office.specs.Seniors.{with_senior}
use Rattle.search.specs.Chains.{tally}
use Rattle.search.proofs.Tallies.{tally_le, tally_less}

same_on : (u : Option ℕ) (f g : ℕ → Bool) → ((p : ℕ) → u ≡ Some p → f p ≡ g p) → on u f ≡ on u g
same_on None f g h = refl
same_on (Some p) f g h = h p refl

module _ (n : ℕ) (up : ℕ → Option ℕ) (over : ℕ → ℕ → Bool) (o : Order n over) (t : TreeLaw n up over) where
  rank : ℕ → ℕ
  rank b = tally (λ a. over a b) n

  -- a direct senior has fewer roles over it
  rank_up : (b p : ℕ) → up b ≡ Some p → rank p < rank b
  unfolding rank
  rank_up b p e =
      let w = t.placed b p e in
      let s : (a : ℕ) → over a b ≡ (a == b || over a p) = λ a. t.step a b w.0 ∙ ap (λ u. (a == b) || on u (over a)) e in
      let pass : (a : ℕ) → over a p ≡ true → over a b ≡ true = λ a h. s a ∙ or_right (a == b) (over a p) h in
      let self_b : over b b ≡ true = o.itself b w.0 in
      tally_less (λ a. over a p) (λ a. over a b) n b (λ a la. pass a) w.0
      (⊎_elim
      (λ (h : over b p ≡ true). absurd (w.2 (o.apart b p h (pass p (o.itself p w.1)))))
      (λ f. f)
      (cases_Bool (over b p)))
      self_b

  rank_pos : (b : ℕ) → b < n → 0 < rank b
  unfolding rank
  rank_pos b l = omega (arith, tally_less (λ a. false) (λ a. over a b) n b (λ a la h. absurd (both_ways false refl h)) l refl (o.itself b l))

  rank_le : (b : ℕ) → rank b ≤ n
  unfolding rank
  rank_le b = tally_le (λ a. over a b) n

  climbs : (f a b : ℕ) → b < n → rank b ≤ f → climb f up a b ≡ over a b
  unfolding climb
  climbs zero a b l h = absurd (omega (arith, rank_pos b l))
  climbs (suc f) a b l h =
      ap (λ x. (a == b) || x) (same_on (up b) (climb f up a) (over a) (λ p e. climbs f a p (t.placed b p e).1 (omega (arith, rank_up b p e))))
      ∙ sym (t.step a b l)

  pub tree_is : n ≤ 64 → tree_over n up ≡ over
  tree_is few = fun_ext (λ a. fun_ext (λ b.
      ⊎_elim
      (λ (l : b < n). ap (λ x. x && climb 64 up a b) (lt-ltb b n l) ∙ climbs 64 a b l (omega (arith, rank_le b)))
      (λ (l : n ≤ b). ap (λ x. x && climb 64 up a b) (le-ltb b n l) ∙ sym (outside a b l))
      (cases_lt b n)))
    where
      outside : (a b : ℕ) → n ≤ b → over a b ≡ false
      outside a b l = ⊎_elim (λ h. absurd (omega (arith, (o.inside a b h).1))) (λ f. f) (cases_Bool (over a b))

at_root : (x y : Bool) → ((x || false) || (y && true)) ≡ (x || (y || (y && false)))
at_root true y = refl
at_root false true = refl
at_root false false = refl

apart : (x y : Bool) → ((x || false) || (y && (false || false))) ≡ (x || false)
apart true y = refl
apart false true = refl
apart false false = refl

under : (x y z v : Bool) → ((x || y) || (z && (false || v))) ≡ (x || (y || (z && v)))
under true y z v = refl
under false y z v = refl

module _ (n : ℕ) (up up' : ℕ → Option ℕ) (over : ℕ → ℕ → Bool) (o : Order n over) (t : TreeLaw n up over) (s j : ℕ)
    (ls : s < n) (lj : j < n) (ne : j ≡ s → ⊥) (not_over : over j s ≡ false) (root : up j ≡ None)
    (here : up' j ≡ Some s) (there : (b : ℕ) → (b ≢ j) → up' b ≡ up b) where
  step_here : (a : ℕ) → grown over s j a j ≡ (a == j || on (up' j) (grown over s j a))
  step_here a =
      ap₂ (λ x y. x || (over a s && y)) (t.step a j lj ∙ ap (λ u. (a == j) || on u (over a)) root) (o.itself j lj)
      ∙ at_root (a == j) (over a s)
      ∙ ap (λ y. (a == j) || (over a s || (over a s && y))) (sym not_over)
      ∙ ap (λ u. (a == j) || on u (grown over s j a)) (sym here)

  step_there : (a b : ℕ) → b < n → (b ≢ j) → (u : Option ℕ) → up b ≡ u → grown over s j a b ≡ (a == b || on u (grown over s j a))
  step_there a b l d None e =
      ap₂ (λ x y. x || (over a s && y)) (t.step a b l ∙ ap (λ u. (a == b) || on u (over a)) e)
      (t.step j b l ∙ ap₂ (λ x u. x || on u (over j)) (ne_eqb j b (λ q. d (sym q))) e)
      ∙ apart (a == b) (over a s)
  step_there a b l d (Some p) e =
      ap₂ (λ x y. x || (over a s && y)) (t.step a b l ∙ ap (λ u. (a == b) || on u (over a)) e)
      (t.step j b l ∙ ap₂ (λ x u. x || on u (over j)) (ne_eqb j b (λ q. d (sym q))) e)
      ∙ under (a == b) (over a p) (over a s) (over j p)

  pub tree_grown : TreeLaw n up' (grown over s j)
  tree_grown = record {
    step = λ a b l.
        ⊎_elim
        (λ (e : b ≡ j). subst (λ x. grown over s j a x ≡ (a == x || on (up' x) (grown over s j a))) (sym e) (step_here a))
        (λ (d : b ≡ j → ⊥). step_there a b l d (up b) refl ∙ ap (λ u. (a == b) || on u (grown over s j a)) (sym (there b d)))
        (cases_eq b j);
    placed = λ b p e.
        ⊎_elim
        (λ (q : b ≡ j). let z : p ≡ s = cc in (omega arith, omega arith, λ w. ne (sym q ∙ w ∙ z)))
        (λ (d : b ≡ j → ⊥). t.placed b p (sym (there b d) ∙ e))
        (cases_eq b j);
  }

-- the tree with one direct senior more
module _ (n : ℕ) (up up' : ℕ → Option ℕ) (few : n ≤ 64) (w : Grows n up) (s j : ℕ)
    (ls : s < n) (lj : j < n) (ne : j ≡ s → ⊥) (free : tree_over n up j s ≡ false) (root : up j ≡ None)
    (here : up' j ≡ Some s) (there : (b : ℕ) → (b ≢ j) → up' b ≡ up b) where
  law : TreeLaw n up' (grown (tree_over n up) s j)
  law = tree_grown n up up' (tree_over n up) w.0 w.1 s j ls lj ne free root here there

  order : Order n (grown (tree_over n up) s j)
  order = grown_order n (tree_over n up) w.0 s j free

  pub linked : tree_over n up' ≡ grown (tree_over n up) s j
  linked = tree_is n up' (grown (tree_over n up) s j) order law few

  pub grows_linked : Grows n up'
  grows_linked = (subst (Order n) (sym linked) order, subst (TreeLaw n up') (sym linked) law)

module _ (up : ℕ → Option ℕ) (k a b : ℕ) (more : 0 < k) where
  one_more : climb k up a b ≡ (a == b || on (up b) (climb (k - 1) up a))
  unfolding climb
  one_more = let e : k ≡ suc (k - 1) = omega arith in ap (λ f. climb f up a b) e

  pub climb_found : b ≡ a → climb k up a b ≡ true
  climb_found e = one_more ∙ ap (λ x. x || on (up b) (climb (k - 1) up a)) (eq-eqb a b (sym e))

  pub climb_up : (b ≢ a) → (p : ℕ) → up b ≡ Some p → climb k up a b ≡ climb (k - 1) up a p
  climb_up d p e = one_more ∙ ap₂ (λ x u. x || on u (climb (k - 1) up a)) (ne_eqb a b (λ q. d (sym q))) e

  pub climb_top : (b ≢ a) → up b ≡ None → climb k up a b ≡ false
  climb_top d e = one_more ∙ ap₂ (λ x u. x || on u (climb (k - 1) up a)) (ne_eqb a b (λ q. d (sym q))) e

tree_prop : (n : ℕ) (up : ℕ → Option ℕ) (over : ℕ → ℕ → Bool) → IsProp (TreeLaw n up over)
tree_prop n up over p q = λ i. record {
  step = same p.step q.step (hlevel props) i;
  placed = same p.placed q.placed (hlevel props) i;
}
  where
    same : {A : Type 0} (x y : A) → IsProp A → x ≡ y
    same x y h = h x y

pub grows_from : (n : ℕ) (up : ℕ → Option ℕ) → ∥ Grows n up ∥₁ → Grows n up
grows_from n up t = ∥∥₁_elim t (λ p q. λ i. (order_prop n (tree_over n up) p.0 q.0 i, tree_prop n up (tree_over n up) p.1 q.1 i)) (λ w. w)

pub climb_none : (up : ℕ → Option ℕ) (k a b : ℕ) → k ≡ 0 → climb k up a b ≡ false
unfolding climb
climb_none up k a b e = ap (λ f. climb f up a b) e

-- no role has a senior yet
module _ (n : ℕ) (up : ℕ → Option ℕ) (bare : (b : ℕ) → up b ≡ None) where
  bare_law : TreeLaw n up (itself_alone n)
  bare_law = record {
    step = λ a b l. alike a b l ∙ sym (ap (λ u. (a == b) || on u (itself_alone n a)) (bare b) ∙ or-false (a == b));
    placed = λ b p e. let f = bare b in let z : ◌≡◌ {A = ℕ} 0 1 = cc in absurd (omega arith);
  }
    where
      alike : (a b : ℕ) → b < n → itself_alone n a b ≡ (a == b)
      alike a b l = ⊎_elim
          (λ (e : a ≡ b). let la : a < n = omega arith in and_from (nat_lt a n) (b == a) (lt-ltb a n la) (eq-eqb b a (sym e)) ∙ sym (eq-eqb a b e))
          (λ (d : a ≡ b → ⊥). and_right (nat_lt a n) (b == a) (ne_eqb b a (λ q. d (sym q))) ∙ sym (ne_eqb a b d))
          (cases_eq a b)

  pub bare_is : n ≤ 64 → tree_over n up ≡ itself_alone n
  bare_is few = tree_is n up (itself_alone n) (alone_order n) bare_law few

  pub grows_bare : n ≤ 64 → Grows n up
  grows_bare few = (subst (Order n) (sym (bare_is few)) (alone_order n), subst (TreeLaw n up) (sym (bare_is few)) bare_law)

pub none_from_is_some : (u : Option ℕ) → is_some u ≡ false → u ≡ None
none_from_is_some None h = refl
none_from_is_some (Some p) h = absurd (both_ways true h refl)

-- one direct senior more
module _ (ds : List (Option ℕ)) (s j : ℕ) where
  pub senior_here : j < length ds → senior_of (slice_set ds j (Some s)) j ≡ Some s
  senior_here l = get_or-set_same ds j (Some s) None l

  pub senior_there : (b : ℕ) → (b ≢ j) → senior_of (slice_set ds j (Some s)) b ≡ senior_of ds b
  senior_there b d = get_or-set_other ds j b (Some s) None d

  pub seniors_after : j < length ds → (b : ℕ) → senior_of (slice_set ds j (Some s)) b ≡ with_senior (Ok tt) (senior_of ds) s j b
  seniors_after l b = ⊎_elim
      (λ (e : b ≡ j). ap (senior_of (slice_set ds j (Some s))) e ∙ senior_here l ∙ sym (cond-true (b == j) (Some s) (senior_of ds b) (eq-eqb b j e)))
      (λ (d : b ≡ j → ⊥). senior_there b d ∙ sym (cond-false (b == j) (Some s) (senior_of ds b) (ne_eqb b j d)))
      (cases_eq b j)
