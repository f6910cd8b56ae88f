-- A tree with one direct senior more.
use Rattle.std.proofs.Common.{◌≡◌, ℕ, ◌<◌, true, false, length, set, Some, None, subst, arith}
use Rattle.std.proofs.lemmas.Bool.{both_ways}
use Rattle.offices.specs.Order.{grown}
use Rattle.tree_office.specs.declared.tree.Tree.{Tree}
use Rattle.tree_office.specs.Climb.{Grows, senior_of, tree_over}
use Rattle.tree_office.specs.Seniors.{senior_in, climbed}
use Rattle.tree_office.specs.Climbing.{grows_from, grows_linked, linked, senior_here, senior_there}

module _ (t : Tree) (s j : ℕ) (ls : s < 64) (lj : j < 64) (free : climbed t j s ≡ false) (root : senior_in t j ≡ None) where
  grown_so_far : Grows 64 (senior_in t)
  grown_so_far = grows_from 64 (senior_in t) t.grows

  room : j < length t.seniors
  room = omega (arith, t.room)

  apart : j ≡ s → ⊥
  apart e = both_ways (climbed t j s) free (subst (λ x. climbed t j x ≡ true) e (grown_so_far.0.itself j lj))

  pub tree_more : Grows 64 (senior_of (set t.seniors j (Some s)))
  tree_more = grows_linked 64 (senior_in t) (senior_of (set t.seniors j (Some s))) (omega arith) grown_so_far s j ls lj apart free root (senior_here t.seniors s j room) (senior_there t.seniors s j)

  pub over_more : tree_over 64 (senior_of (set t.seniors j (Some s))) ≡ grown (climbed t) s j
  over_more = linked 64 (senior_in t) (senior_of (set t.seniors j (Some s))) (omega arith) grown_so_far s j ls lj apart free root (senior_here t.seniors s j room) (senior_there t.seniors s j)
