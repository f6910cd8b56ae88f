use Rattle.std.proofs.Common.{◌≡◌, ℕ, replicate, None, Option, refl, ⊎_elim, arith}
use Rattle.std.proofs.lemmas.List.{get_or-replicate, get_or_past, length-replicate}
use Rattle.std.proofs.lemmas.Bool.{cases_lt}
use Rattle.tree_office.specs.Climb.{senior_of}
use Rattle.tree_office.specs.Climbing.{bare_is, grows_bare}
use Rattle.tree_office.proofs.trees.TreeSeniority.alone.Goals as goal

nobody_up : (b : ℕ) → senior_of (replicate 64 None) b ≡ None
nobody_up b = ⊎_elim
    (λ l. get_or-replicate 64 b None None l)
    (λ l. get_or_past (replicate 64 None) b None (omega (arith, length-replicate {A = Option ℕ} 64 None)))
    (cases_lt b 64)

pub invariant_of-result : goal.invariant_of-result
invariant_of-result c = record { room = refl; grows = ∣ grows_bare 64 (senior_of (replicate 64 None)) nobody_up (omega arith) ∣₁ }

pub returns : goal.returns
returns c = record { over = bare_is 64 (senior_of (replicate 64 None)) nobody_up (omega arith); blank = nobody_up }
