-- Rows by their places: one written, or each joined with another.
use Rattle.std.proofs.Common.{◌≡◌, ℕ, ◌<◌, ◌≤◌, Bool, false, ◌&&◌, eqb, ltb, cond, List, length, set, replicate, get_or, ap, ◌∙◌, ⊎_elim, arith}
use Rattle.std.proofs.lemmas.List.{get_or-set_same, get_or-set_other, get_or-replicate, get_or_past, length-replicate}
use Rattle.std.proofs.lemmas.Bool.{cases_eq, cases_lt}
use Rattle.std.proofs.lemmas.Bool.Decides.{nat_tests}
use Rattle.reach.specs.declared.row.Row.{Row}
use Rattle.reach.specs.Rows.{has, blank}
use Rattle.reach.specs.Within.{has_blank}

-- the code b of the row at place a
abbrev pub at_place : List Row → ℕ → ℕ → Bool
at_place xs a b = has (get_or xs a blank) b

-- so many rows, each with no code
pub place_fresh : (n : ℕ) (x : Row) (a b : ℕ) → has x b ≡ false → at_place (replicate n x) a b ≡ false
place_fresh n x a b none = ⊎_elim
    (λ (l : a < n). ap (λ r. has r b) (get_or-replicate n a x blank l) ∙ none)
    (λ (l : n ≤ a). ap (λ r. has r b) (get_or_past (replicate n x) a blank (simp length-replicate l)) ∙ has_blank b)
    (cases_lt a n)

pub place_set :
    (xs : List Row) (n k : ℕ) (r : Row) (a b : ℕ) → length xs ≡ n → k < n
    → at_place (set xs k r) a b ≡ cond (eqb a k && ltb k n) (has r b) (at_place xs a b)
place_set xs n k r a b long h = ⊎_elim
    (λ (e : a ≡ k). let w = get_or-set_same xs k r blank (omega arith) in grind (arith, nat_tests))
    (λ (ne : a ≡ k → ⊥). let w = get_or-set_other xs k a r blank ne in grind (arith, nat_tests))
    (cases_eq a k)
