-- Rows of role sets that a closure made, one at each number.
use Rattle.std.proofs.Common.{◌≡◌, ℕ, zero, suc, ◌+◌, ◌<◌, ◌≤◌, Bool, false, refl, List, sym, ap, ◌∙◌, subst, ⊎_elim, arith}
use Rattle.std.proofs.lemmas.Bool.{cases_lt, cases_eq}
use Rattle.std.specs.Array.{IsFromFnResult, IsFromFnResultFrom}
use Rattle.std.specs.Fn.{Called}
use denote.Param.Members.{Mut}
use Rattle.offices.specs.Members.{holds, nobody, row_holds}
use Rattle.offices.specs.declared.role_set.RoleSet.{RoleSet}
use Rattle.offices.proofs.RowFacts.{row_past}

module _ {F : Type 0} (g : Mut F (ℕ × Unit {0}) RoleSet) (over : ℕ → ℕ → Bool) (f : F) (n : ℕ) (made : (k : ℕ) (y : RoleSet) (f' : F) → k < n → Called g f (k, tt) y f' → ((b : ℕ) → holds y b ≡ over k b) × (f' ≡ f)) where
  made_from : (ys : List RoleSet) (i m : ℕ) (p : F) → p ≡ f → i + m ≤ n → IsFromFnResultFrom g p ys i m → (a b : ℕ) → i ≤ a → a < i + m → row_holds ys a b ≡ over a b
  made_from ys i zero p e l h a b low high = absurd (omega arith)
  made_from ys i (suc m) p e l h a b low high =
      let y = h.1 in
      let one = made i y h.0 (omega arith) (subst (λ x. Called g x (i, tt) y h.0) e h.3) in
      ⊎_elim
      (λ (s : a ≡ i). ap (λ x. row_holds ys x b) s ∙ ap (λ r. holds r b) (h.2.1 nobody) ∙ one.0 b ∙ ap (λ x. over x b) (sym s))
      (λ (d : a ≡ i → ⊥). made_from ys (i + 1) m h.0 one.1 (omega arith) h.4 a b (omega arith) (omega arith))
      (cases_eq a i)

  -- the rows that were made, and past them nobody
  pub rows_made : (ys : List RoleSet) → IsFromFnResult g f ys n → ((a b : ℕ) → n ≤ a → over a b ≡ false) → (a b : ℕ) → row_holds ys a b ≡ over a b
  rows_made ys h past a b = ⊎_elim
      (λ (l : a < n). made_from ys 0 n f refl (omega arith) h.each a b (omega arith) (omega arith))
      (λ (l : n ≤ a). row_past ys a b (omega (arith, h.long)) ∙ sym (past a b l))
      (cases_lt a n)
