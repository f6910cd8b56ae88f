-- Roles put one after another into a set of roles.
use Rattle.std.proofs.Common.{◌≡◌, ℕ, Bool, false, ◌&&◌, ◌||◌, eqb, ltb, List, Option, sym, ap, ◌∙◌, arith}
use Rattle.std.specs.Fn.{Called}
use Rattle.std.specs.Iterator.{Drains}
use Rattle.std.specs.List.{FoldsTo}
use Rattle.std.proofs.lemmas.Fn.{fold_over}
use Rattle.std.proofs.lemmas.Iterator.{YieldsList}
use Rattle.std.proofs.lemmas.Grind.{common_steps}
use denote.Param.Members.{Mut}
use Rattle.offices.specs.Members.{holds}
use Rattle.std.proofs.Math.Bool.{and-false}
use Rattle.offices.specs.declared.role_set.RoleSet.{RoleSet}
use Rattle.directory.specs.SetWords.{among}
use Rattle.directory.proofs.Membership.{among_push}

one_more : (b : Bool) (i y : ℕ) → ((ltb i 64 && b) || (eqb i y && ltb y 64)) ≡ (ltb i 64 && (b || eqb i y))
one_more b i y = grind (arith, common_steps)

module _ {S A F : Type 0} (steps : S → Option A → S → Type 0) (v : A → ℕ) (g : Mut F (RoleSet × (A × Unit {0})) RoleSet) (f : F) (s : S) (all : List ℕ) (a r : RoleSet) where
  -- those below 64 are in it
  pub roles_folded : ((xs : List A) × (f' : F) × Drains steps s xs × FoldsTo {P = F × RoleSet} (λ p x q. Called g p.0 (p.1, (x, tt)) q.1 q.0) (f, a) xs (f', r)) → YieldsList steps v s all → ((i : ℕ) → holds a i ≡ false) → ((w : RoleSet) (x : A) (b : RoleSet) (q : F) → Called g f (w, (x, tt)) b q → ((i : ℕ) → holds b i ≡ (holds w i || (eqb i (v x) && ltb (v x) 64))) × (q ≡ f)) → (i : ℕ) → holds r i ≡ (ltb i 64 && among i all)
  roles_folded ran yields none each = fold_over steps v g (λ ys w. (i : ℕ) → holds w i ≡ (ltb i 64 && among i ys)) f
      (λ ys w x b q j k. let e = each w x b q k in (
        (λ i. e.0 i ∙ ap (λ t. t || (eqb i (v x) && ltb (v x) 64)) (j i) ∙ one_more (among i ys) i (v x) ∙ sym (ap (λ t. ltb i 64 && t) (among_push i ys (v x)))),
        e.1,
      ))
      s all a r yields.runs (λ i. none i ∙ sym (and-false (ltb i 64))) ran
