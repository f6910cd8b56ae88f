-- Rows of role sets, one written and the others kept; a row that is not there holds nobody.
use Rattle.std.proofs.Common.{◌≡◌, ℕ, ◌<◌, ◌≤◌, false, List, length, set, replicate, ap, ◌∙◌, ⊎_elim}
use Rattle.std.proofs.lemmas.List.{get_or_past, get_or-set_same, get_or-set_other, get_or-replicate, length-replicate}
use Rattle.std.proofs.lemmas.Bool.{cases_lt}
use Rattle.offices.specs.Members.{holds, nobody, row_holds}
use Rattle.offices.specs.declared.role_set.RoleSet.{RoleSet}
use Rattle.offices.proofs.Bit.{bit_none}

pub row_past : (rows : List RoleSet) (a b : ℕ) → length rows ≤ a → row_holds rows a b ≡ false
row_past rows a b h = ap (λ s. holds s b) (get_or_past rows a nobody h) ∙ bit_none b

pub row_set_same : (rows : List RoleSet) (i : ℕ) (v : RoleSet) (b : ℕ) → i < length rows → row_holds (set rows i v) i b ≡ holds v b
row_set_same rows i v b h = ap (λ s. holds s b) (get_or-set_same rows i v nobody h)

pub row_set_other : (rows : List RoleSet) (i : ℕ) (v : RoleSet) (a b : ℕ) → (a ≡ i → ⊥) → row_holds (set rows i v) a b ≡ row_holds rows a b
row_set_other rows i v a b h = ap (λ s. holds s b) (get_or-set_other rows i a v nobody h)

pub row_replicate : (n : ℕ) (v : RoleSet) (a b : ℕ) → ((i : ℕ) → holds v i ≡ false) → row_holds (replicate n v) a b ≡ false
row_replicate n v a b h =
    ⊎_elim
    (λ (l : a < n). ap (λ s. holds s b) (get_or-replicate n a v nobody l) ∙ h b)
    (λ (l : n ≤ a). row_past (replicate n v) a b (simp length-replicate l))
    (cases_lt a n)
