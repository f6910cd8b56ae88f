-- Rows of role sets read as codes.
use Rattle.std.proofs.Common.{◌≡◌, ℕ, ◌+◌, ◌*◌, ◌/◌, ◌%◌, ◌<◌, ◌≤◌, false, eqb, cond, length, set, sym, ap, ◌∙◌, ⊎_elim, arith}
use Rattle.std.proofs.lemmas.Nat.{div-mul-add, mod-mul-add}
use Rattle.std.proofs.lemmas.List.{get_or-set_same, get_or-set_other}
use Rattle.std.proofs.lemmas.Bool.{cases_eq, cases_lt}
use Rattle.std.proofs.lemmas.Bool.Decides.{nat_tests}
use Rattle.offices.specs.Members.{holds, nobody, row_holds}
use Rattle.offices.specs.declared.role_set.RoleSet.{RoleSet}
use Rattle.offices.proofs.RowFacts.{row_past}
use Rattle.reach.specs.declared.row.Row.{Row}
use Rattle.reach.specs.Rows.{has}

pub has_past : (r : Row) (b : ℕ) → 1024 ≤ b → has r b ≡ false
unfolding has
has_past r b h = grind (arith, nat_tests)

pub has_within : (r : Row) (b : ℕ) → b < 1024 → has r b ≡ row_holds r.offices (b / 64) (b % 64)
unfolding has
has_within r b h = grind (arith, nat_tests)

-- one office's roles written
pub has_set :
    (r : Row) (o : ℕ) (v : RoleSet) (b : ℕ) → o < 16 → length r.offices ≡ 16
    → has (record { offices = set r.offices o v }) b ≡ cond (eqb (b / 64) o) (holds v (b % 64)) (has r b)
unfolding has
has_set r o v b h long = ⊎_elim
    (λ (e : b / 64 ≡ o). let w = get_or-set_same r.offices o v nobody (omega arith) in grind (arith, nat_tests))
    (λ (ne : b / 64 ≡ o → ⊥). let w = get_or-set_other r.offices o (b / 64) v nobody ne in grind (arith, nat_tests))
    (cases_eq (b / 64) o)

-- the code of role i of office o is found where the role is
pub has_at_below : (r : Row) (o i : ℕ) → o < 16 → i < 64 → has r (o * 64 + i) ≡ row_holds r.offices o i
unfolding has
has_at_below r o i lo h = has_within r (o * 64 + i) (omega arith) ∙ ap (λ x. row_holds r.offices x ((o * 64 + i) % 64)) (div-mul-add o 64 i h) ∙ ap (row_holds r.offices o) (mod-mul-add o 64 i h)

-- for any office, since a row has sixteen
pub has_at : (r : Row) (o i : ℕ) → length r.offices ≡ 16 → i < 64 → has r (o * 64 + i) ≡ row_holds r.offices o i
has_at r o i long h = ⊎_elim
    (λ (l : o < 16). has_at_below r o i l h)
    (λ (l : 16 ≤ o). has_past r (o * 64 + i) (omega arith) ∙ sym (row_past r.offices o i (omega arith)))
    (cases_lt o 16)
