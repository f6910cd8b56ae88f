-- No row has a code from 1,024 on, and a row that is not there has none.
use Rattle.std.specs.Prelude.{◌≡◌, ℕ, ◌<◌, ◌≤◌, true, false, [], slice_index_or, nat_lt}
use Rattle.std.proofs.Common.{ap, ◌∙◌, ⊎_elim, arith}
use Rattle.std.proofs.lemmas.List.{get_or_past}
use Rattle.std.proofs.lemmas.Bool.{cases_lt, both_ways, ltb-true, and_parts, and_right}
use Rattle.offices.specs.Members.{nobody, row_holds}
use Rattle.offices.proofs.RowFacts.{row_past, row_replicate}
use Rattle.banks.specs.Codes.{office_of, role_of}
use Rattle.reach.specs.declared.row.Row.{Row}
use Rattle.reach.specs.declared.rows.Rows.{Rows}
use Rattle.reach.specs.Rows.{has, blank, rows_have}

pub has_below : (r : Row) (b : ℕ) → has r b ≡ true → b < 1024
unfolding has
has_below r b h = ltb-true b 1024 (and_parts (nat_lt b 1024) (row_holds r.offices (office_of b) (role_of b)) h).0

pub has_blank : (b : ℕ) → has blank b ≡ false
unfolding has
has_blank b = and_right (nat_lt b 1024) (row_holds blank.offices (office_of b) (role_of b)) (row_replicate 16 nobody (office_of b) (role_of b) (λ i. row_past [] 0 i (omega arith)))

pub rows_past : {n : ℕ} (t : Rows n) (a b : ℕ) → n ≤ a → rows_have t a b ≡ false
unfolding rows_have
rows_past t a b h = ap (λ r. has r b) (get_or_past t.rows.items a blank (omega (arith, t.room, t.rows.ok.0))) ∙ has_blank b

pub rows_inside : {n : ℕ} (t : Rows n) (a b : ℕ) → rows_have t a b ≡ true → (a < n) × (b < 1024)
unfolding rows_have
rows_inside {n} t a b h = (
  ⊎_elim (λ (l : a < n). l) (λ (l : n ≤ a). absurd (both_ways (rows_have t a b) (rows_past t a b l) h)) (cases_lt a n),
  has_below (slice_index_or t.rows.items a blank) b h,
)
