use Rattle.std.proofs.Common.{◌≡◌, ℕ, List, length, sym, ap, ◌∙◌, arith}
use Rattle.std.proofs.lemmas.Slice.Eq.{slice_eq-Decides}
use Rattle.std.proofs.lemmas.Bool.Decides.{Decides-eqb}
use Rattle.sheets.proofs.Counted.{upto, upto_fits, upto_below, length_six}
use Rattle.sheets.proofs.Properly.{written_again}
use Rattle.sheets.proofs.numbers.read_number.Goals as goal

pub overflow_mul-number : goal.overflow_mul-number
overflow_mul-number c = let h = upto_fits c.args.field.now c.loop-byte.byte-index (omega arith) in omega arith

pub overflow_add-number : goal.overflow_add-number
overflow_add-number c = let h = upto_fits c.args.field.now c.loop-byte.byte-index (omega arith) in omega arith

-- the loop went over six columns
counted : (s : List ℕ) (m k : ℕ) → m ≡ upto s k → k ≡ 6 → m ≡ upto s 6
counted s m k q e = q ∙ ap (upto s) e

pub returns-then-eq : goal.returns-then-eq
returns-then-eq c =
    let h = slice_eq-Decides Decides-eqb c.as_slice.result.now c.args.field.now _ c.eq.ensures in
    let b = upto_below c.args.field.now 6 in
    (omega (arith, counted c.args.field.now c.loop-byte.number c.loop-byte.byte-index c.loop-byte.invariant (omega arith)), sym (h.0 c.if-eq.true) ∙ c.as_slice.ensures ∙ c.six_columns.ensures)

pub returns-else-eq : goal.returns-else-eq
returns-else-eq c held =
    let h = slice_eq-Decides Decides-eqb c.as_slice.result.now c.args.field.now _ c.eq.ensures in
    let t = h.1 (c.as_slice.ensures ∙ c.six_columns.ensures ∙ written_again c.args.field.now _ held.0 (counted c.args.field.now c.loop-byte.number c.loop-byte.byte-index c.loop-byte.invariant (omega arith)) held.1.0 held.1.1) in
    let f = c.if-eq.false in
    let z : ◌≡◌ {A = ℕ} 0 1 = cc in omega arith

pub returns-then-field-ne6 : goal.returns-then-field-ne6
returns-then-field-ne6 c held = omega (arith, ap length held.1.1, length_six held.0)
