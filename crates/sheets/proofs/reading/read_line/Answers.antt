use Rattle.std.proofs.Common.{◌≡◌, Ok, Err, sym, subst, rules}
use Rattle.sheets.specs.declared.fault.Fault.TheVariants.{WrongLength}
use Rattle.sheets.specs.declared.token.Token.TheVariants.{Handback}
use Rattle.sheets.specs.Slips.{Slip, written, Writable}
use Rattle.sheets.specs.Reading.{Reads}
use Rattle.sheets.proofs.Parts.{spelled, pair_bad, pair_line, handback_bad, handback_line}
use Rattle.sheets.proofs.Round.{reads_back}
use Rattle.sheets.proofs.reading.read_line.Goals as goal

pub returns-then-line-ne20-clause-back : goal.returns-then-line-ne20-clause-back
returns-then-line-ne20-clause-back c = reads_back c.args.line.now (Err WrongLength) (search rules)

pub returns-in_err-word-clause-back : goal.returns-in_err-word-clause-back
returns-in_err-word-clause-back c = reads_back c.args.line.now c.from_residual.result (search rules)

pub returns-in_err-first-in-Pair-clause-reads : goal.returns-in_err-first-in-Pair-clause-reads
returns-in_err-first-in-Pair-clause-reads c =
    let q : c.from_residual-in_err-first-in-Pair.result ≡ Err c.in_err-first-in-Pair.field-0.0 = search rules in
    subst (Reads c.args.line.now) (sym q)
    (pair_bad _ _ c.in-Pair.word _ _ _ c.if-line-ne20.false (spelled _ _ _ c.in_ok-word.ensures.ok_part c.read_word.ensures) c.in-Pair.is c.read_number.ensures c.read_number-in-Pair.ensures c.in_err-first-in-Pair.ensures)

pub returns-in_err-first-in-Pair-clause-back : goal.returns-in_err-first-in-Pair-clause-back
returns-in_err-first-in-Pair-clause-back c =
    reads_back c.args.line.now c.from_residual-in_err-first-in-Pair.result (returns-in_err-first-in-Pair-clause-reads c)

pub returns-in_err-card-in-Handback-clause-reads : goal.returns-in_err-card-in-Handback-clause-reads
returns-in_err-card-in-Handback-clause-reads c =
    let q : c.from_residual-in_err-card-in-Handback.result ≡ Err c.in_err-card-in-Handback.field-0.0 = search rules in
    subst (Reads c.args.line.now) (sym q)
    (handback_bad _ _ _ _ _ c.if-line-ne20.false (spelled _ _ _ c.in_ok-word.ensures.ok_part c.read_word.ensures) c.in-Handback.is c.read_number-in-Handback.ensures c.read_blank.ensures c.in_err-card-in-Handback.ensures)

pub returns-in_err-card-in-Handback-clause-back : goal.returns-in_err-card-in-Handback-clause-back
returns-in_err-card-in-Handback-clause-back c =
    reads_back c.args.line.now c.from_residual-in_err-card-in-Handback.result (returns-in_err-card-in-Handback-clause-reads c)

pub returns-in_ok-first-in-Pair-clause-reads : goal.returns-in_ok-first-in-Pair-clause-reads
returns-in_ok-first-in-Pair-clause-reads c =
    subst (λ (s : Slip). Writable s × (c.args.line.now ≡ written s)) (sym c.pair_token.ensures)
    (pair_line _ _ _ _ _ _ _ c.if-line-ne20.false (spelled _ _ _ c.in_ok-word.ensures.ok_part c.read_word.ensures) c.in-Pair.is c.read_number.ensures c.read_number-in-Pair.ensures c.in_ok-first-in-Pair.ensures)

pub returns-in_ok-first-in-Pair-clause-back : goal.returns-in_ok-first-in-Pair-clause-back
returns-in_ok-first-in-Pair-clause-back c =
    reads_back c.args.line.now (Ok c.pair_token.result) (returns-in_ok-first-in-Pair-clause-reads c)

pub returns-in_ok-card-in-Handback-clause-reads : goal.returns-in_ok-card-in-Handback-clause-reads
returns-in_ok-card-in-Handback-clause-reads c =
    handback_line _ _ _ _ _ _ c.if-line-ne20.false (spelled _ _ _ c.in_ok-word.ensures.ok_part c.read_word.ensures) c.in-Handback.is c.read_number-in-Handback.ensures c.read_blank.ensures c.in_ok-card-in-Handback.ensures

pub returns-in_ok-card-in-Handback-clause-back : goal.returns-in_ok-card-in-Handback-clause-back
returns-in_ok-card-in-Handback-clause-back c =
    reads_back c.args.line.now (Ok (Handback c.in_ok-card-in-Handback.card)) (returns-in_ok-card-in-Handback-clause-reads c)
