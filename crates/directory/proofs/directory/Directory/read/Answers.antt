use Rattle.std.proofs.Common.{length, vec_items, sym, ap, subst, arith, rules}
use Rattle.std.proofs.lemmas.List.{length-map}
use Rattle.law.specs.Roles.{LawfulBank}
use Rattle.directory.specs.Heard.{entry_model, heard}
use Rattle.directory.proofs.Collecting.{entries_collected}
use Rattle.directory.proofs.directory.Directory.read.Goals as goal

pub invariant_of-result : goal.invariant_of-result
invariant_of-result g c =
    let bank = g.B.Bank.offices c.args.bank.now in
    let entries = c.in_ok-entries.entries in
    let same = entries_collected _ bank _ _ c.collect.result entries _ c.office_count.ensures c.in_ok-entries.was c.collect.ensures.ran c.map.ensures.source c.map.ensures.closure (λ o e q k. search rules) in
    omega (arith, g.met.B.Bank.heard c.args.bank.now, ap length same, length-map (vec_items entries) entry_model, entries.ok.0)

pub returns : goal.returns
unfolding heard
returns g c =
    let bank = g.B.Bank.offices c.args.bank.now in
    let law = g.met.B.Bank in
    let entries = c.in_ok-entries.entries in
    let same = entries_collected _ bank _ _ c.collect.result entries _ c.office_count.ensures c.in_ok-entries.was c.collect.ensures.ran c.map.ensures.source c.map.ensures.closure (λ o e q k. search rules) in
    record { heard = same; lawful = subst LawfulBank (sym same) (record { heard = law.heard c.args.bank.now; lawful = law.lawful c.args.bank.now }) }
