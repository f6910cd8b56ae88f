use Rattle.std.proofs.Common.{ap, arith, rules}
use Rattle.std.proofs.lemmas.List.{get_or_past}
use Rattle.offices.specs.Bases.{base_sets}
use Rattle.offices.proofs.SetRows.{length_sets}
use Rattle.law.specs.Roles.{no_set}
use Rattle.directory.specs.SetWords.{among, members_at}
use Rattle.directory.proofs.Rows.{rows_made}
use Rattle.directory.proofs.words.words_of.Goals as goal

pub returns : goal.returns
returns c =
    let t = c.args.base.now.table in
    let sets = base_sets c.args.base.now in
    let few = length_sets t.count t.sets (omega (arith, t.eight, t.room)) in
    rows_made _ (λ k i. among i (members_at sets k)) _ 8 (λ k y f' l h. search rules) c.from_fn.result c.from_fn.ensures.items
    (λ k i l. ap (λ s. among i s.members) (get_or_past sets k no_set (omega (arith, few, t.eight))))
