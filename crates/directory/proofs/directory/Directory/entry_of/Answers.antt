use Rattle.std.proofs.Common.{◌≡◌, ◌≤◌, length, arith}
use Rattle.std.proofs.lemmas.Grind.{common_steps}
use Rattle.std.proofs.lemmas.List.{get_or_past}
use Rattle.banks.specs.Banks.{no_office, office_at}
use Rattle.banks.specs.Codes.{office_of}
use Rattle.directory.specs.Heard.{heard}
use Rattle.directory.proofs.Listing.{heard_few}
use Rattle.directory.proofs.directory.Directory.entry_of.Goals as goal

pub returns-in_err-ok : goal.returns-in_err-ok
returns-in_err-ok c =
    let d = c.args.self.now in
    let few = heard_few d in
    let none : length (heard d) ≤ office_of c.args.code → office_at (heard d) (office_of c.args.code) ≡ no_office = get_or_past (heard d) (office_of c.args.code) no_office in
    grind (arith, common_steps)
