use Rattle.std.proofs.Common.{◌∙◌}
use Rattle.offices.specs.Bases.{base_sets}
use Rattle.directory.proofs.Listing.{words_from}
use Rattle.directory.proofs.entry.OfficeEntry.members_of.Goals as goal

pub returns : goal.returns
returns c i =
    let e = c.args.self.now in
    c.row.ensures i ∙ words_from e.members (base_sets e.base) e.words c.args.set i
