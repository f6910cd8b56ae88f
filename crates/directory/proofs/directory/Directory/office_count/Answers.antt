use Rattle.std.proofs.Common.{sym, ◌∙◌}
use Rattle.directory.proofs.Listing.{length_heard, heard_lawful}
use Rattle.directory.proofs.directory.Directory.office_count.Goals as goal

pub returns : goal.returns
returns c = record { count = c.len.ensures ∙ sym (length_heard c.args.self.now); lawful = heard_lawful c.args.self.now }
