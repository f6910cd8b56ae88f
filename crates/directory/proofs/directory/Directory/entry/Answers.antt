use Rattle.std.proofs.Common.{◌≡◌, subst, MatchOption}
use Rattle.banks.specs.Banks.{no_office, office_at}
use Rattle.directory.specs.Heard.{entry_model, heard}
use Rattle.directory.proofs.Listing.{heard_found}
use Rattle.directory.proofs.directory.Directory.entry.Goals as goal

pub returns : goal.returns
returns c =
    let d = c.args.self.now in
    subst (λ o. MatchOption c.get.result (office_at (heard d) o ≡ no_office) (λ e. office_at (heard d) o ≡ entry_model e.now)) c.from.ensures
    (heard_found d c.from.result _ c.get.result c.deref.ensures.value c.get.ensures.lookup.3)
