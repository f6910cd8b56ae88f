use Rattle.sheets.proofs.Round.{matching}
use Rattle.sheets.proofs.lines_and_tokens_match.Goals as goal

pub returns : goal.returns
returns c = matching
