use Rattle.sheets.proofs.Joining.{joining}
use Rattle.sheets.proofs.lines_make_the_sheet.Goals as goal

pub returns : goal.returns
returns c = joining
