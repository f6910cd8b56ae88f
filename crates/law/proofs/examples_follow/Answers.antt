use Rattle.law.proofs.examples_follow.Goals as goal
use Rattle.law.proofs.Worked.{worked_examples}

pub returns : goal.returns
returns c = worked_examples
