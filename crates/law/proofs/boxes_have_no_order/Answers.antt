use Rattle.law.proofs.boxes_have_no_order.Goals as goal
use Rattle.law.proofs.Sounds.{box_in_any_order}

pub returns : goal.returns
returns c = box_in_any_order
