use Rattle.law.proofs.sixteen_is_exact.Goals as goal
use Rattle.law.proofs.Sixteen.{sixteen_exactly, box_sixteen_exactly}

pub returns : goal.returns
returns c = record { single = sixteen_exactly; boxed = box_sixteen_exactly }
