use Rattle.law.proofs.histories_are_sound.Goals as goal
use Rattle.law.proofs.Scenes.{more_never_mends, more_said_never_mends}
use Rattle.law.proofs.Sounds.{right_is_sound}

pub returns : goal.returns
returns c = record { sound = right_is_sound; scenes = more_never_mends; histories = more_said_never_mends }
