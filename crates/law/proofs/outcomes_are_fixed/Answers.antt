use Rattle.law.proofs.outcomes_are_fixed.Goals as goal
use Rattle.law.proofs.Changes.{only_accepted_change}
use Rattle.law.proofs.Unique.{one_outcome}
use Rattle.law.proofs.Kept.{all_kept, full_at_256}
use Rattle.law.proofs.Existing.{some_answer}
use Rattle.law.proofs.Fits.{chain_fits}

pub returns : goal.returns
returns c = record { one = one_outcome; some = some_answer; fits = chain_fits; changes = only_accepted_change; kept = all_kept; full = full_at_256 }
