-- The guarantee, whole.
use Rattle.law.specs.Promises.{Guarantee}
use Rattle.law.proofs.Sounds.{right_is_sound, box_in_any_order}
use Rattle.law.proofs.Unique.{one_outcome}
use Rattle.law.proofs.Existing.{some_answer}
use Rattle.law.proofs.Sixteen.{sixteen_exactly, box_sixteen_exactly}
use Rattle.law.proofs.Changes.{only_accepted_change}
use Rattle.law.proofs.Fits.{chain_fits}
use Rattle.law.proofs.Kept.{all_kept, full_at_256}

pub guarantee : Guarantee
guarantee = record {
  sound = right_is_sound;
  one_outcome = one_outcome;
  some_answer = some_answer;
  sixteen = sixteen_exactly;
  box_sixteen = box_sixteen_exactly;
  any_order = box_in_any_order;
  only_accepted = only_accepted_change;
  fits = chain_fits;
  kept = all_kept;
  full = full_at_256;
}
