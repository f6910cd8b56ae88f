-- Every right history is sound; a box and its links in any order come to the same.
use Rattle.std.proofs.Common.{◌≡◌, ℕ, ◌<◌, List, [], ◌∷◌, refl, inl, arith}
use mathlib.Core.List.Permᴰ
use Rattle.offices.specs.Model.{OfficeModel}
use Rattle.law.specs.Sound.{Link, Sound}
use Rattle.law.specs.Requests.{Request, Answer, accepted, refused, refused_at, granted, denied, issue, assign, relieve, handback, trust, distrust, link, try, box, suspend, resume, withdraw, may}
use Rattle.law.specs.Histories.{Event, accepting, scene}
use Rattle.law.specs.Checks.{checks}
use Rattle.law.specs.Right.{CalledFor, Right}
use Rattle.law.specs.Promises.{sent, RightIsSound, BoxInAnyOrder}
use Rattle.law.proofs.Scenes.{sound_less, sound_stable, new_sound}
use Rattle.law.proofs.Changes.{kind, harmless}
use Rattle.law.proofs.Passing.{passed, AllAccepted, box_lines, lines_box, link_sound, sent_sound}
use Rattle.law.proofs.Alikes.{alike_later, alike_back, alike_adds, within_alike, box_adds, sent_adds}
use Rattle.law.proofs.Boxes.{all_perm}
use Rattle.law.proofs.Same.{called_same}

module _ (bank : List OfficeModel) (h : List Event) (n : ℕ) (sound : Sound bank (scene h)) where
  -- a request that can make nothing unsound
  quiet : (q : Request) (a : Answer) → (a ≡ accepted → 4 < kind q) → Sound bank (scene (record { request = q; strip = n; answer = a } ∷ h))
  quiet q a f = sound_less bank (harmless (record { request = q; strip = n; answer = a }) h f) sound

  step_sound : (q : Request) (a : Answer) → CalledFor bank h n q a → Sound bank (scene (record { request = q; strip = n; answer = a } ∷ h))
  step_sound q (refused why) x = quiet q (refused why) (λ e. let z : ◌≡◌ {A = ℕ} 0 1 = cc in omega arith)
  step_sound q (refused_at i why) x = quiet q (refused_at i why) (λ e. let z : ◌≡◌ {A = ℕ} 0 1 = cc in omega arith)
  step_sound q (granted xs) x = quiet q (granted xs) (λ e. let z : ◌≡◌ {A = ℕ} 0 1 = cc in omega arith)
  step_sound q denied x = quiet q denied (λ e. let z : ◌≡◌ {A = ℕ} 0 1 = cc in omega arith)
  step_sound (link p) accepted x = link_sound bank n h p x
  step_sound (box ls) accepted x =
      sound_less bank (within_alike (alike_adds (Permᴰ.refl ls) (box_adds n h ls) (sent_adds n h ls))) (sent_sound bank n h ls (box_lines bank n h ls x) sound)
  step_sound (assign c r) accepted x = sound_stable bank _ (passed bank (checks bank h n (assign c r)) (λ b. b ≡ accepted) x).0.1.1.1.1.1.1.0
  step_sound (distrust o p) accepted x = sound_stable bank _ (passed bank (checks bank h n (distrust o p)) (λ b. b ≡ accepted) x).0.1.1.1.0
  step_sound (issue c o) accepted x = quiet (issue c o) accepted (λ e. omega arith)
  step_sound (relieve c r) accepted x = quiet (relieve c r) accepted (λ e. omega arith)
  step_sound (handback c) accepted x = quiet (handback c) accepted (λ e. omega arith)
  step_sound (trust o p) accepted x = quiet (trust o p) accepted (λ e. omega arith)
  step_sound (try p) accepted x = quiet (try p) accepted (λ e. omega arith)
  step_sound (suspend p) accepted x = quiet (suspend p) accepted (λ e. omega arith)
  step_sound (resume p) accepted x = quiet (resume p) accepted (λ e. omega arith)
  step_sound (withdraw p) accepted x = quiet (withdraw p) accepted (λ e. omega arith)
  step_sound (may c r) accepted x = quiet (may c r) accepted (λ e. omega arith)

pub right_is_sound : RightIsSound
right_is_sound bank [] lawful right = new_sound bank lawful (scene []) (λ p s. s) (λ c r s. s) (λ o. inl refl)
right_is_sound bank (e ∷ h) lawful right = step_sound bank h e.strip (right_is_sound bank h lawful right.1) e.request e.answer right.0

-- links sent singly
pub right_sent : (bank : List OfficeModel) (n : ℕ) (h : List Event) (ms : List Link) → Right bank h → AllAccepted bank n h ms → Right bank (sent n ms h)
right_sent bank n h [] r x = r
right_sent bank n h (p ∷ ps) r x = right_sent bank n (accepting n (link p) h) ps (x.0, r) x.1

pub sent_right : (bank : List OfficeModel) (n : ℕ) (h : List Event) (ms : List Link) → Right bank (sent n ms h) → Right bank h × AllAccepted bank n h ms
sent_right bank n h [] r = (r, tt)
sent_right bank n h (p ∷ ps) r = let x = sent_right bank n (accepting n (link p) h) ps r in (x.0.1, (x.0.0, x.1))

pub box_in_any_order : BoxInAnyOrder
box_in_any_order bank h n ls ms perm = (
  (
    (λ r. right_sent bank n h ms r.1 (all_perm bank n perm h (box_lines bank n h ls r.0))),
    (λ r. let x = sent_right bank n h ms r in (lines_box bank n h ls (all_perm bank n (Permᴰ.symm perm) h x.1), x.0)),
  ),
  (λ later k q a.
      let same = alike_later later (alike_adds perm (box_adds n h ls) (sent_adds n h ms)) in
      (called_same bank same k a q, called_same bank (alike_back same) k a q)),
)
