-- What an accepted request has passed, and boxes line by line.
use Rattle.std.proofs.Common.{◌≡◌, ℕ, suc, List, [], ◌∷◌, refl, inl, inr, arith}
use Rattle.offices.specs.Model.{OfficeModel}
use Rattle.law.specs.Sound.{Link, Sound}
use Rattle.law.specs.Requests.{Answer, Reason, accepted, refused, link, box}
use Rattle.law.specs.Histories.{Event, accepting, scene}
use Rattle.law.specs.Checks.{Check, FirstRefusal, linking, checks}
use Rattle.law.specs.Right.{LinkAnswer, LinesAnswer, CalledFor}
use Rattle.law.specs.Promises.{NoneRefuses, sent}
use Rattle.law.proofs.Scenes.{sound_stable}

pub never : (why : Reason) → accepted ≡ refused why → ⊥
never why e = let z : ◌≡◌ {A = ℕ} 0 1 = cc in omega arith

module _ (bank : List OfficeModel) where
  -- accepted: no check refuses
  pub passed : (cs : List Check) (Else : Answer → Type 0) → FirstRefusal bank cs Else accepted → NoneRefuses bank cs × Else accepted
  passed [] Else x = (tt, x)
  passed (c ∷ cs) Else (inl x) = absurd (never x.1.0 x.1.2)
  passed (c ∷ cs) Else (inr x) = let r = passed cs Else x.1 in ((x.0, r.0), r.1)

  pub let_by : (cs : List Check) (Else : Answer → Type 0) (a : Answer) → NoneRefuses bank cs → Else a → FirstRefusal bank cs Else a
  let_by [] Else a n x = x
  let_by (c ∷ cs) Else a n x = inr (n.0, let_by cs Else a n.1 x)

  -- each LINK accepted in its turn
  abbrev pub AllAccepted : ℕ → List Event → List Link → Type 0
  AllAccepted n h [] = Unit {0}
  AllAccepted n h (l ∷ ls) = LinkAnswer bank h n l accepted × AllAccepted n (accepting n (link l) h) ls

  lines_accepted : (n : ℕ) (h : List Event) (i : ℕ) (ls : List Link) → LinesAnswer bank n h i ls accepted → AllAccepted n h ls
  lines_accepted n h i [] x = tt
  lines_accepted n h i (l ∷ ls) (inl x) = let e = x.2 in let z : ◌≡◌ {A = ℕ} 0 1 = cc in absurd (omega arith)
  lines_accepted n h i (l ∷ ls) (inr x) = (x.0, lines_accepted n (accepting n (link l) h) (suc i) ls x.1)

  accepted_lines : (n : ℕ) (h : List Event) (i : ℕ) (ls : List Link) → AllAccepted n h ls → LinesAnswer bank n h i ls accepted
  accepted_lines n h i [] x = refl
  accepted_lines n h i (l ∷ ls) x = inr (x.0, accepted_lines n (accepting n (link l) h) (suc i) ls x.1)

  pub box_lines : (n : ℕ) (h : List Event) (ls : List Link) → CalledFor bank h n (box ls) accepted → AllAccepted n h ls
  box_lines n h [] x = tt
  box_lines n h (l ∷ ls) x = lines_accepted n h 0 (l ∷ ls) (passed (checks bank h n (box (l ∷ ls))) (LinesAnswer bank n h 0 (l ∷ ls)) x).1

  pub lines_box : (n : ℕ) (h : List Event) (ls : List Link) → AllAccepted n h ls → CalledFor bank h n (box ls) accepted
  lines_box n h [] x = refl
  lines_box n h (l ∷ ls) x = inr ((passed (linking bank h n l) (λ b. b ≡ accepted) x.0).0.0, accepted_lines n h 0 (l ∷ ls) x)

  pub link_sound : (n : ℕ) (h : List Event) (l : Link) → LinkAnswer bank h n l accepted → Sound bank (scene (accepting n (link l) h))
  link_sound n h l x = sound_stable bank _ (passed (linking bank h n l) (λ b. b ≡ accepted) x).0.1.1.1.1.1.1.0

  pub sent_sound : (n : ℕ) (h : List Event) (ls : List Link) → AllAccepted n h ls → Sound bank (scene h) → Sound bank (scene (sent n ls h))
  sent_sound n h [] x s = s
  sent_sound n h (l ∷ ls) x s = sent_sound n (accepting n (link l) h) ls x.1 (link_sound n h l x.0)
