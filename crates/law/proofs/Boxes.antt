-- A box and its links in any order.
use Rattle.std.proofs.Common.{◌≡◌, ℕ, ◌⊎◌, List, [], ◌∷◌, sym, refl, subst, inl, inr}
use mathlib.Core.List.{Permᴰ}
use Rattle.offices.specs.Model.{OfficeModel}
use Rattle.law.specs.Counting.{Many}
use Rattle.law.specs.Sound.{Link, Sound}
use Rattle.law.specs.Requests.{accepted, link}
use Rattle.law.specs.Histories.{Event, accepting, Standing, scene, Alike}
use Rattle.law.specs.Checks.{linking}
use Rattle.law.specs.Right.{LinkAnswer}
use Rattle.law.specs.Promises.{sent, Within}
use Rattle.law.proofs.Scenes.{sound_less, many_more}
use Rattle.law.proofs.Counts.{many_exchange}
use Rattle.law.proofs.Passing.{passed, let_by, AllAccepted, link_sound}
use Rattle.law.proofs.Alikes.{alike_back, alike_on, within_alike, link_adds, sent_adds, alike_adds, one}

module _ (bank : List OfficeModel) (n : ℕ) where
  fresh : (h : List Event) (p : Link) → LinkAnswer bank h n p accepted → Standing h p → ⊥
  fresh h p x = (passed bank (linking bank h n p) (λ b. b ≡ accepted) x).0.1.1.1.1.0

  room : (h : List Event) (p : Link) → LinkAnswer bank h n p accepted → Many (Standing h) 256 → ⊥
  room h p x = (passed bank (linking bank h n p) (λ b. b ≡ accepted) x).0.1.1.1.1.1.0

  -- a LINK accepted after one history is accepted after another that has it new, has room and stays sound
  again : (h h' : List Event) (p : Link) → LinkAnswer bank h n p accepted → (Standing h' p → ⊥) → (Many (Standing h') 256 → ⊥)
      → Sound bank (scene (accepting n (link p) h')) → LinkAnswer bank h' n p accepted
  again h h' p x new few sound =
      let y = (passed bank (linking bank h n p) (λ b. b ≡ accepted) x).0 in
      let_by bank (linking bank h' n p) (λ b. b ≡ accepted) accepted
      (y.0, (y.1.0, (y.1.1.0, (y.1.1.1.0, (new, (few, ((λ u. u sound), tt))))))) refl

  link_alike : {h h' : List Event} (p : Link) → Alike h h' → LinkAnswer bank h n p accepted → LinkAnswer bank h' n p accepted
  link_alike {h} {h'} p s x = again h h' p x
      (λ st. fresh h p x ((s.standing p).1 st))
      (λ m. room h p x (many_more (Standing h') (Standing h) 256 (λ q. (s.standing q).1) m))
      (sound_less bank (within_alike (alike_on (record { request = link p; strip = n; answer = accepted }) (alike_back s))) (link_sound bank n h p x))

  all_alike : (ls : List Link) {h h' : List Event} → Alike h h' → AllAccepted bank n h ls → AllAccepted bank n h' ls
  all_alike [] s x = tt
  all_alike (p ∷ ps) s x = (link_alike p s x.0, all_alike ps (alike_on (record { request = link p; strip = n; answer = accepted }) s) x.1)

  -- two LINKs in turn can change places
  module _ (h : List Event) (a b : Link) (x : LinkAnswer bank h n a accepted) (y : LinkAnswer bank (accepting n (link a) h) n b accepted) where
    swapped : Alike (sent n (a ∷ b ∷ []) h) (sent n (b ∷ a ∷ []) h)
    swapped = alike_adds (Permᴰ.swap refl refl) (sent_adds n h (a ∷ b ∷ [])) (sent_adds n h (b ∷ a ∷ []))

    both : Sound bank (scene (sent n (a ∷ b ∷ []) h))
    both = link_sound bank n (accepting n (link a) h) b y

    second_first : LinkAnswer bank h n b accepted
    second_first = again (accepting n (link a) h) h b y
        (λ s. fresh (accepting n (link a) h) b y ((one n h a b).1 (inr s)))
        (room h a x)
        (sound_less bank less both)
      where
        less : Within (scene (accepting n (link b) h)) (scene (sent n (a ∷ b ∷ []) h))
        less = record {
          linked = λ q s. elim ((one n h b q).0 s) [
            | inl e ↦ (one n (accepting n (link a) h) b q).1 (inl e)
            | inr t ↦ (one n (accepting n (link a) h) b q).1 (inr ((one n h a q).1 (inr t)))
          ];
          held = λ c r s. ((sent_adds n h (a ∷ b ∷ [])).held c r).1 (((link_adds n h b).held c r).0 s);
          trusted = λ o p s. ((link_adds n h b).trusted o p).1 (((sent_adds n h (a ∷ b ∷ [])).trusted o p).0 s);
        }

    first_second : LinkAnswer bank (accepting n (link b) h) n a accepted
    first_second = again h (accepting n (link b) h) a x
        (λ s. elim ((one n h b a).0 s) [
          | inl e ↦ fresh (accepting n (link a) h) b y ((one n h a b).1 (inl (sym e)))
          | inr t ↦ fresh h a x t
        ])
        (λ m. room (accepting n (link a) h) b y
        (many_more (λ q. (q ≡ a) ⊎ Standing h q) (Standing (accepting n (link a) h)) 256 (λ q. (one n h a q).1)
        (many_exchange (Standing h) a b (fresh h a x) 256
        (many_more (Standing (accepting n (link b) h)) (λ q. (q ≡ b) ⊎ Standing h q) 256 (λ q. (one n h b q).0) m))))
        (sound_less bank (within_alike (alike_back swapped)) both)

  pub all_perm : {ls ms : List Link} → Permᴰ ls ms → (h : List Event) → AllAccepted bank n h ls → AllAccepted bank n h ms
  all_perm Permᴰ.nil h x = x
  all_perm (Permᴰ.cons {a = a} {b = b} {l₂ = l₂} e d) h x = subst (λ z. AllAccepted bank n h (z ∷ l₂)) e (x.0, all_perm d (accepting n (link a) h) x.1)
  all_perm (Permᴰ.swap {a = a} {b = b} {a' = a'} {b' = b'} {l = l} e e') h x =
      let y : AllAccepted bank n h (b ∷ a ∷ l) = (second_first h a b x.0 x.1.0, (first_second h a b x.0 x.1.0, all_alike l (swapped h a b x.0 x.1.0) x.1.1)) in
      subst (λ z. AllAccepted bank n h (a' ∷ z ∷ l)) e (subst (λ z. AllAccepted bank n h (z ∷ a ∷ l)) e' y)
  all_perm (Permᴰ.trans d d') h x = all_perm d' h (all_perm d h x)
