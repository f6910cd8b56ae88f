-- What is written reads back, and nothing else reads.
use Rattle.std.proofs.Common.{◌≡◌, ℕ, ◌+◌, ◌*◌, ◌≤◌, cond, eqb, ◌⊎◌, List, ◌++◌, length, get_or, take, drop, Ok, Err, Result, sym, refl, ap, ◌∙◌, subst, inl, inr, arith, length-append, drop-drop, take_at, drop_at}
use Rattle.std.proofs.lemmas.List.{take_all}
use Rattle.sheet_words.specs.declared.PairWord.TheVariants as word
use Rattle.sheet_words.specs.declared.Word.{Word}
use Rattle.sheet_words.specs.declared.Word.TheVariants.{Pair}
use Rattle.sheet_words.specs.declared.Word.TheVariants as sole
use Rattle.sheet_words.specs.Words.{word_of}
use Rattle.answers.specs.declared.Refusal.{Refusal}
use Rattle.answers.specs.declared.Refusal.TheVariants as refused
use Rattle.sheets.specs.declared.fault.Fault.{Fault}
use Rattle.sheets.specs.declared.fault.Fault.TheVariants.{WrongLength, UnknownWord, BadField}
use Rattle.sheets.specs.declared.token.Token.{Token}
use Rattle.sheets.specs.Columns.{six}
use Rattle.sheets.specs.Slips.{Slip, pair_slip, handback_slip, box_slip, send_slip, meaning, written, Writable, blank, Mark}
use Rattle.sheets.specs.Reading.{first, second, mark_in, BadAt, FirstBad, Reads, Means, ReadsBack}
use Rattle.sheets.specs.Fields.{value, Proper, Clean}
use Rattle.sheets.specs.Promise.{Exactly, CallsAgree, Apart, LinesAndTokensMatch}
use Rattle.sheets.proofs.Counted.{length_six}
use Rattle.sheets.proofs.Parts.{mark_whole}
use Rattle.sheets.proofs.Properly.{proper, number_six}

-- a word's first three bytes tell it from the others
abbrev key : List ℕ → ℕ
key w = get_or w 0 0 * 65536 + get_or w 1 0 * 256 + get_or w 2 0

abbrev back : ℕ → Word
back n =
    cond (eqb n 4805459) (Pair word.Issue) (cond (eqb n 4281171) (Pair word.Assign) (cond (eqb n 5391692) (Pair word.Relieve)
    (cond (eqb n 5526101) (Pair word.Trust) (cond (eqb n 4475219) (Pair word.Distrust) (cond (eqb n 4999502) (Pair word.Link)
    (cond (eqb n 5526105) (Pair word.Try) (cond (eqb n 5461331) (Pair word.Suspend) (cond (eqb n 5391699) (Pair word.Resume)
    (cond (eqb n 5720404) (Pair word.Withdraw) (cond (eqb n 5063001) (Pair word.May) (cond (eqb n 4735310) sole.Handback
    (cond (eqb n 4345688) sole.Box sole.Send))))))))))))

back_word : (w : Word) → back (key (word_of w)) ≡ w
back_word (Pair word.Issue) = refl
back_word (Pair word.Assign) = refl
back_word (Pair word.Relieve) = refl
back_word (Pair word.Trust) = refl
back_word (Pair word.Distrust) = refl
back_word (Pair word.Link) = refl
back_word (Pair word.Try) = refl
back_word (Pair word.Suspend) = refl
back_word (Pair word.Resume) = refl
back_word (Pair word.Withdraw) = refl
back_word (Pair word.May) = refl
back_word sole.Handback = refl
back_word sole.Box = refl
back_word sole.Send = refl

same_word : (w v : Word) → word_of w ≡ word_of v → w ≡ v
same_word w v e = sym (back_word w) ∙ ap (λ (bs : List ℕ). back (key bs)) e ∙ back_word v

word_eight : (w : Word) → length (word_of w) ≡ 8
word_eight (Pair word.Issue) = refl
word_eight (Pair word.Assign) = refl
word_eight (Pair word.Relieve) = refl
word_eight (Pair word.Trust) = refl
word_eight (Pair word.Distrust) = refl
word_eight (Pair word.Link) = refl
word_eight (Pair word.Try) = refl
word_eight (Pair word.Suspend) = refl
word_eight (Pair word.Resume) = refl
word_eight (Pair word.Withdraw) = refl
word_eight (Pair word.May) = refl
word_eight sole.Handback = refl
word_eight sole.Box = refl
word_eight sole.Send = refl

-- the two parts of a written line: its word, and what follows
abbrev head_of : Slip → Word
head_of (pair_slip w a b) = Pair w
head_of (handback_slip a) = sole.Handback
head_of (box_slip m) = sole.Box
head_of send_slip = sole.Send

abbrev rest_of : Slip → List ℕ
rest_of (pair_slip w a b) = six a ++ six b
rest_of (handback_slip a) = six a ++ blank
rest_of (box_slip m) = m
rest_of send_slip = blank ++ blank

written_parts : (s : Slip) → written s ≡ word_of (head_of s) ++ rest_of s
written_parts (pair_slip w a b) = refl
written_parts (handback_slip a) = refl
written_parts (box_slip m) = refl
written_parts send_slip = refl

take_word : (s : Slip) → take 8 (written s) ≡ word_of (head_of s)
take_word s =
    ap (take 8) (written_parts s) ∙ take_at (word_of (head_of s)) (rest_of s) 8 (word_eight (head_of s))

drop_word : (s : Slip) → drop 8 (written s) ≡ rest_of s
drop_word s =
    ap (drop 8) (written_parts s) ∙ drop_at (word_of (head_of s)) (rest_of s) 8 (word_eight (head_of s))

-- the slip of a word and what follows it
abbrev slip_from : Word → List ℕ → Slip
slip_from (Pair w) m = pair_slip w (value (take 6 m)) (value (drop 6 m))
slip_from sole.Handback m = handback_slip (value (take 6 m))
slip_from sole.Box m = box_slip m
slip_from sole.Send m = send_slip

front : (a : ℕ) (b : List ℕ) → a ≤ 999999 → value (take 6 (six a ++ b)) ≡ a
front a b h = ap value (take_at (six a) b 6 (length_six a)) ∙ number_six a h

slip_read : (s : Slip) → Writable s → slip_from (head_of s) (rest_of s) ≡ s
slip_read (pair_slip w a b) h =
    ap (λ (x : ℕ). pair_slip w x (value (drop 6 (six a ++ six b)))) (front a (six b) h.0)
    ∙ ap (λ (x : ℕ). pair_slip w a x) (ap value (drop_at (six a) (six b) 6 (length_six a)) ∙ number_six b h.1)
slip_read (handback_slip a) h = ap (λ (x : ℕ). handback_slip x) (front a blank h)
slip_read (box_slip m) h = refl
slip_read send_slip h = refl

-- slips with one line are one slip
one_slip : (s v : Slip) → Writable s → Writable v → written s ≡ written v → s ≡ v
one_slip s v hs hv e =
    let w : head_of s ≡ head_of v = same_word (head_of s) (head_of v) (sym (take_word s) ∙ ap (take 8) e ∙ take_word v) in
    let m : rest_of s ≡ rest_of v = sym (drop_word s) ∙ ap (drop 8) e ∙ drop_word v in
    sym (slip_read s hs) ∙ ap (λ (x : Word). slip_from x (rest_of s)) w ∙ ap (slip_from (head_of v)) m ∙ slip_read v hv

-- the fields of a line with the rest a ++ b
first_is : (s : Slip) (a b : List ℕ) → length a ≡ 6 → rest_of s ≡ a ++ b → first (written s) ≡ a
first_is s a b n e = ap (take 6) (drop_word s ∙ e) ∙ take_at a b 6 n

second_is : (s : Slip) (a b : List ℕ) → length a ≡ 6 → length b ≡ 6 → rest_of s ≡ a ++ b → second (written s) ≡ b
second_is s a b n m e =
    ap (take 6) (sym (drop-drop 6 8 (written s)) ∙ ap (drop 6) (drop_word s ∙ e) ∙ drop_at a b 6 n) ∙ take_all 6 b (omega arith)

no_bad_at : (A B : Type 0) (c : ℕ) → A → B → BadAt A B c → ⊥
no_bad_at A B c a b (inl p) = p.1 a
no_bad_at A B c a b (inr p) = p.2 b

written_twenty : (s : Slip) → Writable s → length (written s) ≡ 20
written_twenty (pair_slip w a b) h =
    omega (arith, length-append (word_of (Pair w)) (six a ++ six b), length-append (six a) (six b), word_eight (Pair w), length_six a, length_six b)
written_twenty (handback_slip a) h =
    omega (arith, length-append (word_of sole.Handback) (six a ++ blank), length-append (six a) blank, length_six a)
written_twenty (box_slip m) h = omega (arith, length-append (word_of sole.Box) m, h.0)
written_twenty send_slip h = refl

-- nothing is bad in a written line
no_bad : (s : Slip) (c : ℕ) → Writable s → FirstBad (head_of s) (written s) c → ⊥
no_bad (pair_slip w a b) c h x =
    no_bad_at _ _ c
    (a, (h.0, first_is (pair_slip w a b) (six a) (six b) (length_six a) refl))
    (b, (h.1, second_is (pair_slip w a b) (six a) (six b) (length_six a) (length_six b) refl)) x
no_bad (handback_slip a) c h x =
    no_bad_at _ _ c
    (a, (h, first_is (handback_slip a) (six a) blank (length_six a) refl))
    (second_is (handback_slip a) (six a) blank (length_six a) refl refl) x
no_bad (box_slip m) c h x =
    x.1
    (subst Mark (sym (mark_whole (written (box_slip m)) (written_twenty (box_slip m) h) ∙ drop_word (box_slip m))) h)
no_bad send_slip c h x =
    no_bad_at _ _ c (first_is send_slip blank blank refl refl) (second_is send_slip blank blank refl refl refl) x

slip_back : (l : List ℕ) (r : Result Token Fault) → Reads l r → (s : Slip) → Writable s → l ≡ written s → Means r s
slip_back l (Ok u) e s h q = one_slip (meaning u) s e.0 h (sym e.1 ∙ q)
slip_back l (Err WrongLength) e s h q = e (ap length q ∙ written_twenty s h)
slip_back l (Err UnknownWord) e s h q = e.1 (head_of s) (ap (take 8) q ∙ take_word s)
slip_back l (Err (BadField c)) e s h q =
    let w : e.1.0 ≡ head_of s = same_word e.1.0 (head_of s) (sym e.1.1 ∙ ap (take 8) q ∙ take_word s) in
    no_bad s c h (subst (λ (x : List ℕ). FirstBad (head_of s) x c) q (subst (λ (x : Word). FirstBad x l c) w e.1.2))

-- the line of a token that can be written reads as that token
pub reads_back : (l : List ℕ) (r : Result Token Fault) → Reads l r → ReadsBack l r
reads_back l r e t h q = slip_back l r e (meaning t) h q

exactly : Exactly
exactly l (Ok u) e t = ((λ m. subst (λ (s : Slip). Writable s × (l ≡ written s)) m e), λ h. reads_back l (Ok u) e t h.0 h.1)
exactly l (Err f) e t = ((λ m. absurd m), λ h. reads_back l (Err f) e t h.0 h.1)

-- twenty bytes take a token that can be written
no_refusal :
    (before : List ℕ) (Good : Type 0) (f : Refusal) → length before ≡ 20 → Good
    → ((length before ≡ 20 → ⊥) × (f ≡ refused.WrongLength)) ⊎ ((length before ≡ 20) × (Good → ⊥) × (f ≡ refused.BadField)) → ⊥
no_refusal before Good f n g (inl p) = p.0 n
no_refusal before Good f n g (inr p) = p.1 g

calls_agree : CallsAgree
calls_agree l r e t before after (Ok u) n w = (
  (λ m. (refl, w.2 ∙ sym ((exactly l r e t).0 m).1)),
  λ h. (exactly l r e t).1 (w.1, sym h.1 ∙ w.2),
)
calls_agree l r e t before after (Err f) n w = (
  (λ m. absurd (no_refusal before (Writable (meaning t)) f n ((exactly l r e t).0 m).0 w.0)),
  λ h. let z : ◌≡◌ {A = ℕ} 0 1 = cc in absurd (omega arith),
)

apart : Apart
apart t u = one_slip (meaning t) (meaning u)

clean : (s : Slip) (l : List ℕ) → Writable s → l ≡ written s → Clean s l
clean (pair_slip w a b) l h q = (
  subst (λ (f : List ℕ). Proper f a) (sym (ap first q ∙ first_is (pair_slip w a b) (six a) (six b) (length_six a) refl)) (proper a h.0),
  subst (λ (f : List ℕ). Proper f b)
      (sym (ap second q ∙ second_is (pair_slip w a b) (six a) (six b) (length_six a) (length_six b) refl)) (proper b h.1),
)
clean (handback_slip a) l h q = (
  subst (λ (f : List ℕ). Proper f a) (sym (ap first q ∙ first_is (handback_slip a) (six a) blank (length_six a) refl)) (proper a h),
  ap second q ∙ second_is (handback_slip a) (six a) blank (length_six a) refl refl,
)
clean (box_slip m) l h q = (
  ap mark_in q ∙ mark_whole (written (box_slip m)) (written_twenty (box_slip m) h) ∙ drop_word (box_slip m),
  h,
)
clean send_slip l h q = (
  ap first q ∙ first_is send_slip blank blank refl refl,
  ap second q ∙ second_is send_slip blank blank refl refl refl,
)

pub matching : LinesAndTokensMatch
matching = (exactly, calls_agree, apart, λ l t e. clean (meaning t) l e.0 e.1)
