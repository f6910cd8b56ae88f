-- A line of twenty bytes, from its parts.
use Rattle.std.proofs.Common.{◌≡◌, ℕ, List, ◌++◌, length, take, drop, Some, None, Option, MatchOption, ◌≢◌, Ok, Err, sym, refl, ap, ◌∙◌, subst, inl, inr, arith, length-drop, take-append-drop, drop-drop}
use Rattle.std.proofs.lemmas.List.{take_all}
use Rattle.sheet_words.specs.declared.PairWord.{PairWord}
use Rattle.sheet_words.specs.declared.Word.{Word}
use Rattle.sheet_words.specs.declared.Word.TheVariants.{Pair}
use Rattle.sheet_words.specs.declared.Word.TheVariants as sole
use Rattle.sheet_words.specs.Words.{word_of, Spells}
use Rattle.sheets.specs.declared.fault.Fault.{Fault}
use Rattle.sheets.specs.declared.fault.Fault.TheVariants.{WrongLength, UnknownWord, BadField}
use Rattle.sheets.specs.Columns.{six, HoldsNumber, ReadsNumber}
use Rattle.sheets.specs.Slips.{pair_slip, handback_slip, written, Writable, blank}
use Rattle.sheets.specs.Reading.{first, second, mark_in, BadAt, FirstBad, Reads, BothRead}

-- from its word and its two fields
from_parts :
    (l w a b : List ℕ) → length l ≡ 20 → take 8 l ≡ w → take 6 (drop 8 l) ≡ a → take 6 (drop 14 l) ≡ b → l ≡ w ++ (a ++ b)
from_parts l w a b n qw qa qb =
    let rest : drop 14 l ≡ b = sym (take_all 6 (drop 14 l) (simp length-drop (omega arith))) ∙ qb in
    let fields : drop 8 l ≡ a ++ b =
    sym (take-append-drop 6 (drop 8 l)) ∙ rw (drop-drop 6 8 l, qa, rest) in
    sym (take-append-drop 8 l) ∙ rw (qw, fields)

pub mark_whole : (l : List ℕ) → length l ≡ 20 → mark_in l ≡ drop 8 l
mark_whole l n = take_all 12 (drop 8 l) (simp length-drop (omega arith))

-- the word that the first eight bytes spell
pub spelled : (l : List ℕ) (o : Option Word) (w : Word) → o ≡ Some w → Spells (take 8 l) o → take 8 l ≡ word_of w
spelled l o w q h = subst (Spells (take 8 l)) q h

-- an answer is a value exactly if P holds
abbrev Tells : {A : Type 0} → Option A → Type 0 → Type 0
Tells x P = (x ≢ None → P) × (x ≡ None → P → ⊥)

tells_number : (field : List ℕ) (x : Option ℕ) → ReadsNumber field x → Tells x (HoldsNumber field)
tells_number field (Some n) h = ((λ s. (n, h)), (λ e. let z : ◌≡◌ {A = ℕ} 0 1 = cc in absurd (omega arith)))
tells_number field None h = ((λ s. absurd (s refl)), (λ e. h))

-- what was read of an unused field
abbrev pub ReadsBlank : List ℕ → Option (Unit {0}) → Type 0
ReadsBlank field x = MatchOption x (field ≢ blank) (λ u. field ≡ blank)

tells_blank : (field : List ℕ) (x : Option (Unit {0})) → ReadsBlank field x → Tells x (field ≡ blank)
tells_blank field (Some u) h = ((λ s. h), (λ e. let z : ◌≡◌ {A = ℕ} 0 1 = cc in absurd (omega arith)))
tells_blank field None h = ((λ s. absurd (s refl)), (λ e. h))

-- the first field that could not be read is the line's fault
bad_at : (P Q S R : Type 0) (c : ℕ) → (P → S) → ((P → ⊥) → S → ⊥) → ((Q → ⊥) → R → ⊥) → BadAt P Q c → BadAt S R c
bad_at P Q S R c s n r (inl h) = inl (h.0, n h.1)
bad_at P Q S R c s n r (inr h) = inr (h.0, s h.1, r h.2)

both_bad :
    {A B : Type 0} (S R : Type 0) (l : List ℕ) (v w : Word) (x : Option A) (y : Option B) (f : Fault)
    → length l ≡ 20 → take 8 l ≡ word_of v → v ≡ w → Tells x S → Tells y R → BothRead x y (Err f)
    → ((c : ℕ) → BadAt S R c → FirstBad w l c) → Reads l (Err f)
both_bad S R l v w x y WrongLength n e q s r h k = absurd h
both_bad S R l v w x y UnknownWord n e q s r h k = absurd h
both_bad S R l v w x y (BadField c) n e q s r h k =
    (n, (w, e ∙ ap word_of q, k c (bad_at (x ≢ None) (y ≢ None) S R c s.0 (λ t p. t (λ i. s.1 i p)) (λ t p. t (λ i. r.1 i p)) h)))

pub pair_bad :
    (l : List ℕ) (v : Word) (p : PairWord) (x y : Option ℕ) (f : Fault) → length l ≡ 20 → take 8 l ≡ word_of v → v ≡ Pair p
    → ReadsNumber (first l) x → ReadsNumber (second l) y → BothRead x y (Err f) → Reads l (Err f)
pair_bad l v p x y f n e q a b h =
    both_bad _ _ l v (Pair p) x y f n e q (tells_number (first l) x a) (tells_number (second l) y b) h (λ c t. t)

pub handback_bad :
    (l : List ℕ) (v : Word) (x : Option ℕ) (y : Option (Unit {0})) (f : Fault) → length l ≡ 20 → take 8 l ≡ word_of v → v ≡ sole.Handback
    → ReadsNumber (first l) x → ReadsBlank (second l) y → BothRead x y (Err f) → Reads l (Err f)
handback_bad l v x y f n e q a b h =
    both_bad _ _ l v sole.Handback x y f n e q (tells_number (first l) x a) (tells_blank (second l) y b) h (λ c t. t)

pub pair_line :
    (l : List ℕ) (w : Word) (p : PairWord) (x y : Option ℕ) (a b : ℕ) → length l ≡ 20 → take 8 l ≡ word_of w → w ≡ Pair p
    → ReadsNumber (first l) x → ReadsNumber (second l) y → BothRead x y (Ok (a, b))
    → Writable (pair_slip p a b) × (l ≡ written (pair_slip p a b))
pair_line l w p x y a b n e q rx ry r =
    let ha = subst (ReadsNumber (first l)) r.0 rx in
    let hb = subst (ReadsNumber (second l)) r.1 ry in
    ((ha.0, hb.0), from_parts l (word_of (Pair p)) (six a) (six b) n (e ∙ ap word_of q) ha.1 hb.1)

pub handback_line :
    (l : List ℕ) (w : Word) (x : Option ℕ) (y : Option (Unit {0})) (a : ℕ) (u : Unit {0}) → length l ≡ 20 → take 8 l ≡ word_of w → w ≡ sole.Handback
    → ReadsNumber (first l) x → ReadsBlank (second l) y → BothRead x y (Ok (a, u))
    → Writable (handback_slip a) × (l ≡ written (handback_slip a))
handback_line l w x y a u n e q rx ry r =
    let ha = subst (ReadsNumber (first l)) r.0 rx in
    let hb = subst (ReadsBlank (second l)) r.1 ry in
    (ha.0, from_parts l (word_of sole.Handback) (six a) blank n (e ∙ ap word_of q) ha.1 hb)
