use Rattle.std.proofs.Common.{◌≡◌, ℕ, zero, suc, ◌+◌, ◌-◌, ◌<◌, ◌≤◌, List, [], ◌∷◌, length, get_or, take, drop, sym, ap, ◌∙◌, subst, arith, length-drop, get_or-drop, drop-drop, eq-eqb, ne_eqb}
use Rattle.std.specs.List.{HoldsAt, AllWithin}
use Rattle.std.proofs.lemmas.List.{drop_all, take_all}
use Rattle.sheets.specs.Lines.{lines_of}

-- no line is left at the end of the sheet
pub lines_end : (s : List ℕ) (a : ℕ) → length s ≤ a → lines_of (drop a s) ≡ []
unfolding lines_of
lines_end s a h = rw (drop_all a s h)

-- the first line goes to the first line feed
pub line_fed :
    (xs : List ℕ) (n : ℕ) → n < length xs → ((k : ℕ) → k < n → get_or xs k 0 ≡ 10 → ⊥) → get_or xs n 0 ≡ 10
    → lines_of xs ≡ take n xs ∷ lines_of (drop (suc n) xs)
unfolding lines_of
line_fed [] n l h e = absurd (omega arith)
line_fed (x ∷ xs) zero l h e = rw (eq-eqb x 10 e)
line_fed (x ∷ xs) (suc n) l h e =
    rw (ne_eqb x 10 (h 0 (omega arith)), line_fed xs n (omega arith) (λ k lt q. h (suc k) (omega arith) q) e)

-- with no line feed, all is one line
pub line_last :
    (xs : List ℕ) → 0 < length xs → ((k : ℕ) → k < length xs → get_or xs k 0 ≡ 10 → ⊥) → lines_of xs ≡ xs ∷ []
unfolding lines_of
line_last [] l h = absurd (omega arith)
line_last (x ∷ []) l h = rw (ne_eqb x 10 (h 0 (omega arith)))
line_last (x ∷ y ∷ ys) l h =
    rw (ne_eqb x 10 (h 0 (omega arith)), line_last (y ∷ ys) (omega arith) (λ k lt q. h (suc k) (omega arith) q))

-- the same of a sheet from the place a on, with the line feed at e
pub sheet_fed :
    (s : List ℕ) (a e : ℕ) → a ≤ e → e < length s → ((k : ℕ) → a ≤ k → k < e → get_or s k 0 ≡ 10 → ⊥) → get_or s e 0 ≡ 10
    → lines_of (drop a s) ≡ take (e - a) (drop a s) ∷ lines_of (drop (e + 1) s)
sheet_fed s a e le lt h hit =
    line_fed (drop a s) (e - a) (simp length-drop (omega arith))
    (λ k l q. h (a + k) (omega arith) (omega arith) (sym (get_or-drop a s k 0) ∙ q))
    (get_or-drop a s (e - a) 0 ∙ ap (λ (i : ℕ). get_or s i 0) (omega arith) ∙ hit)
    ∙ ap (λ (t : List ℕ). take (e - a) (drop a s) ∷ lines_of t)
    (drop-drop (suc (e - a)) a s ∙ ap (λ (i : ℕ). drop i s) (omega arith))

pub sheet_last :
    (s : List ℕ) (a e : ℕ) → a < length s → e ≡ length s → ((k : ℕ) → a ≤ k → k < e → get_or s k 0 ≡ 10 → ⊥)
    → lines_of (drop a s) ≡ take (e - a) (drop a s) ∷ lines_of (drop e s)
sheet_last s a e lt q h =
    line_last (drop a s) (simp length-drop (omega arith))
    (λ k l p. h (a + k) (omega arith) (omega (arith, length-drop a s)) (sym (get_or-drop a s k 0) ∙ p))
    ∙ rw (lines_end s e (omega arith), take_all (e - a) (drop a s) (simp length-drop (omega arith)))

-- the same of what is left of a sheet from the place a on, by the first line feed that was found there
abbrev pub Fed : List ℕ → ℕ → ℕ → List ℕ → Type 0
Fed s a n rest =
    n < length rest → HoldsAt (λ b. b ≡ 10) rest n → AllWithin (λ b. b ≡ 10 → ⊥) rest 0 n
    → lines_of (drop a s) ≡ take n rest ∷ lines_of (drop (a + (n + 1)) s)

abbrev pub Last : List ℕ → ℕ → List ℕ → Type 0
Last s a rest =
    AllWithin (λ b. b ≡ 10 → ⊥) rest 0 (length rest) → lines_of (drop a s) ≡ rest ∷ lines_of (drop (length s) s)

rest_whole : (s : List ℕ) (a : ℕ) → drop a s ≡ take (length s - a) (drop a s)
rest_whole s a = sym (take_all (length s - a) (drop a s) (omega (arith, length-drop a s)))

pub left_fed : (s : List ℕ) (a n : ℕ) → Fed s a n (take (length s - a) (drop a s))
left_fed s a n =
    subst (Fed s a n) (rest_whole s a)
    (λ l hit none.
    line_fed (drop a s) n l (λ k lt. none k 0 (omega arith) lt) (hit 0)
    ∙ ap (λ (t : List ℕ). take n (drop a s) ∷ lines_of t) (drop-drop (suc n) a s ∙ ap (λ (i : ℕ). drop i s) (omega arith)))

pub left_last : (s : List ℕ) (a : ℕ) → a < length s → Last s a (take (length s - a) (drop a s))
left_last s a lt =
    subst (Last s a) (rest_whole s a)
    (λ none.
    line_last (drop a s) (omega (arith, length-drop a s)) (λ k l. none k 0 (omega arith) l)
    ∙ ap (λ (t : List (List ℕ)). drop a s ∷ t) (sym (lines_end s (length s) (omega arith))))
