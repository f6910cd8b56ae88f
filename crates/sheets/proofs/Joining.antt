-- The lines of a sheet make the sheet again.
use Rattle.std.proofs.Common.{◌≡◌, ℕ, zero, suc, ◌<◌, Bool, true, false, cond, eqb, ◌⊎◌, List, [], ◌∷◌, ◌++◌, length, get_or, refl, ap, ◌∙◌, inl, inr, arith, eqb-true}
use borrow.Author.Tests.{eqb-false}
use Rattle.sheets.specs.Lines.{onto, lines_of, fed, Feedless, Ended, LinesMakeTheSheet}

abbrev Clear : List ℕ → Type 0
Clear line = (k : ℕ) → k < length line → get_or line k 0 ≡ 10 → ⊥

clear_more : (b : ℕ) (line : List ℕ) → (b ≡ 10 → ⊥) → Clear line → Clear (b ∷ line)
clear_more b line n h zero l e = n e
clear_more b line n h (suc k) l e = h k (omega arith) e

onto_feedless : (b : ℕ) (lines : List (List ℕ)) → (b ≡ 10 → ⊥) → Feedless lines → Feedless (onto b lines)
onto_feedless b [] n h = (clear_more b [] n (λ k l e. omega arith), tt)
onto_feedless b (line ∷ lines) n h = (clear_more b line n h.0, h.1)

by_test_feedless :
    (t : Bool) (b : ℕ) (lines : List (List ℕ)) → (t ≡ false → b ≡ 10 → ⊥) → Feedless lines
    → Feedless (cond t ([] ∷ lines) (onto b lines))
by_test_feedless true b lines n h = ((λ k l e. omega arith), h)
by_test_feedless false b lines n h = onto_feedless b lines (n refl) h

feedless : (s : List ℕ) → Feedless (lines_of s)
unfolding lines_of
feedless [] = tt
feedless (b ∷ bs) = by_test_feedless (eqb b 10) b (lines_of bs) (eqb-false b 10) (feedless bs)

-- a sheet of a byte at least has a line
abbrev SomeLine : List (List ℕ) → Type 0
SomeLine [] = ⊥
SomeLine (line ∷ lines) = Unit {0}

onto_some : (b : ℕ) (lines : List (List ℕ)) → SomeLine (onto b lines)
onto_some b [] = tt
onto_some b (line ∷ lines) = tt

by_test_some : (t : Bool) (b : ℕ) (lines : List (List ℕ)) → SomeLine (cond t ([] ∷ lines) (onto b lines))
by_test_some true b lines = tt
by_test_some false b lines = onto_some b lines

some_line : (b : ℕ) (bs : List ℕ) → SomeLine (lines_of (b ∷ bs))
unfolding lines_of
some_line b bs = by_test_some (eqb b 10) b (lines_of bs)

fed_onto : (b : ℕ) (lines : List (List ℕ)) → SomeLine lines → fed (onto b lines) ≡ b ∷ fed lines
fed_onto b [] h = absurd h
fed_onto b (line ∷ lines) h = refl

-- one byte in front of a sheet of a byte at least
by_test_fed :
    (t : Bool) (b : ℕ) (lines : List (List ℕ)) → (t ≡ true → b ≡ 10) → SomeLine lines
    → fed (cond t ([] ∷ lines) (onto b lines)) ≡ b ∷ fed lines
by_test_fed true b lines e h = let q : b ≡ 10 = e refl in cc
by_test_fed false b lines e h = fed_onto b lines h

fed_more : (b c : ℕ) (bs : List ℕ) → fed (lines_of (b ∷ c ∷ bs)) ≡ b ∷ fed (lines_of (c ∷ bs))
unfolding lines_of
fed_more b c bs = by_test_fed (eqb b 10) b (lines_of (c ∷ bs)) (eqb-true b 10) (some_line c bs)

abbrev Made : List ℕ → Type 0
Made s = (Ended s × (fed (lines_of s) ≡ s)) ⊎ ((Ended s → ⊥) × (fed (lines_of s) ≡ s ++ (10 ∷ [])))

by_test_last :
    (t : Bool) (b : ℕ) → (t ≡ true → b ≡ 10) → (t ≡ false → b ≡ 10 → ⊥)
    → ((b ≡ 10) × (fed (cond t ([] ∷ []) (onto b [])) ≡ b ∷ []))
    ⊎ ((b ≡ 10 → ⊥) × (fed (cond t ([] ∷ []) (onto b [])) ≡ b ∷ 10 ∷ []))
by_test_last true b y n = let q : b ≡ 10 = y refl in inl (q, cc)
by_test_last false b y n = inr (n refl, refl)

more : (b c : ℕ) (bs : List ℕ) → Made (c ∷ bs) → Made (b ∷ c ∷ bs)
more b c bs (inl h) = inl (h.0, fed_more b c bs ∙ ap (λ (s : List ℕ). b ∷ s) h.1)
more b c bs (inr h) = inr (h.0, fed_more b c bs ∙ ap (λ (s : List ℕ). b ∷ s) h.1)

made : (s : List ℕ) → Made s
unfolding lines_of
made [] = inl (tt, refl)
made (b ∷ []) = by_test_last (eqb b 10) b (eqb-true b 10) (eqb-false b 10)
made (b ∷ c ∷ bs) = more b c bs (made (c ∷ bs))

pub joining : LinesMakeTheSheet
joining s = (feedless s, made s)
