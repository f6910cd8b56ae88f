-- How a number stands in its six columns.
use Rattle.std.proofs.Common.{◌≡◌, ℕ, zero, suc, ◌+◌, ◌/◌, ◌%◌, ◌<◌, ◌≤◌, Bool, true, false, cond, ltb, ◌⊎◌, List, get_or, sym, refl, ap, ◌∙◌, inl, inr, arith, ltb-false, ltb-true}
use Rattle.sheets.specs.Columns.{column_byte, six}
use Rattle.sheets.specs.Fields.{value, Proper}
use Rattle.sheets.proofs.Counted.{counts_six, upto}

-- the digits of a number's columns make it
pub number_six : (n : ℕ) → n ≤ 999999 → value (six n) ≡ n
unfolding six
number_six n h = counts_six n _ _ _ _ _ _ h refl refl refl refl refl refl

upto_value : (s : List ℕ) → upto s 6 ≡ value s
upto_value s = omega arith

-- where a field holds a number, the number that its columns count is written as the field
pub written_again : (s : List ℕ) (m n : ℕ) → m ≡ upto s 6 → n ≤ 999999 → s ≡ six n → six m ≡ s
written_again s m n q h is = ap six (q ∙ upto_value s ∙ ap value is ∙ number_six n h) ∙ sym is

-- a column's byte: a space if the number is below its power, else the digit
abbrev Either : ℕ → ℕ → Type 0
Either p n = ((n < p) × (column_byte p n ≡ 32)) ⊎ ((p ≤ n) × (column_byte p n ≡ 48 + n / p % 10))

either_by :
    (b : Bool) (p n d : ℕ) → (b ≡ true → n < p) → (b ≡ false → p ≤ n)
    → ((n < p) × (cond b 32 d ≡ 32)) ⊎ ((p ≤ n) × (cond b 32 d ≡ d))
either_by true p n d t f = inl (t refl, refl)
either_by false p n d t f = inr (f refl, refl)

either : (p n : ℕ) → Either p n
either p n = either_by (ltb n p) p n (48 + n / p % 10) (ltb-true n p) (ltb-false n p)

clean_by : (p n : ℕ) → Either p n → (column_byte p n ≡ 32) ⊎ ((48 ≤ column_byte p n) × (column_byte p n ≤ 57))
clean_by p n (inl h) = inl h.1
clean_by p n (inr h) = inr (omega arith, omega arith)

below_by : (p n : ℕ) → Either p n → column_byte p n ≡ 32 → n < p
below_by p n (inl h) e = h.0
below_by p n (inr h) e = absurd (omega arith)

zero_by : (p n : ℕ) → Either p n → column_byte p n ≡ 48 → (p ≤ n) × (n / p % 10 ≡ 0)
zero_by p n (inl h) e = absurd (omega arith)
zero_by p n (inr h) e = (h.0, omega arith)

-- where one column has a space, so has each on its left
left_by : (p q n : ℕ) → q ≤ p → Either p n → column_byte q n ≡ 32 → column_byte p n ≡ 32
left_by p q n l (inl h) e = h.1
left_by p q n l (inr h) e = absurd (omega (arith, below_by q n (either q n) e))

six_clean :
    (n i : ℕ) → i < 6 → (get_or (six n) i 0 ≡ 32) ⊎ ((48 ≤ get_or (six n) i 0) × (get_or (six n) i 0 ≤ 57))
unfolding six
six_clean n zero l = clean_by 100000 n (either 100000 n)
six_clean n (suc zero) l = clean_by 10000 n (either 10000 n)
six_clean n (suc (suc zero)) l = clean_by 1000 n (either 1000 n)
six_clean n (suc (suc (suc zero))) l = clean_by 100 n (either 100 n)
six_clean n (suc (suc (suc (suc zero)))) l = clean_by 10 n (either 10 n)
six_clean n (suc (suc (suc (suc (suc zero))))) l = inr (omega arith, omega arith)
six_clean n (suc (suc (suc (suc (suc (suc i)))))) l = absurd (omega arith)

six_right : (n i : ℕ) → i < 5 → get_or (six n) (i + 1) 0 ≡ 32 → get_or (six n) i 0 ≡ 32
unfolding six
six_right n zero l e = left_by 100000 10000 n (omega arith) (either 100000 n) e
six_right n (suc zero) l e = left_by 10000 1000 n (omega arith) (either 10000 n) e
six_right n (suc (suc zero)) l e = left_by 1000 100 n (omega arith) (either 1000 n) e
six_right n (suc (suc (suc zero))) l e = left_by 100 10 n (omega arith) (either 100 n) e
six_right n (suc (suc (suc (suc zero)))) l e = absurd (omega arith)
six_right n (suc (suc (suc (suc (suc i))))) l e = absurd (omega arith)

six_next : (n i : ℕ) → i < 4 → get_or (six n) i 0 ≡ 32 → get_or (six n) (i + 1) 0 ≡ 48 → ⊥
unfolding six
six_next n zero l s z = omega (arith, below_by 100000 n (either 100000 n) s, zero_by 10000 n (either 10000 n) z)
six_next n (suc zero) l s z = omega (arith, below_by 10000 n (either 10000 n) s, zero_by 1000 n (either 1000 n) z)
six_next n (suc (suc zero)) l s z = omega (arith, below_by 1000 n (either 1000 n) s, zero_by 100 n (either 100 n) z)
six_next n (suc (suc (suc zero))) l s z = omega (arith, below_by 100 n (either 100 n) s, zero_by 10 n (either 10 n) z)
six_next n (suc (suc (suc (suc i)))) l s z = absurd (omega arith)

pub proper : (n : ℕ) → n ≤ 999999 → Proper (six n) n
unfolding six
proper n h =
    record {
      clean = six_clean n;
      ended = λ e. omega arith;
      right = six_right n;
      lead = λ e. omega (arith, zero_by 100000 n (either 100000 n) e);
      next = six_next n;
      makes = number_six n h;
    }
