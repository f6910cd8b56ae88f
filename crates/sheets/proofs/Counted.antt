use Rattle.std.proofs.Common.{◌≡◌, ℕ, zero, suc, ◌+◌, ◌-◌, ◌*◌, ◌/◌, ◌%◌, ◌^◌, ◌<◌, ◌≤◌, Bool, true, false, cond, ltb, List, length, get_or, sym, refl, ap, ◌∙◌, arith, ltb-true, le-ltb, lt-ltb}
use Rattle.sheets.specs.Columns.{column_byte, six, counts}

counts_digit : (d : ℕ) → d < 10 → counts (48 + d) ≡ d
counts_digit d h = rw (le-ltb (48 + d) 48 (omega arith), lt-ltb (48 + d) 58 (omega arith)) (omega arith)

by_test : (b : Bool) (d e : ℕ) → (b ≡ true → d ≡ 0) → d < 10 → e ≡ d → counts (cond b 32 (48 + e)) ≡ d
by_test true d e z h q = sym (z refl)
by_test false d e z h q = ap (λ (x : ℕ). counts (48 + x)) q ∙ counts_digit d h

-- a column counts its digit
counts_column : (p n : ℕ) → (n < p → n / p % 10 ≡ 0) → n / p % 10 < 10 → counts (column_byte p n) ≡ n / p % 10
counts_column p n z h = by_test (ltb n p) (n / p % 10) (n / p % 10) (λ e. z (ltb-true n p e)) h refl

-- the columns of a number count it
pub counts_six :
    (n a b c d e f : ℕ) → n ≤ 999999
    → a ≡ counts (column_byte 100000 n) → b ≡ counts (column_byte 10000 n) → c ≡ counts (column_byte 1000 n)
    → d ≡ counts (column_byte 100 n) → e ≡ counts (column_byte 10 n) → f ≡ counts (48 + n % 10)
    → a * 100000 + b * 10000 + c * 1000 + d * 100 + e * 10 + f ≡ n
counts_six n a b c d e f h qa qb qc qd qe qf =
    let pa : a ≡ n / 100000 % 10 = qa ∙ counts_column 100000 n (λ l. omega arith) (omega arith) in
    let pb : b ≡ n / 10000 % 10 = qb ∙ counts_column 10000 n (λ l. omega arith) (omega arith) in
    let pc : c ≡ n / 1000 % 10 = qc ∙ counts_column 1000 n (λ l. omega arith) (omega arith) in
    let pd : d ≡ n / 100 % 10 = qd ∙ counts_column 100 n (λ l. omega arith) (omega arith) in
    let pe : e ≡ n / 10 % 10 = qe ∙ counts_column 10 n (λ l. omega arith) (omega arith) in
    let pf : f ≡ n % 10 = qf ∙ counts_digit (n % 10) (omega arith) in
    omega arith

-- what the first columns of a field count
abbrev pub upto : List ℕ → ℕ → ℕ
upto field zero = 0
upto field (suc k) = upto field k * 10 + counts (get_or field k 0)

small_by_test : (s t : Bool) (b : ℕ) → (t ≡ true → b < 58) → cond s 0 (cond t (b - 48) 0) < 10
small_by_test true t b h = omega arith
small_by_test false true b h = let l : b < 58 = h refl in omega arith
small_by_test false false b h = omega arith

counts_small : (b : ℕ) → counts b < 10
counts_small b = small_by_test (ltb b 48) (ltb b 58) b (ltb-true b 58)

pub upto_below : (field : List ℕ) (k : ℕ) → upto field k < 10 ^ k
upto_below field zero = omega arith
upto_below field (suc k) = let h = upto_below field k in let d = counts_small (get_or field k 0) in omega arith

pub upto_fits : (field : List ℕ) (k : ℕ) → k < 6 → upto field k < 100000
upto_fits field zero l = omega arith
upto_fits field (suc zero) l = let h = upto_below field 1 in omega arith
upto_fits field (suc (suc zero)) l = let h = upto_below field 2 in omega arith
upto_fits field (suc (suc (suc zero))) l = let h = upto_below field 3 in omega arith
upto_fits field (suc (suc (suc (suc zero)))) l = let h = upto_below field 4 in omega arith
upto_fits field (suc (suc (suc (suc (suc zero))))) l = let h = upto_below field 5 in omega arith
upto_fits field (suc (suc (suc (suc (suc (suc k)))))) l = absurd (omega arith)

pub length_six : (n : ℕ) → length (six n) ≡ 6
unfolding six
length_six n = refl
