-- The doubles that the program makes from a mantissa m of 53 digits and a power of two x: each is the largest of at most m × 2^x units.
use Rattle.std.proofs.Common.{◌≡◌, ℕ, suc, ◌+◌, ◌-◌, ◌*◌, ◌/◌, ◌^◌, ◌<◌, ◌≤◌, false, ℤ, pos, negsuc, nat_abs, ◌≤ℤ◌, sym, refl, ap, ◌∙◌, le_trans, le_of_eq, lt_of_lt_of_le, lt_of_le_of_lt, div-lt_iff_lt-mul, mul-le-mul, le_antisymm, mul-le-mul_left, mul-lt-mul_of_pos_right, one-mul, mul-one, div-le_self, div-one, arith, lit≤, pow_pos, pow_mono, pow-add}
use borrow.Author.Differences.{ints}
use lib.Pow.{pow-lt}
use lib.Ieee.{inf, binary64, size, of_bits}
use lib.Ieee.Digits.{size-le}
use Rattle.double.specs.Double.{largest, pattern}
use Rattle.double.proofs.Largest.{largest_infinite, largest_small}
use Rattle.double.proofs.Fraction.{pattern_full}
use Rattle.schema.specs.Bounds.{scaled}

infinite_bits : of_bits binary64 9218868437227405312 ≡ inf false
unfolding of_bits
infinite_bits = refl

-- above 2^1024
huge : (m k : ℕ) → 2 ^ 52 ≤ m → 2047 ≤ k → 2 ^ 2098 < m * 2 ^ k / 1
huge m k h g = lt_of_lt_of_le (pow-lt {i = 2098} {j = 2099} (lit≤ tt)) (le_trans (le_trans (le_of_eq (pow-add 2 52 2047)) (mul-le-mul h (pow_mono g))) (le_of_eq (sym (div-one (m * 2 ^ k)))))

pub made_huge : (m : ℕ) (x : ℤ) → 2 ^ 52 ≤ m → pos 2047 ≤ℤ x → of_bits binary64 9218868437227405312 ≡ largest (scaled m x)
made_huge m (pos k) h g = infinite_bits ∙ sym (largest_infinite (m * 2 ^ k / 1) (huge m k h (omega (arith, ints))))
made_huge m (negsuc k) h g = absurd (omega (arith, ints))

pub made_above : (m : ℕ) (x : ℤ) → 2 ^ 52 < m → x ≡ pos 2046 → of_bits binary64 9218868437227405312 ≡ largest (scaled m x)
made_above m x h e =
    infinite_bits
    ∙ sym (largest_infinite (scaled m (pos 2046)) (lt_of_lt_of_le (mul-lt-mul_of_pos_right h (pow_pos 2046)) (le_of_eq (sym (div-one (m * 2 ^ 2046))))))
    ∙ ap (λ (z : ℤ). largest (scaled m z)) (sym e)

-- at 2^1024
at_top : of_bits binary64 9218868437227405311 ≡ largest (2 ^ 2098)
unfolding largest size
at_top = refl

pub made_top : (m : ℕ) (x : ℤ) → 2 ^ 52 ≤ m → m ≤ 2 ^ 52 → x ≡ pos 2046 → of_bits binary64 9218868437227405311 ≡ largest (scaled m x)
made_top m x h g e = at_top ∙ ap (λ (n : ℕ). largest (scaled n (pos 2046))) (le_antisymm h g) ∙ ap (λ (z : ℤ). largest (scaled m z)) (sym e)

-- a normal double
pub made_normal : (m : ℕ) (x : ℤ) → 2 ^ 52 ≤ m → m < 2 ^ 53 → pos 0 ≤ℤ x → x ≤ℤ pos 2045 → of_bits binary64 (nat_abs x * 2 ^ 52 + m) ≡ largest (scaled m x)
made_normal m (pos k) l h g b =
    ap (of_bits binary64) (sym (pattern_full m k l h))
    ∙ sym (largest_small (m * 2 ^ k) (lt_of_lt_of_le (mul-lt-mul_of_pos_right h (pow_pos k)) (le_trans (mul-le-mul_left (2 ^ 53) (pow_mono {j = 2045} (omega (arith, ints)))) (le_of_eq (sym (pow-add 2 53 2045))))))
    ∙ ap largest (sym (div-one (m * 2 ^ k)))
made_normal m (negsuc k) l h g b = absurd (omega (arith, ints))

-- a subnormal one
few_digits : (n : ℕ) → n < 2 ^ 53 → pattern n ≡ n
few_digits n h = ap (λ (z : ℕ). z * 2 ^ 52 + n / 2 ^ z) (none (size n) (size-le n 53 h)) ∙ whole n (div-one n)
  where
    none : (z : ℕ) → z ≤ 53 → z - 53 ≡ 0
    none z h = omega arith

    whole : (n : ℕ) → n / 1 ≡ n → 0 * 2 ^ 52 + n / 2 ^ 0 ≡ n
    whole n e = omega arith

pub made_small : (m : ℕ) (x : ℤ) → m < 2 ^ 53 → x ≤ℤ negsuc 0 → of_bits binary64 (m / 2 ^ nat_abs x) ≡ largest (scaled m x)
made_small m (pos k) h g = absurd (omega (arith, ints))
made_small m (negsuc k) h g =
    ap (of_bits binary64) (sym (few_digits (m / 2 ^ suc k) small))
    ∙ sym (largest_small (m / 2 ^ suc k) (lt_of_lt_of_le small (pow_mono {i = 53} {j = 2098} (lit≤ tt))))
    ∙ ap (λ (n : ℕ). largest (n / 2 ^ suc k)) (sym (mul-one m))
  where
    small : m / 2 ^ suc k < 2 ^ 53
    small = lt_of_le_of_lt (div-le_self m (2 ^ suc k)) h

pub made_zero : (m : ℕ) (x : ℤ) → m < 2 ^ 53 → x ≤ℤ negsuc 52 → of_bits binary64 0 ≡ largest (scaled m x)
made_zero m (pos k) h g = absurd (omega (arith, ints))
made_zero m (negsuc k) h g =
    ap (of_bits binary64) (sym nothing) ∙ made_small m (negsuc k) h (omega (arith, ints))
  where
    wide : 53 ≤ suc k
    wide = omega (arith, ints)

    nothing : m / 2 ^ suc k ≡ 0
    nothing = none (m / 2 ^ suc k) ((div-lt_iff_lt-mul (pow_pos (suc k))).1 (lt_of_lt_of_le h (le_trans (pow_mono wide) (le_of_eq (sym (one-mul (2 ^ suc k)))))))
      where
        none : (n : ℕ) → n < 1 → n ≡ 0
        none n h = omega arith
