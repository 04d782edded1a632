-- Whole numbers divided by d, rounded down: i is d times its quotient, plus its remainder, and only so.
use Rattle.std.proofs.Common.{◌≡◌, ℕ, zero, suc, ◌+◌, ◌-◌, ◌*◌, ◌/◌, ◌<◌, ◌≤◌, ◌≤ℤ◌, mul-le-mul, ℤ, pos, negsuc, ◌+ℤ◌, ◌*ℤ◌, neg_ℤ, sym, refl, ap, ◌∙◌, mod-lt, suc-mul, add-mul, one-mul, div-add-mod', zero-mul, mul_left_comm, arith}
use borrow.Author.Differences.{ints}
use lib.Arith.{digits_div, digits_mod}
use Rattle.index.specs.Index.{quotient, remainder}

pub remainder_lt : (d : ℕ) (i : ℤ) → 0 < d → remainder d i < d
remainder_lt d (pos n) h = mod-lt n h
remainder_lt d (negsuc n) h = omega (arith, mod-lt n h)

-- k × d + j for a j below d
negative : (d q j : ℕ) → j < d → negsuc q *ℤ pos d +ℤ pos j ≡ negsuc (q * d + (d - 1 - j))
negative d q j h = omega (arith, ints, suc-mul q d)

mirrored : (d j : ℕ) → j < d → d - 1 - j < d
mirrored d j h = omega arith

pub quotient_of : (d : ℕ) (k : ℤ) (j : ℕ) → j < d → quotient d (k *ℤ pos d +ℤ pos j) ≡ k
quotient_of d (pos q) j h = ap pos (digits_div q h)
quotient_of d (negsuc q) j h = ap (quotient d) (negative d q j h) ∙ ap negsuc (digits_div q (mirrored d j h))

pub remainder_of : (d : ℕ) (k : ℤ) (j : ℕ) → j < d → remainder d (k *ℤ pos d +ℤ pos j) ≡ j
remainder_of d (pos q) j h = digits_mod q h
remainder_of d (negsuc q) j h = ap (remainder d) (negative d q j h) ∙ ap (λ (r : ℕ). d - 1 - r) (digits_mod q (mirrored d j h)) ∙ back d j h
  where
    back : (d j : ℕ) → j < d → d - 1 - (d - 1 - j) ≡ j
    back d j h = omega arith

pub divided : (d : ℕ) (i : ℤ) → 0 < d → i ≡ quotient d i *ℤ pos d +ℤ pos (remainder d i)
divided d (pos n) h = ap pos (sym (div-add-mod' n d))
divided d (negsuc n) h = omega (arith, ints, suc-mul (n / d) d, div-add-mod' n d, mod-lt n h)

-- ---- multiples

pub next_multiple : (k : ℤ) (d : ℕ) → (k +ℤ pos 1) *ℤ pos d ≡ k *ℤ pos d +ℤ pos d
next_multiple (pos q) d = omega (arith, ints, add-mul q 1 d, one-mul d)
next_multiple (negsuc zero) d = omega (arith, ints, one-mul d, zero-mul d)
next_multiple (negsuc (suc q)) d = ap (λ (k : ℤ). k *ℤ pos d) (up_one q) ∙ omega (arith, ints, suc-mul (suc q) d)
  where
    up_one : (q : ℕ) → negsuc (suc q) +ℤ pos 1 ≡ negsuc q
    up_one q = omega (arith, ints)

doubled : (m n d : ℕ) → m ≡ n + n → m * d ≡ n * (2 * d)
doubled m n d e = ap (λ (z : ℕ). z * d) e ∙ add-mul n n d ∙ omega (arith, mul_left_comm n 2 d)

pub twice_multiple : (i : ℤ) (d : ℕ) → (i +ℤ i) *ℤ pos d ≡ i *ℤ pos (2 * d)
twice_multiple (pos n) d = ap pos (doubled (n + n) n d refl)
twice_multiple (negsuc n) d = ap (λ (z : ℕ). neg_ℤ (pos z)) (doubled (suc (suc (n + n))) (suc n) d (omega arith))

pub twice_product : (k : ℤ) (d : ℕ) → k *ℤ pos d +ℤ k *ℤ pos d ≡ k *ℤ pos (2 * d)
twice_product (pos n) d = omega (arith, ints, mul_left_comm n 2 d)
twice_product (negsuc n) d = omega (arith, ints, mul_left_comm (suc n) 2 d)

-- a product's range, by the ranges of its factors
pub product_range : (z : ℤ) (d l h m : ℕ) → neg_ℤ (pos l) ≤ℤ z → z ≤ℤ pos h → d ≤ m → (neg_ℤ (pos (l * m)) ≤ℤ (z *ℤ pos d)) × ((z *ℤ pos d) ≤ℤ pos (h * m))
product_range (pos q) d l h m low high few = (omega (arith, ints), omega (arith, ints, mul-le-mul fewer few))
  where
    fewer : q ≤ h
    fewer = omega (arith, ints)
product_range (negsuc q) d l h m low high few = (omega (arith, ints, mul-le-mul fewer few), omega (arith, ints))
  where
    fewer : suc q ≤ l
    fewer = omega (arith, ints)
