-- The bits of a finite double that is not zero: q × 2^k units are written as k × 2^52 + q.
use Rattle.std.proofs.Common.{◌≡◌, ℕ, zero, suc, ◌+◌, ◌-◌, ◌*◌, ◌/◌, ◌%◌, ◌^◌, ◌<◌, ◌≤◌, Bool, true, false, cond, T, ◌⊎◌, ℤ, sym, refl, ap, ◌∙◌, ap₂, inl, inr, ⊎_elim, le_trans, le_of_eq, lt_of_lt_of_le, lt_of_le_of_lt, lt_irrefl, zero-lt-suc, zero-add, eq-zero-or-pos, le_antisymm, mul-pos, le-div_iff_mul-le, zero-mul, arith, pow_pos, pow-add}
use lib.Ieee.{Float, nan, inf, fin, binary64, size, fits, to_bits}
use lib.Ieee.Digits.{size-le, size_reaches}
use lib.Ieee.Fits.{kept-lt}
use Rattle.double.specs.Double.{units, magnitude, finite_nonzero}
use Rattle.double.proofs.Scale.{lift}
use Rattle.double.proofs.Order.{fits_digits, fits_low, units_under, units_lift}
use Rattle.double.proofs.Digits.{kept_le, kept_largest}

factor : (a b : ℕ) → 0 < a * b → 0 < a
factor zero b h = absurd (lt_irrefl 0 (lt_of_lt_of_le h (le_of_eq (zero-mul b))))
factor (suc a) b h = zero-lt-suc a

pub record Shape (v : Float) : Type 0 where
  pub k : ℕ
  pub q : ℕ
  -- without the sign
  pub bits : to_bits binary64 v % 2 ^ 63 ≡ k * 2 ^ 52 + q
  pub magnitude_bits : to_bits binary64 (magnitude v) ≡ k * 2 ^ 52 + q
  pub whole : q * 2 ^ k ≡ units v
  pub digits : q < 2 ^ 53
  pub leading : (k ≡ 0) ⊎ (2 ^ 52 ≤ q)
  pub small : k ≤ 2045
  pub nonzero : 0 < q

unsigned : (s : Bool) (k q : ℕ) → k ≤ 2045 → q < 2 ^ 53 → (cond s (2 ^ 63) 0 + k * 2 ^ 52 + q) % 2 ^ 63 ≡ k * 2 ^ 52 + q
unsigned true k q h g = omega arith
unsigned false k q h g = omega arith

few : (z : ℕ) → z ≤ 2098 → z - 53 ≤ 2045
few z h = omega arith

at_top : (z : ℕ) → 0 < z - 53 → 52 + (z - 53) < z
at_top z h = omega arith

unit_bits : (s : Bool) (m : ℕ) (e : ℤ) → to_bits binary64 (fin s m e) ≡ cond s (2 ^ 63) 0 + (size (units (fin s m e)) - 53) * 2 ^ 52 + units (fin s m e) / 2 ^ (size (units (fin s m e)) - 53)
unfolding to_bits units
unit_bits s m e = refl

positive_bits : (s : Bool) (m : ℕ) (e : ℤ) → to_bits binary64 (fin false m e) ≡ 0 + (size (units (fin s m e)) - 53) * 2 ^ 52 + units (fin s m e) / 2 ^ (size (units (fin s m e)) - 53)
unfolding to_bits units
positive_bits s m e = refl

pub shape : (v : Float) → T (fits binary64 v) → T (finite_nonzero v) → Shape v
shape nan f h = absurd h
shape (inf s) f h = absurd h
shape (fin s zero e) f h = absurd h
shape (fin s (suc m) e) f h = record {
  k = z - 53;
  q = n / 2 ^ (z - 53);
  bits = ap (λ (b : ℕ). b % 2 ^ 63) (unit_bits s (suc m) e) ∙ unsigned s (z - 53) (n / 2 ^ (z - 53)) short (kept-lt 53 n);
  magnitude_bits = positive_bits s (suc m) e ∙ ap (λ (a : ℕ). a + n / 2 ^ (z - 53)) (zero-add _);
  whole = exact;
  digits = kept-lt 53 n;
  leading = ⊎_elim inl (λ g. inr ((le-div_iff_mul-le (pow_pos (z - 53))).1 (le_trans (le_of_eq (sym (pow-add 2 52 (z - 53)))) (size_reaches n (52 + (z - 53)) (at_top z g))))) (eq-zero-or-pos (z - 53));
  small = short;
  nonzero = factor (n / 2 ^ (z - 53)) (2 ^ (z - 53)) (lt_of_lt_of_le (mul-pos (zero-lt-suc m) (pow_pos (lift 1074 e))) (le_of_eq (sym (exact ∙ lifted))));
}
  where
    n : ℕ
    n = units (fin s (suc m) e)

    z : ℕ
    z = size n

    lifted : n ≡ suc m * 2 ^ lift 1074 e
    lifted = units_lift s (suc m) e (fits_low binary64 s (suc m) e f)

    exact : n / 2 ^ (z - 53) * 2 ^ (z - 53) ≡ n
    exact = le_antisymm (kept_le n) (le_trans (le_of_eq lifted) (kept_largest n (suc m) (lift 1074 e) (fits_digits binary64 s (suc m) e f) (le_of_eq (sym lifted))))

    short : z - 53 ≤ 2045
    short = few z (size-le n 2098 (units_under s (suc m) e f))

-- ---- taken apart: by the field of the exponent

pub record Taken (v : Float) (mantissa shift : ℕ) : Type 0 where
  pub whole : mantissa * 2 ^ shift ≡ units v
  pub digits : mantissa < 2 ^ 53
  pub small : shift < 2046
  pub nonzero : 0 < mantissa

taken : (v : Float) (m k : ℕ) → (s : Shape v) → m ≡ s.q → k ≡ s.k → Taken v m k
taken v m k s p r = record {
  whole = ap₂ (λ (a b : ℕ). a * 2 ^ b) p r ∙ s.whole;
  digits = lt_of_le_of_lt (le_of_eq p) s.digits;
  small = omega (arith, s.small);
  nonzero = lt_of_lt_of_le s.nonzero (le_of_eq (sym p));
}

-- a field of zeros: the digits below it, unmoved
pub taken_low : (v : Float) → Shape v → to_bits binary64 v % 2 ^ 63 / 2 ^ 52 ≡ 0 → Taken v (to_bits binary64 v % 2 ^ 63 % 2 ^ 52) 0
taken_low v s h = taken v _ 0 s (omega (arith, s.bits, s.leading)) (omega (arith, s.bits, s.leading))

-- any other: the digits after a leading one, moved by the field
pub taken_high : (v : Float) → Shape v → (to_bits binary64 v % 2 ^ 63 / 2 ^ 52 ≡ 0 → ⊥) → Taken v (to_bits binary64 v % 2 ^ 63 % 2 ^ 52 + 2 ^ 52) (to_bits binary64 v % 2 ^ 63 / 2 ^ 52 - 1)
taken_high v s h = taken v _ _ s (omega (arith, s.bits, s.leading, s.digits)) (omega (arith, s.bits, s.leading, s.digits))

-- the same two, where m and k are what b, the bits of the magnitude, has for them
pub magnitude_low : (v : Float) (b m k : ℕ) → Shape v → b ≡ to_bits binary64 (magnitude v) → b / 2 ^ 52 ≡ 0 → m ≡ b % 2 ^ 52 → k ≡ 0 → Taken v m k
magnitude_low v b m k s e h p r = taken v m k s (omega (arith, s.magnitude_bits, s.leading)) (omega (arith, s.magnitude_bits, s.leading))

pub magnitude_high : (v : Float) (b m k : ℕ) → Shape v → b ≡ to_bits binary64 (magnitude v) → (b / 2 ^ 52 ≡ 0 → ⊥) → m ≡ b % 2 ^ 52 + 2 ^ 52 → k ≡ b / 2 ^ 52 - 1 → Taken v m k
magnitude_high v b m k s e h p r = taken v m k s (omega (arith, s.magnitude_bits, s.leading, s.digits)) (omega (arith, s.magnitude_bits, s.leading, s.digits))
