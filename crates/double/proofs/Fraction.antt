-- The fraction of a double: its bits, and that it splits the magnitude.
use Rattle.std.proofs.Common.{◌≡◌, ℕ, zero, suc, ◌+◌, ◌-◌, ◌*◌, ◌/◌, ◌%◌, ◌^◌, ◌<◌, ◌≤◌, Bool, true, false, cond, not, ◌&&◌, T, ltb, ℤ, pos, negsuc, ◌+ℤ◌, ◌-ℤ◌, neg_ℤ, sym, refl, ap, ◌∙◌, subst, ap₂, le_trans, le_of_eq, le_refl, lt_of_lt_of_le, lt_of_le_of_lt, lt_irrefl, mul-le-mul_right, zero-lt-suc, mul_assoc, add_comm, le_antisymm, mul-lt-mul_of_pos_right, mul-pos, one-mul, zero-mul, mul-one, mul_right_comm, mul-div_cancel, arith, lit≤, le→leb, lt→ltb, pow_pos, pow_mono, pow-add, shl_lt, ltb-false, ltb-true, le-ltb, lt-ltb, eqb-true, le-leb}
use native.Mathlib.Nat.{eq_of_mul-eq-mul_right}
use borrow.Author.Tests.{clash}
use borrow.Author.Differences.{ints}
use lib.IntN.{sub_ℕ}
use lib.Count.{count_leading_zeros, leading_top}
use lib.Ieee.{Float, nan, inf, fin, binary64, up, down, size, fits, is_nan, lt, eq, level, nan_bits, of_bits}
use Rattle.std.specs.Float.{float_is_finite}
use lib.Ieee.Bits.{nan_bits_above, of_bits-fits}
use lib.Ieee.Digits.{size-lt, size-le, back}
use lib.Ieee.Fits.{up_pos, and_i, and_l, and_r}
use Rattle.double.specs.Double.{Number, units, magnitude, pattern, fraction, exponent, finite_nonzero, half, one, Splits}
use Rattle.double.proofs.Scale.{lift, lift_scale, pow_le_back, ltb_scaled}
use Rattle.double.proofs.Order.{fits_digits, fits_low, units_lift, lt_units, le_units}
use Rattle.double.proofs.Digits.{size_is, size_shift, top_digit, kept, kept_le, kept_largest}
use Rattle.double.proofs.Largest.{Holds, holds_units, holds_number, holds_magnitude, read_back, pattern_kept}

-- ---- the bits of 53 digits

-- q, of 53 digits, times 2^k units is written as k × 2^52 + q
pub pattern_full : (q k : ℕ) → 2 ^ 52 ≤ q → q < 2 ^ 53 → pattern (q * 2 ^ k) ≡ k * 2 ^ 52 + q
pattern_full q k h g =
    ap (λ (z : ℕ). (z - 53) * 2 ^ 52 + q * 2 ^ k / 2 ^ (z - 53)) (size_shift q k (lt_of_lt_of_le (pow_pos 52) h) ∙ ap (λ (z : ℕ). z + k) (size_is q 52 h g))
    ∙ ap (λ (z : ℕ). z * 2 ^ 52 + q * 2 ^ k / 2 ^ z) (cut k)
    ∙ ap (λ (z : ℕ). k * 2 ^ 52 + z) (mul-div_cancel q (pow_pos k))
  where
    cut : (k : ℕ) → 53 + k - 53 ≡ k
    cut k = omega arith

pub digits_of : (m : ℕ) → 0 < m → m < 2 ^ 64 → 64 - count_leading_zeros 64 m ≡ size m
digits_of m h g = let t = leading_top 64 m h g in count (count_leading_zeros 64 m) t.0 t.1 ∙ sym (size_is m t.0 t.2 t.3)
  where
    count : (a j : ℕ) → a + suc j ≡ 64 → 64 - a ≡ suc j
    count a j e = omega arith

-- m shifted so that it has 53 digits
abbrev pub full : ℕ → ℕ
full m = m * 2 ^ (53 - size m)

rejoin : (d : ℕ) → d ≤ 53 → d + (53 - d) ≡ 53
rejoin d h = omega arith

pub full_lt : (m : ℕ) → m < 2 ^ 53 → full m < 2 ^ 53
full_lt m h = subst (λ (z : ℕ). full m < 2 ^ z) (rejoin (size m) (size-le m 53 h)) (shl_lt (size m) (53 - size m) (size-lt m))

pub full_ge : (m : ℕ) → 0 < m → m < 2 ^ 53 → 2 ^ 52 ≤ full m
full_ge m p h =
    let t = top_digit m p in
    le_trans (le_of_eq (ap (λ (z : ℕ). 2 ^ z) (places t.0 (size m) t.1 (size-le m 53 h)) ∙ pow-add 2 t.0 (53 - size m))) (mul-le-mul_right (2 ^ (53 - size m)) t.2)
  where
    places : (z d : ℕ) → d ≡ suc z → d ≤ 53 → 52 ≡ z + (53 - d)
    places z d e h = omega arith

-- no NaN has these bits
pub no_nan : (x : ℕ) → x ≤ 2047 * 2 ^ 52 → T (not (nan_bits binary64 x))
no_nan x h = subst (λ (b : Bool). T (not b)) (sym (nan_bits_above binary64 x ∙ le-ltb (2047 * 2 ^ 52) (x % 2 ^ 63) (under x h))) tt
  where
    under : (x : ℕ) → x ≤ 2047 * 2 ^ 52 → x % 2 ^ 63 ≤ 2047 * 2 ^ 52
    under x h = omega arith

-- ---- the fraction's units

-- m × 2^-(digits of m), in units of 2^-l, is the same for m × 2^j
pub fraction_same : (l m j q k : ℕ) → 0 < m → 0 < q → size m ≤ l → size q ≤ l → q * 2 ^ k ≡ m * 2 ^ j → q * 2 ^ (l - size q) ≡ m * 2 ^ (l - size m)
fraction_same l m j q k hm hq lm lq e =
    eq_of_mul-eq-mul_right (2 ^ (size m + j)) (pow_pos (size m + j)) (q * 2 ^ (l - size q)) (m * 2 ^ (l - size m))
    (ap (λ (z : ℕ). q * 2 ^ (l - size q) * 2 ^ z) (sym sizes) ∙ spread q k lq ∙ ap (λ (z : ℕ). z * 2 ^ l) e ∙ sym (spread m j lm))
  where
    sizes : size q + k ≡ size m + j
    sizes = sym (size_shift q k hq) ∙ ap size e ∙ size_shift m j hm

    spread : (a i : ℕ) → size a ≤ l → a * 2 ^ (l - size a) * 2 ^ (size a + i) ≡ a * 2 ^ i * 2 ^ l
    spread a i h =
        mul_assoc a (2 ^ (l - size a)) (2 ^ (size a + i))
        ∙ ap (λ (z : ℕ). a * z) (sym (pow-add 2 (l - size a) (size a + i)) ∙ ap (λ (z : ℕ). 2 ^ z) (over l (size a) i h) ∙ pow-add 2 i l)
        ∙ sym (mul_assoc a (2 ^ i) (2 ^ l))
      where
        over : (l d i : ℕ) → d ≤ l → l - d + (d + i) ≡ i + l
        over l d i h = omega arith

-- m × 2^-(digits of m) is a double
below_power : (l : ℕ) (m z : ℕ) → m < 2 ^ z → m * 1 < 2 ^ l * 2 ^ z
below_power l m z h = lt_of_le_of_lt (le_of_eq (mul-one m)) (lt_of_lt_of_le h (le_trans (le_of_eq (sym (one-mul (2 ^ z)))) (mul-le-mul_right (2 ^ z) (pow_pos l))))

fraction_fits : (s : Bool) (m : ℕ) (e : ℤ) (z : ℕ) → size (suc m) ≡ suc z → T (fits binary64 (fin s (suc m) e)) → T (fits binary64 (fin false (suc m) (negsuc z)))
unfolding fits
fraction_fits s m e z q f =
    and_i _ _ (and_i _ _ (and_i _ _ (search (and_l, and_r)) (lt→ltb (suc m) (2 ^ 53) (fits_digits binary64 s (suc m) e f)))
    (le→leb (2 ^ suc z) (2 ^ 1074) (pow_mono (le_trans (le_of_eq (sym q)) (le_trans (size-le (suc m) 53 (fits_digits binary64 s (suc m) e f)) few)))))
    (lt→ltb (suc m * 1) (2 ^ 1024 * 2 ^ suc z) (below_power 1024 (suc m) (suc z) (subst (λ (x : ℕ). suc m < 2 ^ x) q (size-lt (suc m)))))
  where
    few : 53 ≤ 1074
    few = omega arith

abbrev negated : ℕ → ℤ
negated d = neg_ℤ (pos d)

holds_fraction : (l m z : ℕ) → suc z ≤ l → m * 1 * 2 ^ l ≡ m * 2 ^ (l - suc z) * 2 ^ suc z
holds_fraction l m z h =
    ap (λ (x : ℕ). x * 2 ^ l) (mul-one m)
    ∙ ap (λ (x : ℕ). m * x) (ap (λ (x : ℕ). 2 ^ x) (sym (back l (suc z) h)) ∙ pow-add 2 (l - suc z) (suc z))
    ∙ sym (mul_assoc m (2 ^ (l - suc z)) (2 ^ suc z))

-- the fraction of a finite number that is not zero: its units, and that it fits
pub record Fractional (m : ℕ) (e : ℤ) : Type 0 where
  pub fitting : T (fits binary64 (fraction (fin false (suc m) e)))
  pub holds : Holds (fraction (fin false (suc m) e)) (suc m * 2 ^ (1074 - size (suc m)))

pub fractional : (s : Bool) (m : ℕ) (e : ℤ) → T (fits binary64 (fin s (suc m) e)) → Fractional m e
fractional s m e f =
    let t = top_digit (suc m) (zero-lt-suc m) in
    record {
      fitting = subst (λ (d : ℕ). T (fits binary64 (fin false (suc m) (negated d)))) (sym t.1) (fraction_fits s m e t.0 t.1 f);
      holds =
          subst (λ (d : ℕ). Holds (fin false (suc m) (negated d)) (suc m * 2 ^ (1074 - d))) (sym t.1)
          (refl, holds_fraction 1074 (suc m) t.0 (le_trans (le_of_eq (sym t.1)) (le_trans (size-le (suc m) 53 (fits_digits binary64 s (suc m) e f)) (lit≤ tt))));
    }

pub widen : (q : ℕ) → q < 2 ^ 53 → full q * 2 ^ 1021 ≡ q * 2 ^ (1074 - size q)
widen q h = mul_assoc q (2 ^ (53 - size q)) (2 ^ 1021) ∙ ap (λ (x : ℕ). q * x) (sym (pow-add 2 (53 - size q) 1021) ∙ ap (λ (x : ℕ). 2 ^ x) (widened (size q) (size-le q 53 h)))
  where
    widened : (d : ℕ) → d ≤ 53 → 53 - d + 1021 ≡ 1074 - d
    widened d h = omega arith

-- q × 2^k units are m × 2^e: q's 53 digits after an exponent's field of 1021 are the bits of the fraction
fraction_bits : (s : Bool) (m : ℕ) (e : ℤ) (q k : ℕ) → T (fits binary64 (fin s (suc m) e)) → 0 < q → q < 2 ^ 53 → q * 2 ^ k ≡ units (fin s (suc m) e)
    → of_bits binary64 (1021 * 2 ^ 52 + full q) ≡ fraction (fin s (suc m) e)
fraction_bits s m e q k f p h w =
    ap (of_bits binary64) (sym (pattern_full (full q) 1021 (full_ge q p h) (full_lt q h)) ∙ ap pattern same)
    ∙ read_back (fraction (fin s (suc m) e)) (suc m * 2 ^ (1074 - size (suc m))) (fractional s m e f).fitting (fractional s m e f).holds
  where
    few : (n : ℕ) → n < 2 ^ 53 → size n ≤ 1074
    few n h = le_trans (size-le n 53 h) (lit≤ tt)

    same : full q * 2 ^ 1021 ≡ suc m * 2 ^ (1074 - size (suc m))
    same =
        widen q h
        ∙ fraction_same 1074 (suc m) (lift 1074 e) q k (zero-lt-suc m) p (few (suc m) (fits_digits binary64 s (suc m) e f)) (few q h) (w ∙ units_lift s (suc m) e (fits_low binary64 s (suc m) e f))

-- ---- the exponent

-- e + d, where e's power of two is 2^(lift l e) units of 2^-l
lift_sum : (l : ℕ) (e : ℤ) (d : ℕ) → down e ≤ 2 ^ l → e +ℤ pos d ≡ pos (d + lift l e) -ℤ pos l
lift_sum l (pos k) d h = omega (arith, ints)
lift_sum l (negsuc k) d h = omega (arith, ints, pow_le_back (suc k) l h)

exponent_is : (s : Bool) (m : ℕ) (e : ℤ) (q k : ℕ) → T (fits binary64 (fin s (suc m) e)) → 0 < q → q * 2 ^ k ≡ units (fin s (suc m) e)
    → exponent (fin s (suc m) e) ≡ sub_ℕ (k + size q) 1074
exponent_is s m e q k f p w = lift_sum 1074 e (size (suc m)) (fits_low binary64 s (suc m) e f) ∙ ap (λ (n : ℕ). sub_ℕ n 1074) sizes
  where
    sizes : size (suc m) + lift 1074 e ≡ k + size q
    sizes = sym (size_shift (suc m) (lift 1074 e) (zero-lt-suc m)) ∙ ap size (sym (w ∙ units_lift s (suc m) e (fits_low binary64 s (suc m) e f))) ∙ size_shift q k p ∙ add_comm (size q) k

-- ---- what the fraction and the exponent make

unlift : (l n : ℕ) → lift l (sub_ℕ n l) ≡ n
unlift l n = go (ltb n l) refl
  where
    go : (b : Bool) → ltb n l ≡ b → lift l (cond b (negsuc (l - suc n)) (pos (n - l))) ≡ n
    go true e = omega (arith, ltb-true n l e)
    go false e = omega (arith, ltb-false n l e)

unlift_low : (l n : ℕ) → down (sub_ℕ n l) ≤ 2 ^ l
unlift_low l n = go (ltb n l) refl
  where
    fewer : (a b : ℕ) → a < b → suc (b - suc a) ≤ b
    fewer a b h = omega arith

    go : (b : Bool) → ltb n l ≡ b → down (cond b (negsuc (l - suc n)) (pos (n - l))) ≤ 2 ^ l
    go true e = pow_mono (fewer n l (ltb-true n l e))
    go false e = pow_pos l

made_up : (l m j d : ℕ) → d ≤ l → m * 2 ^ j * down (sub_ℕ (d + j) l) ≡ m * 2 ^ (l - d) * up (sub_ℕ (d + j) l)
made_up l m j d h =
    eq_of_mul-eq-mul_right (2 ^ l) (pow_pos l) (m * 2 ^ j * down x) (m * 2 ^ (l - d) * up x)
    (mul_right_comm (m * 2 ^ j) (down x) (2 ^ l)
    ∙ ap (λ (z : ℕ). z * down x) (mul_assoc m (2 ^ j) (2 ^ l) ∙ ap (λ (z : ℕ). m * z) (sym (pow-add 2 j l) ∙ ap (λ (z : ℕ). 2 ^ z) (places l d j h) ∙ pow-add 2 (l - d) (d + j)) ∙ sym (mul_assoc m (2 ^ (l - d)) (2 ^ (d + j))))
    ∙ mul_assoc (m * 2 ^ (l - d)) (2 ^ (d + j)) (down x)
    ∙ ap (λ (z : ℕ). m * 2 ^ (l - d) * z) (sym (lift_scale l x (unlift_low l (d + j)) ∙ ap (λ (z : ℕ). 2 ^ z * down x) (unlift l (d + j))))
    ∙ sym (mul_assoc (m * 2 ^ (l - d)) (up x) (2 ^ l)))
  where
    x : ℤ
    x = sub_ℕ (d + j) l

    places : (l d j : ℕ) → d ≤ l → j + l ≡ l - d + (d + j)
    places l d j h = omega arith

number : (v : Float) (a : ℕ) → T (fits binary64 v) → Holds v a → Number v
number v a f h = (f, holds_number v a h)

zero_equal : (s : Bool) (e : ℤ) → eq (fin s zero e) (fin false zero (pos zero)) ≡ true
unfolding eq
zero_equal s e = ap₂ (λ (a b : ℕ). level s a false b) (ap (λ (x : ℕ). x * 1) (zero-mul (up e))) (zero-mul (down e)) ∙ signs s
  where
    signs : (s : Bool) → level s 0 false 0 ≡ true
    signs true = refl
    signs false = refl

splits_exact : (s : Bool) (m : ℕ) (e : ℤ) → T (fits binary64 (fin s (suc m) e))
    → units (fin s (suc m) e) * down (exponent (fin s (suc m) e)) ≡ units (fraction (fin s (suc m) e)) * up (exponent (fin s (suc m) e))
splits_exact s m e f =
    ap₂ (λ (u : ℕ) (x : ℤ). u * down x) (units_lift s (suc m) e low) (lift_sum 1074 e (size (suc m)) low)
    ∙ made_up 1074 (suc m) (lift 1074 e) (size (suc m)) (le_trans (size-le (suc m) 53 (fits_digits binary64 s (suc m) e f)) (lit≤ tt))
    ∙ sym (ap₂ (λ (u : ℕ) (x : ℤ). u * up x) (holds_units (fraction (fin s (suc m) e)) _ (fractional s m e f).holds) (lift_sum 1074 e (size (suc m)) low))
  where
    low : down e ≤ 2 ^ 1074
    low = fits_low binary64 s (suc m) e f

splits_fin : (s : Bool) (m : ℕ) (e : ℤ) → T (fits binary64 (fin s (suc m) e)) → Splits (fin s (suc m) e) (fraction (fin s (suc m) e)) (exponent (fin s (suc m) e))
unfolding fits is_nan units
splits_fin s m e f = record {
  at_least_half = subst T (sym (le_units half (fraction (fin s (suc m) e)) (tt, tt) plain ∙ le-leb _ _ (le_trans (mul-le-mul_right (2 ^ 1021) (full_ge (suc m) (zero-lt-suc m) digits)) (le_of_eq (sym shifted))))) tt;
  below_one = subst T (sym (lt_units (fraction (fin s (suc m) e)) one plain (tt, tt) ∙ lt-ltb _ _ (lt_of_le_of_lt (le_of_eq shifted) (mul-lt-mul_of_pos_right (full_lt (suc m) digits) (pow_pos 1021))))) tt;
  exact = splits_exact s m e f;
}
  where
    digits : suc m < 2 ^ 53
    digits = fits_digits binary64 s (suc m) e f

    g : Fractional m e
    g = fractional s m e f

    plain : Number (fraction (fin s (suc m) e))
    plain = number (fraction (fin s (suc m) e)) _ g.fitting g.holds

    shifted : units (fraction (fin s (suc m) e)) ≡ full (suc m) * 2 ^ 1021
    shifted = holds_units (fraction (fin s (suc m) e)) _ g.holds ∙ sym (widen (suc m) digits)

pub splits : (v : Float) → T (fits binary64 v) → T (finite_nonzero v) → Splits v (fraction v) (exponent v)
splits nan f h = absurd h
splits (inf s) f h = absurd h
splits (fin s zero e) f h = absurd h
splits (fin s (suc m) e) f h = splits_fin s m e f

-- ---- which doubles are finite and not zero, by the tests of the program

pub nonzero_tested : (v : Float) → float_is_finite v ≡ true → eq v (of_bits binary64 0) ≡ false → T (finite_nonzero v)
unfolding float_is_finite eq of_bits
nonzero_tested nan h g = absurd (clash h)
nonzero_tested (inf s) h g = absurd (clash h)
nonzero_tested (fin s zero e) h g = absurd (clash (sym g ∙ zero_equal s e))
nonzero_tested (fin s (suc m) e) h g = tt

pub infinite_tested : (v : Float) → float_is_finite v ≡ false → T (not (finite_nonzero v))
unfolding float_is_finite
infinite_tested nan h = tt
infinite_tested (inf s) h = tt
infinite_tested (fin s m e) h = absurd (clash (sym h))

pub zero_tested : (v : Float) → eq v (of_bits binary64 0) ≡ true → T (not (finite_nonzero v))
unfolding eq of_bits
zero_tested nan h = tt
zero_tested (inf s) h = tt
zero_tested (fin s zero e) h = tt
zero_tested (fin s (suc m) e) h =
    absurd (lt_irrefl 0 (lt_of_lt_of_le (mul-pos (mul-pos (zero-lt-suc m) (up_pos e)) (zero-lt-suc 0)) (le_of_eq (eqb-true (suc m * up e * 1) (0 * down e) (left _ _ h) ∙ zero-mul (down e)))))
  where
    left : (a b : Bool) → (a && b) ≡ true → a ≡ true
    left true b e = refl
    left false b e = e

-- ---- a double taken apart into q × 2^k units

pub record Written (v : Float) (q k : ℕ) : Type 0 where
  pub bits : of_bits binary64 (1021 * 2 ^ 52 + full q) ≡ fraction v
  pub power : exponent v ≡ pos (k + size q) -ℤ pos 1074

pub written : (v : Float) (q k : ℕ) → T (fits binary64 v) → T (finite_nonzero v) → 0 < q → q < 2 ^ 53 → q * 2 ^ k ≡ units v → Written v q k
written nan q k f h p d w = absurd h
written (inf s) q k f h p d w = absurd h
written (fin s zero e) q k f h p d w = absurd h
written (fin s (suc m) e) q k f h p d w = record { bits = fraction_bits s m e q k f p d w; power = exponent_is s m e q k f p w }

-- ---- doubles from 1/2 up to 1: n / 2^53, with n of 53 digits

pub record Normal (f : Float) (n : ℕ) : Type 0 where
  pub number : Number f
  pub plain : magnitude f ≡ f
  pub whole : units f ≡ n * 2 ^ 1021
  pub low : 2 ^ 52 ≤ n
  pub high : n < 2 ^ 53

pub normal_bits : (n : ℕ) → 2 ^ 52 ≤ n → n < 2 ^ 53 → Normal (of_bits binary64 (1021 * 2 ^ 52 + n)) n
normal_bits n l h = record {
  number = number f (n * 2 ^ 1021) (of_bits-fits binary64 (1021 * 2 ^ 52 + n)) holds;
  plain = holds_magnitude f (n * 2 ^ 1021) holds;
  whole = holds_units f (n * 2 ^ 1021) holds;
  low = l;
  high = h;
}
  where
    f : Float
    f = of_bits binary64 (1021 * 2 ^ 52 + n)

    few : n * 2 ^ 1021 < 2 ^ 2098
    few = lt_of_lt_of_le (mul-lt-mul_of_pos_right h (pow_pos 1021)) (le_trans (le_of_eq (sym (pow-add 2 53 1021))) (pow_mono {i = 1074} {j = 2098} (lit≤ tt)))

    holds : Holds f (n * 2 ^ 1021)
    holds =
        subst (λ (a : ℕ). Holds f a) (le_antisymm (kept_le (n * 2 ^ 1021)) (kept_largest (n * 2 ^ 1021) n 1021 h (le_refl (n * 2 ^ 1021))))
        (subst (λ (b : ℕ). Holds (of_bits binary64 b) (kept (n * 2 ^ 1021))) (pattern_full n 1021 l h) (pattern_kept (n * 2 ^ 1021) few).holds)

-- the order of two such is that of their n
pub normal_lt : (f g : Float) (n m : ℕ) → Normal f n → Normal g m → lt f g ≡ ltb n m
normal_lt f g n m p q =
    ap₂ lt (sym p.plain) (sym q.plain) ∙ lt_units f g p.number q.number ∙ ap₂ ltb p.whole q.whole ∙ ltb_scaled n m (2 ^ 1021) (pow_pos 1021)

-- the fraction of a finite number that is not zero is one, and with the exponent it makes the number's units
pub record SplitNormal (v : Float) : Type 0 where
  pub n : ℕ
  pub normal : Normal (fraction v) n
  pub exact : units v * down (exponent v) ≡ n * 2 ^ 1021 * up (exponent v)

pub split_normal : (v : Float) → T (fits binary64 v) → T (finite_nonzero v) → SplitNormal v
split_normal nan f h = absurd h
split_normal (inf s) f h = absurd h
split_normal (fin s zero e) f h = absurd h
split_normal (fin s (suc m) e) f h = record {
  n = full (suc m);
  normal = record {
    number = number (fraction (fin s (suc m) e)) _ g.fitting g.holds;
    plain = refl;
    whole = shifted;
    low = full_ge (suc m) (zero-lt-suc m) digits;
    high = full_lt (suc m) digits;
  };
  exact = splits_exact s m e f ∙ ap (λ (u : ℕ). u * up (exponent (fin s (suc m) e))) shifted;
}
  where
    digits : suc m < 2 ^ 53
    digits = fits_digits binary64 s (suc m) e f

    g : Fractional m e
    g = fractional s m e f

    shifted : units (fraction (fin s (suc m) e)) ≡ full (suc m) * 2 ^ 1021
    shifted = holds_units (fraction (fin s (suc m) e)) _ g.holds ∙ sym (widen (suc m) digits)
