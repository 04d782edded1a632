-- The order of two magnitudes is the order of their units.
-- Numbers as 2^1074 stay behind a format's name, since a numeral of so many digits is too long for the arithmetic tactics.
use Rattle.std.proofs.Common.{◌≡◌, ℕ, zero, suc, ◌+◌, ◌*◌, ◌/◌, ◌%◌, ◌^◌, ◌<◌, ◌≤◌, Bool, ◌&&◌, ◌||◌, T, eqb, ltb, leb, ℤ, sym, refl, ap, ◌∙◌, ap₂, le_trans, le_of_eq, lt_of_lt_of_le, lt_of_le_of_lt, le_of_lt, lt_irrefl, mul-le-mul_right, mul_assoc, mul_comm, lt_of_mul-lt-mul_right, mul-lt-mul_of_pos_right, mul-pos, one-mul, zero-mul, mul_right_comm, arith, eqb→eq, ltb→lt, leb→le, pow_pos, pow-add, le-ltb, lt-ltb, eq-eqb, ne_eqb}
use lib.Ieee.{Float, nan, inf, fin, Format, binary64, prec, emax, low, up, down, fits, lt, le, eq, is_nan}
use Rattle.std.proofs.Math.Bool.{and-true}
use lib.Ieee.Fits.{and_l, and_r, up_pos, down_pos}
use Rattle.double.specs.Double.{Number, units, magnitude}
use Rattle.double.proofs.Scale.{lift, lift_exact, lift_units, ltb_scaled, eqb_scaled, ltb_or_eqb}

-- ---- what fitting a format says of m × 2^e

abbrev pub fits_test : Format → ℕ → ℤ → Bool
fits_test f m e = eqb (suc m % 2) 1 && ltb (suc m) (2 ^ prec f) && leb (down e) (2 ^ low f) && ltb (suc m * up e) (2 ^ suc (emax f) * down e)

pub fits_tested : (f : Format) (s : Bool) (m : ℕ) (e : ℤ) → T (fits f (fin s (suc m) e)) → T (fits_test f m e)
unfolding fits
fits_tested f s m e h = h

-- the same test by the name of its first part
abbrev pub odd : Format → ℕ → ℤ → Bool
odd f m e = fits_test f m e

-- what fits passes that test
pub fits_odd : (f : Format) (s : Bool) (m : ℕ) (e : ℤ) → T (fits f (fin s (suc m) e)) → T (odd f m e)
fits_odd f s m e h = fits_tested f s m e h

pub fits_zero : (f : Format) (s : Bool) (e : ℤ) → T (fits f (fin s zero e)) → up e * down e ≡ 1
unfolding fits
fits_zero f s e h = eqb→eq (up e * down e) 1 h

-- m has at most prec digits
pub fits_digits : (f : Format) (s : Bool) (m : ℕ) (e : ℤ) → T (fits f (fin s m e)) → m < 2 ^ prec f
fits_digits f s zero e h = pow_pos (prec f)
fits_digits f s (suc m) e h = ltb→lt (suc m) (2 ^ prec f) (search (and_l, and_r, fits_tested))

pub fits_low : (f : Format) (s : Bool) (m : ℕ) (e : ℤ) → T (fits f (fin s m e)) → down e ≤ 2 ^ low f
fits_low f s zero e h = le_trans (le_of_eq (sym (one-mul (down e)))) (le_trans (mul-le-mul_right (down e) (up_pos e)) (le_trans (le_of_eq (fits_zero f s e h)) (pow_pos (low f))))
fits_low f s (suc m) e h = leb→le (down e) (2 ^ low f) (search (and_l, and_r, fits_tested))

pub fits_high : (f : Format) (s : Bool) (m : ℕ) (e : ℤ) → T (fits f (fin s m e)) → m * up e < 2 ^ suc (emax f) * down e
fits_high f s zero e h = lt_of_le_of_lt (le_of_eq (zero-mul (up e))) (mul-pos (pow_pos (suc (emax f))) (down_pos e))
fits_high f s (suc m) e h = ltb→lt (suc m * up e) (2 ^ suc (emax f) * down e) (search (and_l, and_r, fits_tested))

-- ---- units of a finite double

whole : (l m : ℕ) (e : ℤ) → down e ≤ 2 ^ l → m * up e * 2 ^ l / down e * down e ≡ m * up e * 2 ^ l
whole l m e h = ap (λ (x : ℕ). x * down e) (lift_units l m e h) ∙ sym (lift_exact l m e h)

pub units_exact : (s : Bool) (m : ℕ) (e : ℤ) → T (fits binary64 (fin s m e)) → units (fin s m e) * down e ≡ m * up e * 2 ^ 1074
unfolding units
units_exact s m e h = whole 1074 m e (fits_low binary64 s m e h)

pub units_lift : (s : Bool) (m : ℕ) (e : ℤ) → down e ≤ 2 ^ 1074 → units (fin s m e) ≡ m * 2 ^ lift 1074 e
unfolding units
units_lift s m e h = lift_units 1074 m e h

under : (a l m u : ℕ) (e : ℤ) → u * down e ≡ m * up e * 2 ^ l → m * up e < 2 ^ a * down e → u < 2 ^ (a + l)
under a l m u e q h =
    lt_of_mul-lt-mul_right (down e)
    (lt_of_le_of_lt (le_of_eq q) (lt_of_lt_of_le (mul-lt-mul_of_pos_right h (pow_pos l)) (le_of_eq (mul_right_comm (2 ^ a) (down e) (2 ^ l) ∙ ap (λ (x : ℕ). x * down e) (sym (pow-add 2 a l))))))

pub units_under : (s : Bool) (m : ℕ) (e : ℤ) → T (fits binary64 (fin s m e)) → units (fin s m e) < 2 ^ 2098
units_under s m e h = under 1024 1074 m (units (fin s m e)) e (units_exact s m e h) (fits_high binary64 s m e h)

-- ---- X / E and Y / D compare as a and b, where each is that many units of 1 / L

crossed : (X Y a b L E D : ℕ) → X * L ≡ a * E → X * D * L ≡ a * (E * D)
crossed X Y a b L E D p = mul_right_comm X D L ∙ ap (λ (x : ℕ). x * D) p ∙ mul_assoc a E D

crossed' : (X Y a b L E D : ℕ) → Y * L ≡ b * D → Y * E * L ≡ b * (E * D)
crossed' X Y a b L E D p = crossed Y X b a L D E p ∙ ap (λ (x : ℕ). b * x) (mul_comm D E)

cross_ltb : (X Y a b L E D : ℕ) → 0 < L → 0 < E → 0 < D → X * L ≡ a * E → Y * L ≡ b * D → ltb (X * D) (Y * E) ≡ ltb a b
cross_ltb X Y a b L E D hL hE hD p q = sym (ltb_scaled (X * D) (Y * E) L hL) ∙ ap₂ ltb (crossed X Y a b L E D p) (crossed' X Y a b L E D q) ∙ ltb_scaled a b (E * D) (mul-pos hE hD)

cross_eqb : (X Y a b L E D : ℕ) → 0 < L → 0 < E → 0 < D → X * L ≡ a * E → Y * L ≡ b * D → eqb (X * D) (Y * E) ≡ eqb a b
cross_eqb X Y a b L E D hL hE hD p q = sym (eqb_scaled (X * D) (Y * E) L hL) ∙ ap₂ eqb (crossed X Y a b L E D p) (crossed' X Y a b L E D q) ∙ eqb_scaled a b (E * D) (mul-pos hE hD)

-- ---- the order

infinite : (s : Bool) → units (inf s) ≡ 2 ^ 2098 + 1
unfolding units
infinite s = refl

under_infinite : (s t : Bool) (m : ℕ) (e : ℤ) → T (fits binary64 (fin s m e)) → units (fin s m e) < units (inf t)
under_infinite s t m e h = lt_of_lt_of_le (above (2 ^ 2098) (units_under s m e h)) (le_of_eq (sym (infinite t)))
  where
    above : (u : ℕ) {v : ℕ} → v < u → v < u + 1
    above u h = omega arith

pub lt_units : (x y : Float) → Number x → Number y → lt (magnitude x) (magnitude y) ≡ ltb (units x) (units y)
unfolding lt is_nan
lt_units nan y hx hy = absurd hx.1
lt_units (inf s) nan hx hy = absurd hy.1
lt_units (inf s) (inf t) hx hy = sym (le-ltb (units (inf s)) (units (inf t)) (le_of_eq (infinite t ∙ sym (infinite s))))
lt_units (inf s) (fin t n d) hx hy = sym (le-ltb (units (inf s)) (units (fin t n d)) (le_of_lt (under_infinite t s n d hy.0)))
lt_units (fin s m e) nan hx hy = absurd hy.1
lt_units (fin s m e) (inf t) hx hy = sym (lt-ltb (units (fin s m e)) (units (inf t)) (under_infinite s t m e hx.0))
lt_units (fin s m e) (fin t n d) hx hy =
    cross_ltb (m * up e) (n * up d) (units (fin s m e)) (units (fin t n d)) (2 ^ 1074) (down e) (down d) (pow_pos 1074) (down_pos e) (down_pos d)
    (sym (units_exact s m e hx.0)) (sym (units_exact t n d hy.0))

pub eq_units : (x y : Float) → Number x → Number y → eq (magnitude x) (magnitude y) ≡ eqb (units x) (units y)
unfolding eq is_nan
eq_units nan y hx hy = absurd hx.1
eq_units (inf s) nan hx hy = absurd hy.1
eq_units (inf s) (inf t) hx hy = sym (eq-eqb (units (inf s)) (units (inf t)) (infinite s ∙ sym (infinite t)))
eq_units (inf s) (fin t n d) hx hy = sym (ne_eqb (units (inf s)) (units (fin t n d)) (λ q. lt_irrefl (units (inf s)) (lt_of_le_of_lt (le_of_eq q) (under_infinite t s n d hy.0))))
eq_units (fin s m e) nan hx hy = absurd hy.1
eq_units (fin s m e) (inf t) hx hy = sym (ne_eqb (units (fin s m e)) (units (inf t)) (λ q. lt_irrefl (units (inf t)) (lt_of_le_of_lt (le_of_eq (sym q)) (under_infinite s t m e hx.0))))
eq_units (fin s m e) (fin t n d) hx hy =
    and-true (eqb (m * up e * down d) (n * up d * down e))
    ∙ cross_eqb (m * up e) (n * up d) (units (fin s m e)) (units (fin t n d)) (2 ^ 1074) (down e) (down d) (pow_pos 1074) (down_pos e) (down_pos d)
    (sym (units_exact s m e hx.0)) (sym (units_exact t n d hy.0))

pub le_units : (x y : Float) → Number x → Number y → le (magnitude x) (magnitude y) ≡ leb (units x) (units y)
unfolding le
le_units x y hx hy = ap₂ ◌||◌ (lt_units x y hx hy) (eq_units x y hx hy) ∙ ltb_or_eqb (units x) (units y)
