-- A power of two as a whole number of units of 2^-l, and comparisons that a common factor leaves as they are.
use Rattle.std.proofs.Common.{◌≡◌, ℕ, suc, ◌+◌, ◌-◌, ◌*◌, ◌/◌, ◌^◌, ◌<◌, ◌≤◌, Bool, true, false, ◌||◌, eqb, ltb, leb, ℤ, pos, negsuc, sym, refl, ap, ◌∙◌, lt_of_lt_of_le, le_of_suc-le-suc, lt_irrefl, mul-le-mul_right, mul_assoc, mul-lt-mul_of_pos_right, one-mul, lt_of_not-le, mul-one, mul-div_cancel, arith, pow-add, ltb-false, ltb-true, le-ltb, lt-ltb, eq-eqb, ne_eqb, eqb-true}
use native.Mathlib.Nat.{eq_of_mul-eq-mul_right}
use borrow.Author.Tests.{eqb-false}
use lib.Pow.{pow-lt}
use lib.Ieee.{up, down}
use lib.Ieee.Digits.{back}
use lib.Ieee.Fits.{down_pos}

-- 2^e is 2^(lift l e) units of 2^-l
abbrev pub lift : ℕ → ℤ → ℕ
lift l (pos k) = k + l
lift l (negsuc k) = l - suc k

pub pow_le_back : (a l : ℕ) → 2 ^ a ≤ 2 ^ l → a ≤ l
pow_le_back a l h = le_of_suc-le-suc (lt_of_not-le (λ (g : suc l ≤ a). lt_irrefl (2 ^ l) (lt_of_lt_of_le (pow-lt g) h)))

pub lift_scale : (l : ℕ) (e : ℤ) → down e ≤ 2 ^ l → up e * 2 ^ l ≡ 2 ^ lift l e * down e
lift_scale l (pos k) h = sym (pow-add 2 k l) ∙ sym (mul-one (2 ^ (k + l)))
lift_scale l (negsuc k) h = one-mul (2 ^ l) ∙ ap (λ (x : ℕ). 2 ^ x) (sym (back l (suc k) (pow_le_back (suc k) l h))) ∙ pow-add 2 (l - suc k) (suc k)

pub lift_exact : (l m : ℕ) (e : ℤ) → down e ≤ 2 ^ l → m * up e * 2 ^ l ≡ m * 2 ^ lift l e * down e
lift_exact l m e h = mul_assoc m (up e) (2 ^ l) ∙ ap (λ (x : ℕ). m * x) (lift_scale l e h) ∙ sym (mul_assoc m (2 ^ lift l e) (down e))

pub lift_units : (l m : ℕ) (e : ℤ) → down e ≤ 2 ^ l → m * up e * 2 ^ l / down e ≡ m * 2 ^ lift l e
lift_units l m e h = ap (λ (x : ℕ). x / down e) (lift_exact l m e h) ∙ mul-div_cancel (m * 2 ^ lift l e) (down_pos e)

-- ---- comparisons, by a common factor

pub ltb_scaled : (a b c : ℕ) → 0 < c → ltb (a * c) (b * c) ≡ ltb a b
ltb_scaled a b c h = go (ltb a b) refl
  where
    go : (t : Bool) → ltb a b ≡ t → ltb (a * c) (b * c) ≡ t
    go true e = lt-ltb (a * c) (b * c) (mul-lt-mul_of_pos_right (ltb-true a b e) h)
    go false e = le-ltb (a * c) (b * c) (mul-le-mul_right c (ltb-false a b e))

pub eqb_scaled : (a b c : ℕ) → 0 < c → eqb (a * c) (b * c) ≡ eqb a b
eqb_scaled a b c h = go (eqb a b) refl
  where
    go : (t : Bool) → eqb a b ≡ t → eqb (a * c) (b * c) ≡ t
    go true e = eq-eqb (a * c) (b * c) (ap (λ (x : ℕ). x * c) (eqb-true a b e))
    go false e = ne_eqb (a * c) (b * c) (λ q. eqb-false a b e (eq_of_mul-eq-mul_right c h a b q))

pub ltb_or_eqb : (a b : ℕ) → (ltb a b || eqb a b) ≡ leb a b
ltb_or_eqb a b = grind arith
