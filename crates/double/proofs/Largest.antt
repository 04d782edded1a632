-- The double of n units, and that `largest n` is the largest double that is at most n units.
use Rattle.std.proofs.Common.{◌≡◌, ℕ, ◌+◌, ◌-◌, ◌*◌, ◌/◌, ◌^◌, ◌<◌, ◌≤◌, min, Bool, false, cond, not, T, ltb, leb, ◌⊎◌, sym, refl, ap, ◌∙◌, subst, inl, inr, ⊎_elim, le_trans, le_of_eq, lt_of_le_of_lt, le_of_lt, zero-add, mul-div_cancel, arith, pow_pos, le-ltb, lt-ltb, le-leb}
use borrow.Author.Tests.{lt-leb}
use lib.Ieee.{Float, nan, inf, fin, binary64, down, size, fits, is_nan, lt, le, odd, to_bits, of_bits}
use lib.Ieee.Bits.{of_bits-to_bits, of_bits-fits}
use lib.Ieee.Exact.{HasValue, odd_sign}
use lib.Ieee.Fits.{down_pos, odd-fits, kept-lt, inf-fits}
use Rattle.std.proofs.lemmas.Bool.{cases_lt}
use Rattle.double.specs.Double.{Number, units, magnitude, pattern, largest}
use Rattle.double.proofs.Scale.{lift}
use Rattle.double.proofs.Order.{fits_digits, fits_low, units_under, lt_units, le_units, units_lift}
use Rattle.double.proofs.Digits.{kept, kept_le, kept_size, kept_largest}

-- a value that is not negative and a units in size
abbrev pub Holds : Float → ℕ → Type 0
Holds x a = HasValue x false a (2 ^ 1074)

pub holds_units : (x : Float) (a : ℕ) → Holds x a → units x ≡ a
unfolding units
holds_units nan a h = absurd h
holds_units (inf t) a h = absurd h
holds_units (fin t m e) a h = ap (λ (n : ℕ). n / down e) h.1 ∙ mul-div_cancel a (down_pos e)

pub holds_magnitude : (x : Float) (a : ℕ) → Holds x a → magnitude x ≡ x
holds_magnitude nan a h = absurd h
holds_magnitude (inf t) a h = absurd h
holds_magnitude (fin t m e) a h = ap (λ (s : Bool). fin s m e) (sym h.0)

pub holds_number : (x : Float) (a : ℕ) → Holds x a → T (not (is_nan x))
unfolding is_nan
holds_number nan a h = absurd h
holds_number (inf t) a h = absurd h
holds_number (fin t m e) a h = tt

pub holds_bits : (x : Float) (a : ℕ) → Holds x a → to_bits binary64 x ≡ pattern a
unfolding to_bits units
holds_bits nan a h = absurd h
holds_bits (inf t) a h = absurd h
holds_bits (fin t m e) a h =
    ap (λ (s : Bool). to_bits binary64 (fin s m e)) h.0
    ∙ (ap (λ (n : ℕ). 0 + (size n - 53) * 2 ^ 52 + n / 2 ^ (size n - 53)) (holds_units (fin t m e) a h)
    ∙ ap (λ (x : ℕ). x + a / 2 ^ (size a - 53)) (zero-add ((size a - 53) * 2 ^ 52)))

-- what fits and is a units in size is read from the pattern of a
pub read_back : (x : Float) (a : ℕ) → T (fits binary64 x) → Holds x a → of_bits binary64 (pattern a) ≡ x
read_back x a f h = ap (of_bits binary64) (sym (holds_bits x a h)) ∙ of_bits-to_bits binary64 x f

kept_pattern : (n : ℕ) → pattern (kept n) ≡ pattern n
kept_pattern n =
    ap (λ (z : ℕ). (z - 53) * 2 ^ 52 + kept n / 2 ^ (z - 53)) (kept_size n)
    ∙ ap (λ (q : ℕ). (size n - 53) * 2 ^ 52 + q) (mul-div_cancel (n / 2 ^ (size n - 53)) (pow_pos (size n - 53)))

-- the double that n's pattern is read as: what is kept of n
pub record Kept (n : ℕ) : Type 0 where
  pub holds : Holds (of_bits binary64 (pattern n)) (kept n)
  pub fitting : T (fits binary64 (of_bits binary64 (pattern n)))

pub pattern_kept : (n : ℕ) → n < 2 ^ 2098 → Kept n
pattern_kept n h = record {
  holds = subst (λ (x : Float). Holds x (kept n)) (sym same) (odd_sign 53 false q k 1074);
  fitting = of_bits-fits binary64 (pattern n);
}
  where
    k : ℕ
    k = size n - 53

    q : ℕ
    q = n / 2 ^ k

    same : of_bits binary64 (pattern n) ≡ odd 53 false q k 1074
    same =
        ap (of_bits binary64) (sym (kept_pattern n))
        ∙ read_back (odd 53 false q k 1074) (kept n)
        (odd-fits binary64 53 false q k (kept-lt 53 n) (le_of_lt (kept-lt 53 n)) (lt_of_le_of_lt (kept_le n) h))
        (odd_sign 53 false q k 1074)

-- ---- the largest double

-- the two cases of `largest`
largest_finite : (n : ℕ) → n ≤ 2 ^ 2098 → largest n ≡ of_bits binary64 (pattern (min n (2 ^ 2098 - 1)))
unfolding largest
largest_finite n h = ap (λ (b : Bool). cond b (of_bits binary64 (pattern (min n (2 ^ 2098 - 1)))) (inf false)) (le-leb n (2 ^ 2098) h)

pub largest_infinite : (n : ℕ) → 2 ^ 2098 < n → largest n ≡ inf false
unfolding largest
largest_infinite n h = ap (λ (b : Bool). cond b (of_bits binary64 (pattern (min n (2 ^ 2098 - 1)))) (inf false)) (lt-leb n (2 ^ 2098) h)

pub largest_small : (n : ℕ) → n < 2 ^ 2098 → largest n ≡ of_bits binary64 (pattern n)
largest_small n h = largest_finite n (le_of_lt h) ∙ ap (λ (m : ℕ). of_bits binary64 (pattern m)) (least (2 ^ 2098) h)
  where
    least : (C : ℕ) {m : ℕ} → m < C → min m (C - 1) ≡ m
    least C h = omega arith

-- what is said of `largest n` by its cases: it is the double of what is kept of the n, or of the C - 1 units below 2^1024, where n is more; or infinity
by_cases : (P : Float → Type 0) (n : ℕ) → (n ≤ 2 ^ 2098 → P (of_bits binary64 (pattern (min n (2 ^ 2098 - 1))))) → (2 ^ 2098 < n → P (inf false)) → P (largest n)
by_cases P n f g =
    ⊎_elim (λ h. subst P (sym (largest_infinite n h)) (g h)) (λ h. subst P (sym (largest_finite n h)) (f h)) (cases_lt (2 ^ 2098) n)

min_under : (C n : ℕ) → 0 < C → min n (C - 1) < C
min_under C n h = omega arith

capped : (n : ℕ) → Kept (min n (2 ^ 2098 - 1))
capped n = pattern_kept (min n (2 ^ 2098 - 1)) (min_under (2 ^ 2098) n (pow_pos 2098))

pub units_infinite : (s : Bool) → units (inf s) ≡ 2 ^ 2098 + 1
unfolding units
units_infinite s = refl

pub largest_number : (n : ℕ) → Number (largest n)
unfolding is_nan
largest_number n =
    by_cases Number n (λ h. ((capped n).fitting, holds_number (of_bits binary64 (pattern (min n (2 ^ 2098 - 1)))) _ (capped n).holds)) (λ h. (inf-fits binary64 false, tt))

pub largest_magnitude : (n : ℕ) → magnitude (largest n) ≡ largest n
largest_magnitude n =
    by_cases (λ x. magnitude x ≡ x) n (λ h. holds_magnitude (of_bits binary64 (pattern (min n (2 ^ 2098 - 1)))) _ (capped n).holds) (λ h. refl)

-- it is at most n units
pub largest_within : (n : ℕ) → units (largest n) ≤ n
largest_within n =
    by_cases (λ x. units x ≤ n) n
    (λ h. le_trans (le_of_eq (holds_units (of_bits binary64 (pattern (min n (2 ^ 2098 - 1)))) _ (capped n).holds)) (le_trans (kept_le (min n (2 ^ 2098 - 1))) (least n (2 ^ 2098 - 1))))
    (λ h. le_trans (le_of_eq (units_infinite false)) (above (2 ^ 2098) h))
  where
    least : (a b : ℕ) → min a b ≤ a
    least a b = omega arith

    above : (C : ℕ) {m : ℕ} → C < m → C + 1 ≤ m
    above C h = omega arith

-- every number of at most n units is at most that
pub largest_reaches : (x : Float) (n : ℕ) → Number x → units x ≤ n → units x ≤ units (largest n)
unfolding is_nan
largest_reaches nan n k h = absurd k.1
largest_reaches (inf s) n k h =
    le_of_eq (units_infinite s ∙ sym (units_infinite false) ∙ sym (ap units (largest_infinite n (below (2 ^ 2098) (le_trans (le_of_eq (sym (units_infinite s))) h)))))
  where
    below : (C : ℕ) {m : ℕ} → C + 1 ≤ m → C < m
    below C h = omega arith
largest_reaches (fin s m e) n k h =
    by_cases (λ x. units (fin s m e) ≤ units x) n
    (λ g.
    le_trans (le_of_eq whole)
    (le_trans (kept_largest (min n (2 ^ 2098 - 1)) m (lift 1074 e) (fits_digits binary64 s m e k.0) (le_trans (le_of_eq (sym whole)) (both (2 ^ 2098) (units_under s m e k.0) h)))
    (le_of_eq (sym (holds_units (of_bits binary64 (pattern (min n (2 ^ 2098 - 1)))) _ (capped n).holds)))))
    (λ g. le_trans (le_of_lt (units_under s m e k.0)) (le_trans (more (2 ^ 2098)) (le_of_eq (sym (units_infinite false)))))
  where
    whole : units (fin s m e) ≡ m * 2 ^ lift 1074 e
    whole = units_lift s m e (fits_low binary64 s m e k.0)

    both : (C : ℕ) {u v : ℕ} → u < C → u ≤ v → u ≤ min v (C - 1)
    both C h g = omega arith

    more : (C : ℕ) → C ≤ C + 1
    more C = omega arith

pub le_largest : (x : Float) (n : ℕ) → Number x → le (magnitude x) (largest n) ≡ leb (units x) n
le_largest x n k =
    ap (le (magnitude x)) (sym (largest_magnitude n)) ∙ le_units x (largest n) k (largest_number n) ∙ same (cases_lt n (units x))
  where
    same : (n < units x) ⊎ (units x ≤ n) → leb (units x) (units (largest n)) ≡ leb (units x) n
    same (inl h) = lt-leb (units x) (units (largest n)) (lt_of_le_of_lt (largest_within n) h) ∙ sym (lt-leb (units x) n h)
    same (inr h) = le-leb (units x) (units (largest n)) (largest_reaches x n k h) ∙ sym (le-leb (units x) n h)

pub lt_largest : (x : Float) (n : ℕ) → Number x → lt (largest n) (magnitude x) ≡ ltb n (units x)
lt_largest x n k =
    ap (λ (y : Float). lt y (magnitude x)) (sym (largest_magnitude n)) ∙ lt_units (largest n) x (largest_number n) k ∙ same (cases_lt n (units x))
  where
    same : (n < units x) ⊎ (units x ≤ n) → ltb (units (largest n)) (units x) ≡ ltb n (units x)
    same (inl h) = lt-ltb (units (largest n)) (units x) (lt_of_le_of_lt (largest_within n) h) ∙ sym (lt-ltb n (units x) h)
    same (inr h) = le-ltb (units (largest n)) (units x) (largest_reaches x n k h) ∙ sym (le-ltb n (units x) h)
