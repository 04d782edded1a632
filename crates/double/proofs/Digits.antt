-- How many binary digits a number has, and the number that its 53 leading ones make.
use Rattle.std.proofs.Common.{◌≡◌, ℕ, zero, suc, ◌+◌, ◌-◌, ◌*◌, ◌/◌, ◌^◌, ◌<◌, ◌≤◌, sym, refl, ap, ◌∙◌, subst, ⊎_elim, le_trans, le_of_eq, lt_of_lt_of_le, lt_of_le_of_lt, le_of_lt, lt_irrefl, mul-le-mul_right, zero-lt-suc, mul_assoc, le_antisymm, mul-lt-mul_of_pos_right, lt_of_not-le, le-div_iff_mul-le, div-mul-le_self, arith, pow_pos, pow_mono, pow-add}
use Rattle.std.proofs.lemmas.Bool.{cases_lt}
use lib.Ieee.{size}
use lib.Ieee.Digits.{size-lt, size_reaches, size-le}

-- the number that the 53 leading digits of n make
abbrev pub kept : ℕ → ℕ
kept n = n / 2 ^ (size n - 53) * 2 ^ (size n - 53)

pub size_is : (w z : ℕ) → 2 ^ z ≤ w → w < 2 ^ suc z → size w ≡ suc z
size_is w z h g = le_antisymm (size-le w (suc z) g) (lt_of_not-le (λ (t : size w ≤ z). lt_irrefl w (lt_of_lt_of_le (size-lt w) (le_trans (pow_mono t) h))))

pub size_pos : (n : ℕ) → 0 < n → 0 < size n
size_pos n h = lt_of_not-le (λ (t : size n ≤ 0). lt_irrefl n (lt_of_lt_of_le (size-lt n) (le_trans (pow_mono t) h)))

-- n, not 0, has z + 1 digits
pub top_digit : (n : ℕ) → 0 < n → (z : ℕ) × (size n ≡ suc z) × (2 ^ z ≤ n) × (n < 2 ^ suc z)
top_digit n h = go (size n) refl
  where
    go : (d : ℕ) → size n ≡ d → (z : ℕ) × (size n ≡ suc z) × (2 ^ z ≤ n) × (n < 2 ^ suc z)
    go zero e = absurd (lt_irrefl 0 (subst (λ (x : ℕ). 0 < x) e (size_pos n h)))
    go (suc z) e = (z, e, size_reaches n z (le_of_eq (sym e)), subst (λ (x : ℕ). n < 2 ^ x) e (size-lt n))

pub size_shift : (m j : ℕ) → 0 < m → size (m * 2 ^ j) ≡ size m + j
size_shift m j h =
    let t = top_digit m h in
    size_is (m * 2 ^ j) (t.0 + j)
    (le_trans (le_of_eq (pow-add 2 t.0 j)) (mul-le-mul_right (2 ^ j) t.2))
    (lt_of_lt_of_le (mul-lt-mul_of_pos_right t.3 (pow_pos j)) (le_of_eq (sym (pow-add 2 (suc t.0) j) ∙ ap (λ (x : ℕ). 2 ^ x) (shifted t.0 j))))
    ∙ (sym (shifted t.0 j) ∙ ap (λ (x : ℕ). x + j) (sym t.1))
  where
    shifted : (a b : ℕ) → suc a + b ≡ suc (a + b)
    shifted a b = omega arith

-- ---- the leading digits

pub kept_le : (n : ℕ) → kept n ≤ n
kept_le n = div-mul-le_self n (2 ^ (size n - 53))

-- a power of two up to n, whose digits past its own are all there, is up to what is kept
pub kept_reaches : (n z : ℕ) → size n ≡ suc z → 2 ^ z ≤ n → 2 ^ z ≤ kept n
kept_reaches n z e h =
    let k = size n - 53 in
    let q : 2 ^ z ≡ 2 ^ (z - k) * 2 ^ k = ap (λ (x : ℕ). 2 ^ x) (back z (size n) e) ∙ pow-add 2 (z - k) k in
    le_trans (le_of_eq q) (mul-le-mul_right (2 ^ k) ((le-div_iff_mul-le (pow_pos k)).1 (le_trans (le_of_eq (sym q)) h)))
  where
    back : (a b : ℕ) → b ≡ suc a → a ≡ a - (b - 53) + (b - 53)
    back a b e = omega arith

pub kept_size : (n : ℕ) → size (kept n) ≡ size n
unfolding size
kept_size zero = refl
kept_size (suc n) =
    let t = top_digit (suc n) (zero-lt-suc n) in
    size_is (kept (suc n)) t.0 (kept_reaches (suc n) t.0 t.1 t.2) (lt_of_le_of_lt (kept_le (suc n)) t.3) ∙ sym t.1

-- a number of at most 53 digits, with zeros after them, that is at most n is at most what is kept of n
pub kept_largest : (n m j : ℕ) → m < 2 ^ 53 → m * 2 ^ j ≤ n → m * 2 ^ j ≤ kept n
kept_largest n m j hm h = ⊎_elim short whole (cases_lt j (size n - 53))
  where
    split : (k : ℕ) → k ≤ j → m * 2 ^ j ≡ m * 2 ^ (j - k) * 2 ^ k
    split k l = ap (λ (x : ℕ). m * 2 ^ x) (back j k l) ∙ ap (λ (x : ℕ). m * x) (pow-add 2 (j - k) k) ∙ sym (mul_assoc m (2 ^ (j - k)) (2 ^ k))
      where
        back : (a b : ℕ) → b ≤ a → a ≡ a - b + b
        back a b l = omega arith

    whole : size n - 53 ≤ j → m * 2 ^ j ≤ kept n
    whole l =
        let k = size n - 53 in
        le_trans (le_of_eq (split k l)) (mul-le-mul_right (2 ^ k) ((le-div_iff_mul-le (pow_pos k)).1 (le_trans (le_of_eq (sym (split k l))) h)))

    short : j < size n - 53 → m * 2 ^ j ≤ kept n
    short l = go (size n) refl
      where
        go : (d : ℕ) → size n ≡ d → m * 2 ^ j ≤ kept n
        go zero e = absurd (none (size n) e l)
          where
            none : (a : ℕ) → a ≡ 0 → j < a - 53 → ⊥
            none a e l = omega arith
        go (suc z) e =
            le_trans (le_of_lt (mul-lt-mul_of_pos_right hm (pow_pos j)))
            (le_trans (le_trans (le_of_eq (sym (pow-add 2 53 j))) (pow_mono (deep (size n) z e l))) (kept_reaches n z e (size_reaches n z (le_of_eq (sym e)))))
          where
            deep : (a z : ℕ) → a ≡ suc z → j < a - 53 → 53 + j ≤ z
            deep a z e l = omega arith
