-- n × 2^x, cut to a whole number.
use Rattle.std.proofs.Common.{◌≡◌, ℕ, suc, ◌+◌, ◌-◌, ◌*◌, ◌^◌, ◌<◌, ◌≤◌, Bool, true, false, cond, ltb, ℤ, pos, negsuc, ◌+ℤ◌, sym, refl, ap, ◌∙◌, le_trans, le_of_eq, lt_of_lt_of_le, mul-le-mul_right, mul_assoc, div-lt_iff_lt-mul, mul-lt-mul_of_pos_right, one-mul, le-div_iff_mul-le, mul-one, mul_right_comm, arith, pow-add, ltb-false, ltb-true}
use native.Mathlib.Nat.{eq_of_mul-eq-mul_right}
use lib.Ieee.{up, down}
use lib.Ieee.Fits.{up_pos, down_pos}
use lib.Ieee.Nearest.{div_mono, div_same}
use Rattle.schema.specs.Bounds.{scaled}

-- 2^(x + k) is 2^x × 2^k
pub powers : (x : ℤ) (k : ℕ) → up (x +ℤ pos k) * down x ≡ up x * 2 ^ k * down (x +ℤ pos k)
powers (pos p) k = ap (λ (z : ℕ). z * 1) (pow-add 2 p k)
powers (negsuc p) k = go (ltb k (suc p)) refl
  where
    go : (b : Bool) → ltb k (suc p) ≡ b → up (cond b (negsuc (suc p - suc k)) (pos (k - suc p))) * 2 ^ suc p ≡ 1 * 2 ^ k * down (cond b (negsuc (suc p - suc k)) (pos (k - suc p)))
    go true e = ap (λ (z : ℕ). 1 * 2 ^ z) (places (ltb-true k (suc p) e)) ∙ ap (λ (z : ℕ). 1 * z) (pow-add 2 k (suc (suc p - suc k))) ∙ sym (mul_assoc 1 (2 ^ k) (2 ^ suc (suc p - suc k)))
      where
        places : k < suc p → suc p ≡ k + suc (suc p - suc k)
        places h = omega arith
    go false e = sym (pow-add 2 (k - suc p) (suc p)) ∙ ap (λ (z : ℕ). 2 ^ z) (places (ltb-false k (suc p) e)) ∙ sym (mul-one (1 * 2 ^ k) ∙ one-mul (2 ^ k))
      where
        places : suc p ≤ k → k - suc p + suc p ≡ k
        places h = omega arith

-- so n × 2^(x + k) is (n × 2^k) × 2^x
moved : (n : ℕ) (x : ℤ) (k : ℕ) → n * up (x +ℤ pos k) * down x ≡ n * 2 ^ k * up x * down (x +ℤ pos k)
moved n x k = mul_assoc n (up (x +ℤ pos k)) (down x) ∙ ap (λ (z : ℕ). n * z) (powers x k) ∙ regroup n (up x) (2 ^ k) (down (x +ℤ pos k))
  where
    regroup : (a b c d : ℕ) → a * (b * c * d) ≡ a * c * b * d
    regroup a b c d = sym (mul_assoc a (b * c) d) ∙ ap (λ (z : ℕ). z * d) (sym (mul_assoc a b c) ∙ mul_right_comm a b c)

pub scaled_shift : (n : ℕ) (x : ℤ) (k : ℕ) → scaled n (x +ℤ pos k) ≡ scaled (n * 2 ^ k) x
scaled_shift n x k = div_same (n * up (x +ℤ pos k)) (down (x +ℤ pos k)) (n * 2 ^ k * up x) (down x) (down_pos (x +ℤ pos k)) (down_pos x) (moved n x k)

pub scaled_mono : (n m : ℕ) (x : ℤ) → n ≤ m → scaled n x ≤ scaled m x
scaled_mono n m x h = div_mono (n * up x) (down x) (m * up x) (down x) (down_pos x) (down_pos x) (mul-le-mul_right (down x) (mul-le-mul_right (up x) h))

-- u is n × 2^x, exactly
abbrev pub Exactly : ℕ → ℕ → ℤ → Type 0
Exactly u n x = u * down x ≡ n * up x

pub exactly_within : (u n b : ℕ) (x : ℤ) → Exactly u n x → n ≤ b → u ≤ scaled b x
exactly_within u n b x e h = (le-div_iff_mul-le (down_pos x)).1 (le_trans (le_of_eq e) (mul-le-mul_right (up x) h))

pub exactly_above : (u n b : ℕ) (x : ℤ) → Exactly u n x → b < n → scaled b x < u
exactly_above u n b x e h = (div-lt_iff_lt-mul (down_pos x)).1 (lt_of_lt_of_le (mul-lt-mul_of_pos_right h (up_pos x)) (le_of_eq (sym e)))

pub exactly_shift : (u n : ℕ) (x : ℤ) (k : ℕ) → Exactly u n (x +ℤ pos k) → Exactly u (n * 2 ^ k) x
exactly_shift u n x k e =
    eq_of_mul-eq-mul_right (down (x +ℤ pos k)) (down_pos (x +ℤ pos k)) (u * down x) (n * 2 ^ k * up x)
    (mul_right_comm u (down x) (down (x +ℤ pos k)) ∙ ap (λ (z : ℕ). z * down x) e ∙ moved n x k)

pub exactly_unshift : (u n : ℕ) (x : ℤ) (k : ℕ) → Exactly u (n * 2 ^ k) x → Exactly u n (x +ℤ pos k)
exactly_unshift u n x k e =
    eq_of_mul-eq-mul_right (down x) (down_pos x) (u * down (x +ℤ pos k)) (n * up (x +ℤ pos k))
    (mul_right_comm u (down (x +ℤ pos k)) (down x) ∙ ap (λ (z : ℕ). z * down (x +ℤ pos k)) e ∙ sym (moved n x k))
