-- Only 0 is followed by 0.
use Rattle.std.proofs.Common.{◌≡◌, ℕ, ◌^◌, ◌<◌, ◌*◌, ◌/◌, ◌%◌, bit_xor, arith}
use Rattle.std.specs.Int.Bits.{xor_add_and}
use Rattle.std.proofs.lemmas.Nat.{and_le_l, and_le_r, xor_lt}
use Rattle.random.specs.Xorshift.{mixed_up, mixed_down, step}

xor_zero : (a b : ℕ) → bit_xor a b ≡ 0 → a ≡ b
xor_zero a b e = omega (arith, xor_add_and a b, and_le_l a b, and_le_r a b)

up_13 : (x : ℕ) → x < 2 ^ 64 → mixed_up 13 x ≡ 0 → x ≡ 0
up_13 x l e = let h = xor_zero x (x * 2 ^ 13 % 2 ^ 64) e in omega arith

up_17 : (x : ℕ) → x < 2 ^ 64 → mixed_up 17 x ≡ 0 → x ≡ 0
up_17 x l e = let h = xor_zero x (x * 2 ^ 17 % 2 ^ 64) e in omega arith

down_7 : (x : ℕ) → mixed_down 7 x ≡ 0 → x ≡ 0
down_7 x e = let h = xor_zero x (x / 2 ^ 7) e in omega arith

up_below : (k x : ℕ) → x < 2 ^ 64 → mixed_up k x < 2 ^ 64
up_below k x l = xor_lt 64 x (x * 2 ^ k % 2 ^ 64) l (omega arith)

down_below : (x : ℕ) → x < 2 ^ 64 → mixed_down 7 x < 2 ^ 64
down_below x l = xor_lt 64 x (x / 2 ^ 7) l (omega arith)

pub zero_before_zero : (x : ℕ) → x < 2 ^ 64 → step x ≡ 0 → x ≡ 0
zero_before_zero x l e =
    let y = mixed_up 13 x in
    let m = up_below 13 x l in
    up_13 x l (down_7 y (up_17 (mixed_down 7 y) (down_below y m) e))
