-- The order of the numbers: each is the xorshift step of the one before.
use Rattle.std.specs.Prelude.{ℕ, ◌*◌, ◌/◌, ◌%◌, ◌^◌, bit_xor}

-- in which of 64 binary places x and x moved up by k places differ
abbrev pub mixed_up : ℕ → ℕ → ℕ
mixed_up k x = bit_xor x (x * 2 ^ k % 2 ^ 64)

-- in which binary places x and x moved down by k places differ
abbrev pub mixed_down : ℕ → ℕ → ℕ
mixed_down k x = bit_xor x (x / 2 ^ k)

-- the number after x: mixed up by 13 places, down by 7 and up by 17
abbrev pub step : ℕ → ℕ
step x = mixed_up 17 (mixed_down 7 (mixed_up 13 x))
