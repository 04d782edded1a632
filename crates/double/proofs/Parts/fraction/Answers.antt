use Rattle.std.proofs.Common.{◌≡◌, ℕ, ◌+◌, ◌-◌, ◌*◌, ◌%◌, ◌^◌, ◌<◌, ap, ◌∙◌, arith}
use lib.Ieee.{size, binary64, of_bits}
use Rattle.double.proofs.Fraction.{full, full_lt, no_nan}
use Rattle.double.proofs.Parts.fraction.Goals as goal

-- the shift drops no digit
shifted : (m d : ℕ) → d ≡ size m → m < 2 ^ 53 → m * 2 ^ (53 - d) % 2 ^ 64 ≡ full m
shifted m d e h = ap (λ (z : ℕ). m * 2 ^ (53 - z) % 2 ^ 64) e ∙ whole (full m) (full_lt m h)
  where
    whole : (x : ℕ) → x < 2 ^ 53 → x % 2 ^ 64 ≡ x
    whole x h = omega arith

pub overflow_add-result : goal.overflow_add-result
overflow_add-result c = record { fits = omega (arith, shifted _ _ c.digits.ensures.value c.args.self.digits, full_lt c.args.self.mantissa c.args.self.digits) }

pub float_from_bits-result : goal.float_from_bits-result
float_from_bits-result c = no_nan _ (omega (arith, shifted _ _ c.digits.ensures.value c.args.self.digits, full_lt c.args.self.mantissa c.args.self.digits))

pub returns : goal.returns
returns c = ap (λ (x : ℕ). of_bits binary64 (1021 * 2 ^ 52 + x)) (shifted _ _ c.digits.ensures.value c.args.self.digits)
