use Rattle.std.proofs.Common.{ℕ, ◌/◌, ◌^◌, pos, ◌+ℤ◌, ap, ◌∙◌, le_trans, div-le_self, arith}
use borrow.Author.Differences.{ints}
use lib.Ieee.{binary64, of_bits}
use Rattle.double.proofs.Fraction.{no_nan}
use Rattle.schema.proofs.Made.{made_huge, made_above, made_top, made_normal, made_small, made_zero}
use Rattle.schema.proofs.scale.scale.Goals as goal

pub returns-in-2047-to-9223372036854775807 : goal.returns-in-2047-to-9223372036854775807
returns-in-2047-to-9223372036854775807 c = made_huge c.args.mantissa (c.args.power +ℤ pos 1021) c.requires.low (grind (arith, ints))

pub returns-in-2046 : goal.returns-in-2046
returns-in-2046 c = made_above c.args.mantissa (c.args.power +ℤ pos 1021) (grind (arith, ints)) (grind (arith, ints))

pub returns-in-2046-2 : goal.returns-in-2046-2
returns-in-2046-2 c = made_top c.args.mantissa (c.args.power +ℤ pos 1021) c.requires.low (grind (arith, ints)) (grind (arith, ints))

pub float_from_bits-result-in-0-to-9223372036854775807 : goal.float_from_bits-result-in-0-to-9223372036854775807
float_from_bits-result-in-0-to-9223372036854775807 c = no_nan _ (omega (arith, ints))

pub returns-in-0-to-9223372036854775807 : goal.returns-in-0-to-9223372036854775807
returns-in-0-to-9223372036854775807 c = ap (of_bits binary64) (grind (arith, ints)) ∙ made_normal c.args.mantissa (c.args.power +ℤ pos 1021) c.requires.low c.requires.high (grind (arith, ints)) (grind (arith, ints))

pub float_from_bits-result : goal.float_from_bits-result
float_from_bits-result c = no_nan _ (le_trans (div-le_self c.args.mantissa _) (omega (arith, c.requires.high)))

pub returns-in-minus52-to-9223372036854775807 : goal.returns-in-minus52-to-9223372036854775807
returns-in-minus52-to-9223372036854775807 c = ap (λ (k : ℕ). of_bits binary64 (c.args.mantissa / 2 ^ k)) (grind (arith, ints)) ∙ made_small c.args.mantissa (c.args.power +ℤ pos 1021) c.requires.high (grind (arith, ints))

pub returns-in_default : goal.returns-in_default
returns-in_default c = made_zero c.args.mantissa (c.args.power +ℤ pos 1021) c.requires.high (grind (arith, ints))
