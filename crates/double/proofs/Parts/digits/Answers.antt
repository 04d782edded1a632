use Rattle.std.proofs.Common.{arith}
use lib.Ieee.Digits.{size-le}
use Rattle.double.proofs.Fraction.{digits_of}
use Rattle.double.proofs.Parts.digits.Goals as goal

pub returns : goal.returns
returns c =
    let m = c.args.self.mantissa in
    let d = digits_of m c.args.self.nonzero (omega arith) in
    record { value = d; few = omega (arith, d, size-le m 53 c.args.self.digits) }
