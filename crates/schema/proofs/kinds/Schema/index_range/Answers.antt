use Rattle.std.proofs.Common.{◌≡◌, ℤ, pos, ◌+ℤ◌, ap, ◌∙◌, arith}
use borrow.Author.Differences.{ints}
use lib.Ieee.{of_bits}
use Rattle.double.proofs.Fraction.{no_nan}
use Rattle.schema.specs.Bounds.{finite_index, lowest_index, highest_index}
use Rattle.schema.proofs.Reading.{smallest_bits, largest_bits}
use Rattle.schema.proofs.Ends.{schema_ends}
use Rattle.schema.proofs.kinds.Schema.index_range.Goals as goal

pub float_from_bits-finite_index : goal.float_from_bits-finite_index
float_from_bits-finite_index c = no_nan 1 (omega arith)

pub finite_index-requires : goal.finite_index-requires
unfolding of_bits
finite_index-requires c = tt

pub finite_index-requires-2 : goal.finite_index-requires-2
unfolding of_bits
finite_index-requires-2 c = tt

pub returns : goal.returns
returns c =
    let s = c.args.self.value in
    let e = schema_ends s c.args.self.known in
    let low : c.finite_index.result ≡ lowest_index s = c.finite_index.ensures.value ∙ ap (finite_index s) smallest_bits ∙ e.bottom in
    let high : c.finite_index-2.result +ℤ pos 1 ≡ highest_index s = ap (λ (z : ℤ). z +ℤ pos 1) (c.finite_index-2.ensures.value ∙ ap (finite_index s) largest_bits) ∙ e.top in
    let low_range = c.finite_index.ensures.range in
    let high_range = c.finite_index-2.ensures.range in
    record { lowest = omega (arith, ints); highest = omega (arith, ints); reached = record { lowest = e.bottom; highest = e.top } }
