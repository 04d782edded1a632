use Rattle.std.proofs.Common.{◌≡◌, ℤ, pos, ◌+ℤ◌, ◌<ℤ◌, sym, ap, ◌∙◌, arith, rules, w8, to_z, of_z}
use borrow.Author.Differences.{ints}
use lib.Ieee.{Float, le}
use Rattle.std.proofs.lemmas.Float.{T_from_true}
use Rattle.schema.proofs.Fitting.{fitting_from, found_later, begins}
use Rattle.schema.proofs.choice.first_fitting.Goals as goal

pub loop-value-init : goal.loop-value-init
loop-value-init c = record { low = search rules; high = search rules; rest = begins c.args.factor }

pub loop-value-preserved : goal.loop-value-preserved
loop-value-preserved c =
    let s = to_z w8 c.loop-value.value-bits in
    let f = c.args.factor in
    let l : s <ℤ pos 8 = record { lt = T_from_true _ c.loop-value-test.true } in
    let e : s +ℤ pos 1 ≡ to_z w8 (of_z w8 (s +ℤ pos 1)) = omega (arith, ints) in
    record {
      low = omega (arith, ints);
      high = omega (arith, ints);
      rest = c.loop-value.invariant.rest ∙ found_later s f l (ap (λ (x : Float). le x f) (sym c.positive_upper_bound.ensures.value) ∙ c.if-positive_upper_bound-factor.false) ∙ ap (λ (z : ℤ). fitting_from z f) e;
    }
