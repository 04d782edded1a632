use Rattle.std.proofs.Common.{◌≡◌, ℕ, ◌+◌, get_or, drop, ℤ, pos, ◌+ℤ◌, ◌≤ℤ◌, Some, sym, ap, ◌∙◌, arith, w64, SFits, to_z, of_z, rules}
use mir.Syntax.{w128}
use Rattle.std.proofs.lemmas.List.{at_drop_all}
use Rattle.std.proofs.lemmas.Int.{ints, to_z_pos}
use Rattle.std.proofs.lemmas.Bool.{cond-true, cond-false}
use Rattle.span.specs.Reading.{countable, counts_refusal}
use Rattle.span.proofs.Checks.{counts_step, count_low, count_high}
use Rattle.span.proofs.opening.check_counts.Goals as goal

-- the sum as the machine has it
sum_is : (before d x : ℤ) → pos 0 ≤ℤ before → before ≤ℤ pos 9223372036854775807 → SFits w64 d → x ≡ d → to_z w128 (of_z w128 (before +ℤ to_z w128 (of_z w128 x))) ≡ before +ℤ d
sum_is before d x a b f e = omega (arith, ints)

pub returns-then-not-is_count : goal.returns-then-not-is_count
returns-then-not-is_count c =
    let ds = c.args.deltas.now in
    let n : ℕ = c.loop-number.number in
    let f : SFits w64 (get_or c.args.deltas.now c.loop-number.number (pos 0)) = search rules in
    let x : c.from-count.result ≡ get_or ds n (pos 0) = search rules in
    let e = sum_is _ (get_or ds n (pos 0)) c.from-count.result c.loop-number.invariant.1 c.loop-number.invariant.2 f x in
    let t = ap countable (sym e) ∙ sym c.is_count.ensures ∙ c.if-not-is_count.true in
    ap (λ z. Some (15, z)) (to_z_pos w64 n (omega arith))
    ∙ sym (sym c.loop-number.invariant.0 ∙ counts_step ds n _ (pos 0) c.loop-number-test.true ∙ cond-false _ _ _ t)

pub loop-number-preserved : goal.loop-number-preserved
loop-number-preserved c =
    let ds = c.args.deltas.now in
    let n : ℕ = c.loop-number.number in
    let f : SFits w64 (get_or c.args.deltas.now c.loop-number.number (pos 0)) = search rules in
    let x : c.from-count.result ≡ get_or ds n (pos 0) = search rules in
    let e = sum_is _ (get_or ds n (pos 0)) c.from-count.result c.loop-number.invariant.1 c.loop-number.invariant.2 f x in
    let t = sym c.is_count.ensures ∙ c.if-not-is_count.false in (
      ap (λ z. counts_refusal (n + 1) z (drop (n + 1) ds)) e
          ∙ sym (cond-true _ _ _ (ap countable (sym e) ∙ t))
          ∙ sym (counts_step ds n _ (pos 0) c.loop-number-test.true)
          ∙ c.loop-number.invariant.0,
      count_low _ t,
      count_high _ t,
    )

pub returns : goal.returns
returns c =
    sym
    (sym c.loop-number.invariant.0
    ∙ at_drop_all (counts_refusal c.loop-number.number _) c.args.deltas.now c.loop-number.number c.loop-number-test.false)
