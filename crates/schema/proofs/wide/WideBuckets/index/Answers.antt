use Rattle.std.proofs.Common.{◌≡◌, ℕ, ◌-◌, ◌^◌, ◌<◌, ◌≤◌, ℤ, pos, negsuc, ◌+ℤ◌, ◌-ℤ◌, ◌≤ℤ◌, sym, ap, ◌∙◌, ap₂, arith, pow_pos, w32, SFits, to_z, of_z, rules}
use borrow.Author.Differences.{ints}
use Rattle.std.specs.Int.{int_div_euclid}
use Rattle.std.proofs.lemmas.Int.{to_z-of_z}
use Rattle.index.specs.Index.{quotient}
use Rattle.schema.proofs.Reading.{few_octaves, finite_wide, quotient_is}
use Rattle.schema.proofs.wide.WideBuckets.index.Goals as goal

-- the index at schema 0, and the width less one
sum_is : (t w : ℤ) (d : ℕ) → negsuc 275199 ≤ℤ t → t ≤ℤ pos 262144 → w ≡ pos d → 0 < d → d ≤ 16 → to_z w32 (of_z w32 (to_z w32 (of_z w32 t) +ℤ to_z w32 (of_z w32 (to_z w32 (of_z w32 w) -ℤ pos 1)))) ≡ t +ℤ pos (d - 1)
sum_is t w d l h e some few = omega (arith, ints)

width_is : (w : ℤ) (d : ℕ) → w ≡ pos d → d ≤ 16 → to_z w32 (of_z w32 w) ≡ pos d
width_is w d e few = omega (arith, ints)

pub returns-clause-value : goal.returns-clause-value
returns-clause-value c =
    let n = c.args.self.doublings in
    let t = c.index-at_zero.ensures in
    let f : SFits w32 c.div_euclid.result = search rules in
    to_z-of_z w32 c.div_euclid.result f ∙ c.div_euclid.ensures
    ∙ ap₂ int_div_euclid (sum_is _ _ _ t.range.0 t.range.1 c.octaves-width.ensures (pow_pos n) (few_octaves n c.args.self.few)) (width_is _ _ c.octaves-width.ensures (few_octaves n c.args.self.few))
    ∙ quotient_is _ (2 ^ n)
    ∙ ap (λ (z : ℤ). quotient (2 ^ n) (z +ℤ pos (2 ^ n - 1))) t.value
    ∙ sym (finite_wide n c.args.v c.args.self.some)
