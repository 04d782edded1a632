use Rattle.std.proofs.Common.{◌≡◌, ℤ, pos, ◌+ℤ◌, sym, ap, ap₂, ◌∙◌, w32, w64, SFits, to_z, of_z, arith, rules, ℕ}
use borrow.Author.Differences.{ints}
use Rattle.std.proofs.lemmas.Int.{to_z-of_z}
use Rattle.double.specs.Double.{largest}
use Rattle.schema.specs.Tables.{entry}
use Rattle.schema.specs.Bounds.{scaled}
use Rattle.schema.proofs.Reading.{cut_table}
use Rattle.schema.proofs.tables.OctaveTable.bound.Goals as goal

-- the octave after this one
next : (o f : ℤ) → SFits w32 o → f ≡ to_z w32 (of_z w32 o) → to_z w64 (of_z w64 (to_z w64 (of_z w64 f) +ℤ pos 1)) ≡ o +ℤ pos 1
next o f h e = omega (arith, ints)

pub returns : goal.returns
returns c =
    let fi = c.ranges.index in
    let fo : SFits w32 c.octave-octave.result.0 = search rules in
    let q = simp to_z-of_z at c.octave-octave.ensures.octave in
    let p = simp to_z-of_z at c.octave-octave.ensures.place in
    c.scale.ensures
    ∙ ap₂ (λ (n : ℕ) (x : ℤ). largest (scaled n (x +ℤ pos 1021))) (c.mantissa.ensures.value ∙ ap (entry c.args.self.schema) p) (next _ _ fo c.from.ensures ∙ ap (λ (z : ℤ). z +ℤ pos 1) q)
    ∙ ap largest (sym (cut_table c.args.self.schema c.args.index))
