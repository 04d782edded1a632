use Rattle.std.proofs.Common.{◌≡◌, ℕ, ◌^◌, ◌≤◌, ℤ, pos, negsuc, ◌+ℤ◌, ◌*ℤ◌, ◌≤ℤ◌, sym, ap, ◌∙◌, arith, lit<, lit≤, w32, w64, SFits, to_z, of_z, rules}
use borrow.Author.Differences.{ints}
use Rattle.double.specs.Double.{largest}
use Rattle.schema.specs.Bounds.{scaled}
use Rattle.schema.proofs.Divide.{product_range}
use Rattle.schema.proofs.Reading.{cut_powers, few_octaves}
use Rattle.schema.proofs.wide.WideBuckets.bound.Goals as goal

record Power (i p : ℤ) (d : ℕ) : Type 0 where
  pub is : p ≡ i *ℤ pos d +ℤ pos 1
  pub least : negsuc 1099511627776 ≤ℤ p
  pub most : p ≤ℤ pos 1099511627776

power : (x y i : ℤ) (d : ℕ) → SFits w32 i → x ≡ i → y ≡ pos d → d ≤ 16 → Power i (to_z w64 (of_z w64 (to_z w64 (of_z w64 (x *ℤ y)) +ℤ pos 1))) d
power x y i d f p q few =
    let r = product_range i d 2147483648 2147483648 16 (omega (arith, ints)) (omega (arith, ints)) few in
    rw (p, q) (record { is = omega (arith, ints); least = omega (arith, ints); most = omega (arith, ints) })

widened : (i f : ℤ) → SFits w32 i → f ≡ to_z w32 (of_z w32 i) → to_z w64 (of_z w64 f) ≡ i
widened i f h e = omega (arith, ints)

pub scale-requires : goal.scale-requires
scale-requires c =
    let o : SFits w32 c.octaves.result = search rules in
    let few = few_octaves c.args.self.doublings c.args.self.few in
    let left = widened _ _ c.ranges.index c.from.ensures in
    let right = widened _ _ o c.from-2.ensures ∙ c.octaves.ensures in
    record {
      low = lit≤ tt;
      high = lit< tt;
      least = (power _ _ _ _ c.ranges.index left right few).least;
      most = (power _ _ _ _ c.ranges.index left right few).most;
    }

pub returns : goal.returns
returns c =
    let o : SFits w32 c.octaves.result = search rules in
    let few = few_octaves c.args.self.doublings c.args.self.few in
    let left = widened _ _ c.ranges.index c.from.ensures in
    let right = widened _ _ o c.from-2.ensures ∙ c.octaves.ensures in
    c.scale.ensures
    ∙ ap (λ (x : ℤ). largest (scaled (2 ^ 52) (x +ℤ pos 1021))) (power _ _ _ _ c.ranges.index left right few).is
    ∙ ap largest (sym (cut_powers c.args.self.doublings c.args.index c.args.self.some))
