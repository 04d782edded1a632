use Rattle.std.proofs.Common.{◌≡◌, ℕ, ◌+◌, ◌-◌, ◌/◌, true, false, length, get_or, ℤ, pos, ◌<ℤ◌, sym, ap, ◌∙◌, subst, inl, inr, arith, w32, SFits, to_z, of_z, rules}
use lib.Signed.{lt_z}
use Rattle.std.proofs.lemmas.List.{length-take-le}
use Rattle.std.proofs.lemmas.Int.{ints, to_z-of_z}
use Rattle.std.proofs.lemmas.Bool.{both_ways}
use Rattle.store.proofs.Order.{cases_index, below_lt_z}
use Rattle.row.specs.Rows.{row_pairs}
use Rattle.row.proofs.Places.{place_within, place_listed}
use Rattle.row.proofs.Steps.{front_above, front_at, front_before, sought_listed}
use Rattle.row.proofs.Row.search.Goals as goal

pub loop-low-init : goal.loop-low-init
loop-low-init c =
    let i : ℤ = to_z w32 (of_z w32 c.args.index) in
    let ps = row_pairs c.args.self.now in
    let n : length ps ≡ c.args.self.now.size = length-take-le _ _ (omega arith) in
    let w = place_within i ps in
    (omega arith, omega arith, omega arith, λ e. let l = place_listed i ps e in omega arith)

-- the tests on an index that was read, x, and the index that is sought, i
less : (x i : ℤ) → SFits w32 x → lt_z (to_z w32 (of_z w32 x)) i ≡ true → x <ℤ i
less x i f t = let t' = subst (λ z. lt_z z i ≡ true) (to_z-of_z w32 x f) t in grind (arith, ints)

more : (x i : ℤ) → SFits w32 x → SFits w32 i → (of_z w32 x ≡ of_z w32 i → ⊥) → lt_z (to_z w32 (of_z w32 x)) (to_z w32 (of_z w32 i)) ≡ false → to_z w32 (of_z w32 i) <ℤ x
more x i f g n t =
    let j : ℤ = to_z w32 (of_z w32 i) in
    let t' = subst (λ z. lt_z z j ≡ false) (to_z-of_z w32 x f) t in
    elim (cases_index x j) [
      | inl l ↦ absurd (both_ways (lt_z x j) t' (below_lt_z x j l))
      | inr m ↦ elim m [ inl e ↦ absurd (n (ap (of_z w32) (e ∙ to_z-of_z w32 i g))) | inr l ↦ l ]
    ]

pub returns-then-here-index : goal.returns-then-here-index
returns-then-here-index c =
    let xs = c.args.self.now.pairs in
    let k : ℕ = c.loop-low.low + (c.loop-low.high - c.loop-low.low) / 2 in
    let f : SFits w32 (get_or xs k (pos 0, 0)).0 = search rules in
    let e : (get_or xs k (pos 0, 0)).0 ≡ c.args.index =
    sym (to_z-of_z w32 _ f) ∙ ap (to_z w32) c.if-here-index.true ∙ to_z-of_z w32 _ c.ranges.index in
    sought_listed _ _ k (front_at c.args.index xs c.args.self.now.size k (pos 0, 0) c.args.self.now.rises (omega arith) (omega arith) e)

pub loop-low-preserved-then-here-index-2 : goal.loop-low-preserved-then-here-index-2
loop-low-preserved-then-here-index-2 c =
    let xs = c.args.self.now.pairs in
    let k : ℕ = c.loop-low.low + (c.loop-low.high - c.loop-low.low) / 2 in
    let i : ℤ = to_z w32 (of_z w32 c.args.index) in
    let f : SFits w32 (get_or xs k (pos 0, 0)).0 = search rules in
    let l : (get_or xs k (pos 0, 0)).0 <ℤ i = less _ _ f c.if-here-index-2.true in
    let p = front_above i xs c.args.self.now.size k (pos 0, 0) c.args.self.now.rises (omega arith) (omega arith) l in
    (omega arith, omega arith, omega arith, c.loop-low.invariant.3)

pub loop-low-preserved : goal.loop-low-preserved
loop-low-preserved c =
    let xs = c.args.self.now.pairs in
    let k : ℕ = c.loop-low.low + (c.loop-low.high - c.loop-low.low) / 2 in
    let i : ℤ = to_z w32 (of_z w32 c.args.index) in
    let f : SFits w32 (get_or xs k (pos 0, 0)).0 = search rules in
    let l : i <ℤ (get_or xs k (pos 0, 0)).0 =
    more _ c.args.index f c.ranges.index c.if-here-index.false c.if-here-index-2.false in
    let p = front_before i xs c.args.self.now.size k (pos 0, 0) c.args.self.now.rises (omega arith) (omega arith) l in
    (c.loop-low.invariant.0, p.upto, omega arith, p.if_listed)
