use Rattle.std.proofs.Common.{◌≡◌, ℕ, ◌+◌, ◌-◌, ◌/◌, ap₂, ◌^◌, ◌≤◌, T, List, length, ℤ, pos, negsuc, ◌+ℤ◌, ◌-ℤ◌, ◌*ℤ◌, ◌≤ℤ◌, ap, ◌∙◌, sym, subst, arith, w32, SFits, to_z, of_z}
use borrow.Author.Differences.{ints}
use Rattle.std.specs.List.Sorted.{IsPartitionedBy}
use lib.Ieee.{Float, lt, fits, binary64}
use Rattle.std.proofs.lemmas.Float.{T_from_true}
use Rattle.double.specs.Double.{fraction, finite_nonzero}
use Rattle.double.proofs.Fraction.{Normal, split_normal}
use Rattle.schema.specs.Bounds.{entries_below}
use Rattle.schema.specs.Tables.{table, doubles}
use Rattle.schema.proofs.Divide.{product_range}
use Rattle.schema.proofs.Search.{below_first, place_counts, below_middle, above_middle, few_entries}
use Rattle.schema.proofs.tables.OctaveTable.index.Goals as goal

count_is : (b : ℤ) (d : ℕ) → b ≡ pos d → d ≤ 256 → to_z w32 (of_z w32 b) ≡ pos d
count_is b d e few = omega (arith, ints)

-- the fraction of v, as it is compared
record Compared (bs : List Float) (a : ℕ) (f : Float) : Type 0 where
  pub n : ℕ
  pub normal : Normal f n
  pub parted : IsPartitionedBy (λ x. lt x f) bs

compared : (a : ℕ) (bs : List Float) (v f : Float) → f ≡ fraction v → T (fits binary64 v) → T (finite_nonzero v) → bs ≡ doubles (table a) → length bs ≡ 2 ^ a → a ≤ 8 → Compared bs a f
compared a bs v f e h g same long known =
    let t = split_normal v h g in
    let p = subst (λ (y : Float). Normal y t.n) (sym e) t.normal in
    record { n = t.n; normal = p; parted = below_first a bs f t.n same long known p }

-- an octave, times the buckets of one, and a place
fits_product : (x y : ℤ) (d : ℕ) → negsuc 9999 ≤ℤ x → x ≤ℤ pos 9999 → y ≡ pos d → d ≤ 256 → SFits w32 (x *ℤ y)
fits_product x y d l h e few =
    let r = product_range x d 10000 9999 256 (omega (arith, ints)) (omega (arith, ints)) few in
    rw e (omega (arith, ints))

fits_sum : (x y : ℤ) (d place : ℕ) → negsuc 9999 ≤ℤ x → x ≤ℤ pos 9999 → y ≡ pos d → d ≤ 256 → place ≤ d → SFits w32 (to_z w32 (of_z w32 (x *ℤ y)) +ℤ to_z w32 place)
fits_sum x y d place l h e few within =
    let r = product_range x d 10000 9999 256 (omega (arith, ints)) (omega (arith, ints)) few in
    rw e (omega (arith, ints))

record Sum (e : ℤ) (d place : ℕ) (r : ℤ) : Type 0 where
  pub is : r ≡ (e -ℤ pos 1) *ℤ pos d +ℤ pos place
  pub range : (negsuc 275199 ≤ℤ r) × (r ≤ℤ pos 262144)

sum : (x y e : ℤ) (d place : ℕ) → x ≡ e -ℤ pos 1 → y ≡ pos d → negsuc 1073 ≤ℤ e → e ≤ℤ pos 1024 → d ≤ 256 → place ≤ d
    → Sum e d place (to_z w32 (of_z w32 (to_z w32 (of_z w32 (x *ℤ y)) +ℤ to_z w32 place)))
sum x y e d place p q l h few within =
    let r = product_range (e -ℤ pos 1) d 1075 1023 256 (omega (arith, ints)) (omega (arith, ints)) few in
    rw (p, q) (record { is = omega (arith, ints); range = (omega (arith, ints), omega (arith, ints)) })

pub loop-low-preserved-then-bounds-middle : goal.loop-low-preserved-then-bounds-middle
loop-low-preserved-then-bounds-middle c =
    let bounds = c.entries-bounds in
    let x = compared c.args.self.schema bounds.result.now c.args.v c.frexp-fraction.result.0 (ap (λ (p : Float × ℤ). p.0) c.frexp-fraction.ensures.value) (T_from_true _ c.well_formed.1.0.1) c.requires bounds.ensures.value bounds.ensures.long c.args.self.known in
    let searched = c.loop-low.invariant in
    let more = c.loop-low-test.true in
    record {
      ordered = omega arith;
      inside = searched.inside;
      before = below_middle bounds.result.now c.frexp-fraction.result.0 x.parted (c.loop-low.low + (c.loop-low.high - c.loop-low.low) / 2) (omega arith) c.if-bounds-middle.true;
      after = searched.after;
    }

pub loop-low-preserved : goal.loop-low-preserved
loop-low-preserved c =
    let bounds = c.entries-bounds in
    let x = compared c.args.self.schema bounds.result.now c.args.v c.frexp-fraction.result.0 (ap (λ (p : Float × ℤ). p.0) c.frexp-fraction.ensures.value) (T_from_true _ c.well_formed.1.0.1) c.requires bounds.ensures.value bounds.ensures.long c.args.self.known in
    let searched = c.loop-low.invariant in
    let more = c.loop-low-test.true in
    record {
      ordered = omega arith;
      inside = omega arith;
      before = searched.before;
      after = above_middle bounds.result.now c.frexp-fraction.result.0 x.parted (c.loop-low.low + (c.loop-low.high - c.loop-low.low) / 2) (omega arith) c.if-bounds-middle.false;
    }

pub overflow_mul-result : goal.overflow_mul-result
overflow_mul-result c =
    let few = few_entries c.args.self.schema c.args.self.known in
    let r = c.frexp-fraction.ensures.range in
    fits_product _ _ _ (omega (arith, ints)) (omega (arith, ints)) (count_is _ _ c.buckets.ensures.value few) few

pub overflow_add-result : goal.overflow_add-result
overflow_add-result c =
    let few = few_entries c.args.self.schema c.args.self.known in
    let r = c.frexp-fraction.ensures.range in
    let searched = c.loop-low.invariant in
    let long = c.entries-bounds.ensures.long in
    fits_sum _ _ _ c.loop-low.low (omega (arith, ints)) (omega (arith, ints)) (count_is _ _ c.buckets.ensures.value few) few (omega arith)

pub returns : goal.returns
returns c =
    let a = c.args.self.schema in
    let known = c.args.self.known in
    let place = c.loop-low.low in
    let searched = c.loop-low.invariant in
    let e = c.entries-bounds.ensures in
    let x = c.frexp-fraction.ensures in
    let f = c.frexp-fraction.result.0 in
    let y = compared a c.entries-bounds.result.now c.args.v f (ap (λ (p : Float × ℤ). p.0) x.value) (T_from_true _ c.well_formed.1.0.1) c.requires e.value e.long known in
    let counted : entries_below f (table a) ≡ place = place_counts a _ f y.n place e.value e.long known y.normal (omega arith) searched.before (λ k h. searched.after k (omega arith)) in
    let few = few_entries a known in
    let within : place ≤ 2 ^ a = omega arith in
    record {
      value =
          (sum _ _ c.frexp-fraction.result.1 _ place (omega (arith, ints)) (count_is _ _ c.buckets.ensures.value few) x.range.0 x.range.1 few within).is
          ∙ ap₂ (λ (e : ℤ) (n : ℕ). (e -ℤ pos 1) *ℤ pos (2 ^ a) +ℤ pos n) (ap (λ (p : Float × ℤ). p.1) x.value) (sym counted ∙ ap (λ (x : Float). entries_below x (table a)) (ap (λ (p : Float × ℤ). p.0) x.value));
      range = (sum _ _ c.frexp-fraction.result.1 _ place (omega (arith, ints)) (count_is _ _ c.buckets.ensures.value few) x.range.0 x.range.1 few within).range;
    }
