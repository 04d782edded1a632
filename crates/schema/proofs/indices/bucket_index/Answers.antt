use Rattle.std.proofs.Common.{◌≡◌, zero, suc, Bool, true, false, cond, not, T, ℤ, pos, ◌+ℤ◌, Some, None, Option, sym, refl, ap, ◌∙◌, subst, arith, w32, SFits, rules}
use borrow.Author.Differences.{ints}
use borrow.Author.Tests.{clash}
use lib.Ieee.{Float, nan, inf, fin, binary64, fits, is_nan, eq, of_bits}
use Rattle.std.specs.Float.{float_is_infinite, float_is_finite}
use Rattle.double.specs.Double.{finite_nonzero}
use Rattle.std.proofs.lemmas.Float.{T_from_true}
use Rattle.double.proofs.Fraction.{zero_tested, nonzero_tested}
use Rattle.schema.specs.Bounds.{is_schema, finite_index, index, index_of, nonzero, max_double, OnlyBucket}
use Rattle.schema.specs.Laws.{Ranged}
use Rattle.std.proofs.lemmas.Int.{to_z-of_z}
use Rattle.schema.proofs.Reading.{largest_bits}
use Rattle.schema.proofs.Laws.{only_bucket, index_ranged}
use Rattle.schema.proofs.indices.bucket_index.Goals as goal
use Rattle.schema.proofs.indices.bucket_index.Goals.{then-is_nan-via-then-is_nan, then-is_nan-via-else-is_nan+then-v}

record Found (s : ℤ) (v : Float) (i : ℤ) : Type 0 where
  pub value : ◌≡◌ {A = Option ℤ} (Some i) (index_of s v)
  pub bucket : T (nonzero v) × OnlyBucket s v i
  pub range : Ranged s i

found : (s : ℤ) (v : Float) (i : ℤ) → T (is_schema s) → T (fits binary64 v) → nonzero v ≡ true → i ≡ index s v → Found s v i
found s v i h f n e = record {
  value = ap Some e ∙ ap (λ (b : Bool). cond b (Some (index s v)) None) (sym n);
  bucket = (T_from_true (nonzero v) n, subst (OnlyBucket s v) (sym e) (only_bucket s v h f (T_from_true (nonzero v) n)));
  range = subst (Ranged s) (sym e) (index_ranged s v h f (T_from_true (nonzero v) n));
}

record Missed (s : ℤ) (v : Float) : Type 0 where
  pub value : ◌≡◌ {A = Option ℤ} None (index_of s v)
  pub bucket : T (not (nonzero v))

missed : (s : ℤ) (v : Float) → nonzero v ≡ false → Missed s v
missed s v e = record { value = ap (λ (b : Bool). cond b (Some (index s v)) None) (sym e); bucket = subst (λ (b : Bool). T (not b)) (sym e) tt }

-- ---- which v, by the program's tests

nan_missed : (v : Float) → is_nan v ≡ true → nonzero v ≡ false
unfolding is_nan
nan_missed nan e = refl
nan_missed (inf n) e = absurd (clash e)
nan_missed (fin n m x) e = absurd (clash e)

zero_missed : (v : Float) → is_nan v ≡ false → eq v (of_bits binary64 0) ≡ true → nonzero v ≡ false
unfolding is_nan eq of_bits
zero_missed nan k e = refl
zero_missed (inf n) k e = absurd (clash e)
zero_missed (fin n zero x) k e = refl
zero_missed (fin n (suc m) x) k e = absurd (zero_tested (fin n (suc m) x) e)

infinite_index : (s : ℤ) (v : Float) → float_is_infinite v ≡ true → (nonzero v ≡ true) × (index s v ≡ finite_index s max_double +ℤ pos 1)
unfolding float_is_infinite
infinite_index s nan e = absurd (clash e)
infinite_index s (inf n) e = (refl, refl)
infinite_index s (fin n m x) e = absurd (clash e)

other_index : (s : ℤ) (v : Float) → is_nan v ≡ false → T (finite_nonzero v) → (nonzero v ≡ true) × (index s v ≡ finite_index s v)
unfolding is_nan
other_index s nan k f = absurd f
other_index s (inf n) k f = absurd f
other_index s (fin n zero x) k f = absurd f
other_index s (fin n (suc m) x) k f = (refl, refl)

other_tested : (v : Float) → is_nan v ≡ false → eq v (of_bits binary64 0) ≡ false → float_is_infinite v ≡ false → T (finite_nonzero v)
unfolding is_nan float_is_infinite float_is_finite
other_tested nan k e i = absurd (clash (sym k))
other_tested (inf n) k e i = absurd (clash (sym i))
other_tested (fin n m x) k e i = nonzero_tested (fin n m x) refl e

pub returns-then-is_nan : goal.returns-then-is_nan
returns-then-is_nan c =
    let m = missed c.args.schema.value c.args.v
    (elim c.then-is_nan.branch [
      | then-is_nan-via-then-is_nan w ↦ nan_missed c.args.v (sym w.if-is_nan.ensures.value)
      | then-is_nan-via-else-is_nan+then-v w ↦ zero_missed c.args.v (sym w.if-is_nan.ensures.value) w.if-v.true
    ]) in
    record { value = m.value; bucket = m.bucket; range = tt }

pub finite_index-requires : goal.finite_index-requires
unfolding of_bits
finite_index-requires c = tt

pub returns-then-is_infinite : goal.returns-then-is_infinite
returns-then-is_infinite c =
    let s = c.args.schema.value in
    let v = c.args.v in
    let i = infinite_index s v (sym c.if-is_infinite.ensures.value) in
    let value : c.finite_index.result ≡ finite_index s max_double = c.finite_index.ensures.value ∙ ap (finite_index s) largest_bits in
    let is : index s v ≡ finite_index s max_double +ℤ pos 1 = i.1 in
    let range = c.finite_index.ensures.range in
    let f = found s v _ c.args.schema.known (T_from_true _ c.well_formed.1.0.1) i.0 (omega (arith, ints)) in
    record { value = f.value; bucket = f.bucket; range = f.range }

pub finite_index-requires-2 : goal.finite_index-requires-2
finite_index-requires-2 c = other_tested c.args.v (sym c.if-is_nan.ensures.value) c.if-v.false (sym c.if-is_infinite.ensures.value)

pub returns : goal.returns
returns c =
    let s = c.args.schema.value in
    let v = c.args.v in
    let i = other_index s v (sym c.if-is_nan.ensures.value) (other_tested v (sym c.if-is_nan.ensures.value) c.if-v.false (sym c.if-is_infinite.ensures.value)) in
    let e : SFits w32 c.finite_index-2.result = search rules in
    let f = found s v _ c.args.schema.known (T_from_true _ c.well_formed.1.0.1) i.0 (to_z-of_z w32 _ e ∙ c.finite_index-2.ensures.value ∙ sym i.1) in
    record { value = f.value; bucket = f.bucket; range = f.range }
