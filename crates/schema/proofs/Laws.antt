-- Every number other than zero lies in the bucket of its index, and in no other; a coarser schema halves the index; the range of indices.
use Rattle.std.proofs.Common.{◌≡◌, ℕ, zero, suc, ◌+◌, ◌*◌, ◌^◌, ◌<◌, ◌≤◌, Bool, ◌&&◌, T, ltb, leb, ℤ, pos, ◌+ℤ◌, ◌-ℤ◌, ◌≤ℤ◌, ◌<ℤ◌, sym, ap, subst, ap₂, le_trans, le_of_eq, lt_of_lt_of_le, not-suc-le-zero, lt_of_le_of_lt, lt_irrefl, le-div_iff_mul-le, arith, le→leb, ltb→lt, lt→ltb, leb→le}
use borrow.Author.Differences.{ints}
use lib.Ieee.{Float, nan, inf, fin, binary64, fits, is_nan, le, up, down}
use lib.Ieee.Fits.{down_pos, and_i, and_l, and_r}
use Rattle.std.proofs.lemmas.Int.{by_lt_z}
use Rattle.index.specs.Index.{halved, in_index_range}
use Rattle.index.proofs.Halving.{halves}
use Rattle.double.specs.Double.{Number, units, largest}
use Rattle.double.proofs.Order.{units_under}
use Rattle.double.proofs.Largest.{units_infinite, largest_number, largest_magnitude, largest_within, le_largest, lt_largest}
use Rattle.schema.specs.Bounds.{is_schema, base, power, cut, bound, Largest, index, nonzero, in_bucket, OnlyBucket, lowest_index, highest_index}
use Rattle.schema.specs.Laws.{Ranged}
use Rattle.schema.proofs.Cuts.{cut_mono, rises, nested}
use Rattle.schema.proofs.Buckets.{Lies, finite_lies}
use Rattle.schema.proofs.Ends.{Ends, schema_ends}

-- ---- every number

infinite_lies : (s : ℤ) (n : Bool) → T (is_schema s) → Lies s (units (inf n)) (index s (inf n))
infinite_lies s n h =
    let e = schema_ends s h in
    subst (Lies s (units (inf n))) (sym e.top)
    (record {
      above = lt_of_lt_of_le (over (2 ^ 2098) e.under_top) (le_of_eq (sym (units_infinite n)));
      within = le_trans (le_of_eq (units_infinite n)) (more (2 ^ 2098) e.over_top);
    })
  where
    over : (C : ℕ) {m : ℕ} → m ≤ C → m < C + 1
    over C h = omega arith

    more : (C : ℕ) {m : ℕ} → C < m → C + 1 ≤ m
    more C h = omega arith

pub number_lies : (s : ℤ) (v : Float) → T (is_schema s) → T (fits binary64 v) → T (nonzero v) → Lies s (units v) (index s v)
number_lies s nan h f g = absurd g
number_lies s (inf n) h f g = infinite_lies s n h
number_lies s (fin n zero e) h f g = absurd g
number_lies s (fin n (suc m) e) h f g = finite_lies s (fin n (suc m) e) h f tt

-- ---- no other bucket

apart : (s i j : ℤ) (u : ℕ) → T (is_schema s) → Lies s u i → Lies s u j → i <ℤ j → ⊥
apart s i j u h p q l = lt_irrefl u (lt_of_le_of_lt (le_trans p.within (cut_mono s i (j -ℤ pos 1) h (omega (arith, ints)))) q.above)

pub lies_only : (s i j : ℤ) (u : ℕ) → T (is_schema s) → Lies s u i → Lies s u j → i ≡ j
lies_only s i j u h p q =
    by_lt_z i j (λ l. absurd (apart s i j u h p q l)) (λ l. by_lt_z j i (λ g. absurd (apart s j i u h q p g)) (λ g. omega (arith, ints)))

-- ---- in doubles

number_of : (v : Float) → T (fits binary64 v) → T (nonzero v) → Number v
unfolding is_nan
number_of nan f g = absurd g
number_of (inf n) f g = (f, tt)
number_of (fin n m e) f g = (f, tt)

bucket_is : (s i : ℤ) (v : Float) → Number v → in_bucket s i v ≡ (ltb (cut s (i -ℤ pos 1)) (units v) && leb (units v) (cut s i))
bucket_is s i v k = ap₂ ◌&&◌ (lt_largest v (cut s (i -ℤ pos 1)) k) (le_largest v (cut s i) k)

pub only_bucket : (s : ℤ) (v : Float) → T (is_schema s) → T (fits binary64 v) → T (nonzero v) → OnlyBucket s v (index s v)
only_bucket s v h f g =
    let k = number_of v f g in
    let l = number_lies s v h f g in
    record {
      here = subst T (sym (bucket_is s (index s v) v k)) (and_i _ _ (lt→ltb _ _ l.above) (le→leb _ _ l.within));
      only = λ j t.
          let b : T (ltb (cut s (j -ℤ pos 1)) (units v) && leb (units v) (cut s j)) = subst T (bucket_is s j v k) t in
          lies_only s j (index s v) (units v) h (record { above = ltb→lt _ _ (and_l _ _ b); within = leb→le _ _ (and_r _ _ b) }) l;
    }

-- ---- a coarser schema

pub halved_index : (s : ℤ) (v : Float) → T (is_schema s) → T (is_schema (s -ℤ pos 1)) → T (fits binary64 v) → T (nonzero v) → index (s -ℤ pos 1) v ≡ halved (index s v)
halved_index s v h g f n = coarse (index (s -ℤ pos 1) v) (index s v) (number_lies (s -ℤ pos 1) v g f n) (number_lies s v h f n)
  where
    u : ℕ
    u = units v

    coarse : (i j : ℤ) → Lies (s -ℤ pos 1) u i → Lies s u j → i ≡ halved j
    coarse i j p q =
        by_lt_z (i +ℤ i) j (λ l. absurd (lt_irrefl u (lt_of_le_of_lt (le_trans (le_trans p.within (le_of_eq (nested s i h g))) (cut_mono s (i +ℤ i) (j -ℤ pos 1) h (omega (arith, ints)))) q.above)))
        (λ l. by_lt_z (i -ℤ pos 1 +ℤ (i -ℤ pos 1)) j
        (λ k. let t = halves j in omega (arith, ints))
        (λ k. absurd (lt_irrefl u (lt_of_le_of_lt (le_trans q.within (le_trans (cut_mono s j (i -ℤ pos 1 +ℤ (i -ℤ pos 1)) h k) (le_of_eq (sym (nested s (i -ℤ pos 1) h g))))) p.above))))

-- ---- the range

units_most : (v : Float) → T (fits binary64 v) → T (nonzero v) → units v ≤ 2 ^ 2098 + 1
units_most nan f g = absurd g
units_most (inf n) f g = le_of_eq (units_infinite n)
units_most (fin n m e) f g = less (2 ^ 2098) (units_under n m e f)
  where
    less : (C : ℕ) {m : ℕ} → m < C → m ≤ C + 1
    less C h = omega arith

pub index_ranged : (s : ℤ) (v : Float) → T (is_schema s) → T (fits binary64 v) → T (nonzero v) → Ranged s (index s v)
index_ranged s v h f g = record { low = low; high = high; inside = between (lowest_index s) (index s v) (highest_index s) low high e.low_range e.high_range }
  where
    e : Ends s
    e = schema_ends s h

    l : Lies s (units v) (index s v)
    l = number_lies s v h f g

    over : (C : ℕ) {m : ℕ} → C < m → C + 1 ≤ m
    over C h = omega arith

    low : lowest_index s ≤ℤ index s v
    low = by_lt_z (index s v) (lowest_index s)
        (λ b. absurd (not-suc-le-zero (lt_of_lt_of_le l.above (le_trans l.within (le_trans (cut_mono s (index s v) (lowest_index s -ℤ pos 1) h (omega (arith, ints))) (le_of_eq e.under_bottom))))))
        (λ b. b)

    high : index s v ≤ℤ highest_index s
    high = by_lt_z (highest_index s) (index s v)
        (λ b. absurd (lt_irrefl (units v) (lt_of_le_of_lt (le_trans (units_most v f g) (le_trans (over (2 ^ 2098) e.over_top) (cut_mono s (highest_index s) (index s v -ℤ pos 1) h (omega (arith, ints))))) l.above)))
        (λ b. b)

    between : (a i b : ℤ) → a ≤ℤ i → i ≤ℤ b → T (in_index_range a) → T (in_index_range b) → T (in_index_range i)
    between a i b p q x y = grind (arith, ints)

-- ---- the bound is the largest double at most the exact one

of_exact : (s i : ℤ) (u : ℕ) → u * down (power s i +ℤ pos 1021) ≤ base s i * up (power s i +ℤ pos 1021) → u ≤ cut s i
unfolding cut
of_exact s i u h = (le-div_iff_mul-le (down_pos (power s i +ℤ pos 1021))).1 h

exact_of : (s i : ℤ) (u : ℕ) → u ≤ cut s i → u * down (power s i +ℤ pos 1021) ≤ base s i * up (power s i +ℤ pos 1021)
unfolding cut
exact_of s i u h = (le-div_iff_mul-le (down_pos (power s i +ℤ pos 1021))).0 h

pub bound_largest : (s i : ℤ) → Largest s i (bound s i)
bound_largest s i = record {
  within = le→leb _ _ (exact_of s i (units (bound s i)) (largest_within (cut s i)));
  reaches = λ v k t. subst T (sym (le_largest v (cut s i) k)) (le→leb _ _ (of_exact s i (units v) (leb→le _ _ t)));
}

pub bound_rises : (s i : ℤ) → T (is_schema s) → T (le (bound s i) (bound s (i +ℤ pos 1)))
bound_rises s i h =
    subst (λ (x : Float). T (le x (bound s (i +ℤ pos 1)))) (largest_magnitude (cut s i))
    (subst T (sym (le_largest (bound s i) (cut s (i +ℤ pos 1)) (largest_number (cut s i)))) (le→leb _ _ (le_trans (largest_within (cut s i)) (rises s i h))))

-- ---- a coarser schema has every other bound

pub bound_nested : (s i : ℤ) → T (is_schema s) → T (is_schema (s -ℤ pos 1)) → bound (s -ℤ pos 1) i ≡ bound s (i +ℤ i)
bound_nested s i h g = ap largest (nested s i h g)
