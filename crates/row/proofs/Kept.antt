-- What a row keeps, from what it lists.
use Rattle.std.proofs.Common.{◌≡◌, ℕ, zero, suc, ◌+◌, ◌^◌, ◌<◌, ◌≤◌, T, [], ◌∷◌, length, get_or, slice_get, take, ℤ, Some, sym, refl, ap, ◌∙◌, subst, arith, rules}
use Rattle.std.proofs.lemmas.List.{length-take-le, get_or-take}
use Rattle.index.specs.Index.{in_index_range}
use Rattle.store.specs.Pairs.{Pairs, rising, counted, ranged, total, Means, pair_at, without_lowest}
use Rattle.store.proofs.Parts.{pair_at_in}
use Rattle.row.specs.declared.Row.{Row}
use Rattle.row.specs.Rows.{row_pairs}

-- the facts of a row with the table t, the size n and the total s, which lists ps
pub kept : (t : Pairs) (n s : ℕ) (ps : Pairs) → length t ≡ 320 → n ≤ 320 → take n t ≡ ps → Means ps → T (ranged ps) → s ≡ total ps → record { whole : length t ≡ 320; fits : n ≤ 320; rises : T (rising (take n t)); counts : T (counted (take n t)); bounded : total (take n t) < 2 ^ 64; ranges : T (ranged (take n t)); sums : s ≡ total (take n t) }
kept t n s ps whole fits e m ranges sums = record {
  whole = whole;
  fits = fits;
  rises = subst (λ (qs : Pairs). T (rising qs)) (sym e) m.rises;
  counts = subst (λ (qs : Pairs). T (counted qs)) (sym e) m.counts;
  bounded = subst (λ (qs : Pairs). total qs < 2 ^ 64) (sym e) m.bounded;
  ranges = subst (λ (qs : Pairs). T (ranged qs)) (sym e) ranges;
  sums = sums ∙ ap total (sym e);
}

-- the places that a row lists
pub row_length : (r : Row) → length (row_pairs r) ≡ r.size
row_length r = length-take-le r.size r.pairs (subst (λ k. r.size ≤ k) (sym r.whole) r.fits)

-- the pair at a position, as `get` reads it
pub pair_at_get : (ps : Pairs) (k : ℕ) → slice_get ps k ≡ pair_at ps k
pair_at_get [] k = refl
pair_at_get (p ∷ ps) zero = refl
pair_at_get (p ∷ ps) (suc k) = pair_at_get ps k

-- the pair at a position
pub row_pair : (r : Row) (k : ℕ) (d : ℤ × ℕ) → k < r.size → Some (get_or r.pairs k d) ≡ pair_at (row_pairs r) k
row_pair r k d h = grind (arith, pair_at_in (row_pairs r) k d, row_length r, get_or-take r.size r.pairs k d h)

-- the total without the lowest pair
pub total_rest : (ps : Pairs) (d : ℤ × ℕ) → 0 < length ps → (get_or ps 0 d).1 + total (without_lowest ps) ≡ total ps
total_rest [] d h = absurd (omega arith)
total_rest (p ∷ ps) d h = refl

-- every listed index is in range
pub ranged_at : (ps : Pairs) (k : ℕ) (d : ℤ × ℕ) → T (ranged ps) → k < length ps → T (in_index_range (get_or ps k d).0)
ranged_at [] k d r h = absurd (omega arith)
ranged_at (p ∷ ps) zero d r h = search rules
ranged_at (p ∷ ps) (suc k) d r h = grind (arith, ranged_at ps k d)
