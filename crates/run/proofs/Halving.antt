-- What a run lists once its indices are halved: position by position, from the highest down.
use Rattle.std.proofs.Common.{◌≡◌, ℕ, zero, suc, ◌+◌, ◌-◌, ◌<◌, ◌≤◌, [], refl, sym, ap, ◌∙◌, ⊎_elim, arith}
use Rattle.index.specs.Index.{halved}
use Rattle.store.specs.Pairs.{total, joined, halved_pairs}
use Rattle.store.proofs.Halving.{total_halved}
use Rattle.run.specs.Window.{index_of, put_count, listing, raised_by, Widened}
use Rattle.run.specs.Listings.{listing_first, counted_used, raised_joined, sum_of, total_listing, sum_suffix, total_counted}

-- the position a, below e and up to `end`
module _ (f : ℕ → ℕ) (a e end : ℕ) (s : a + 1 ≡ e) (l : e ≤ end) where
  one_more : listing f a (end - a) ≡ put_count (index_of a) (f a) (listing f e (end - e))
  one_more =
      listing_first f a end (omega arith)
      ∙ ap (λ b. put_count (index_of a) (f a) (listing f b (end - b))) s

  -- a count is raised at the halved index, which is below the others or the lowest
  pub halves_used : (g : ℕ → ℕ) (first' span' b : ℕ) → 0 < f a → index_of b ≡ halved (index_of a) → (0 < span' → b ≤ first') → listing g first' span' ≡ halved_pairs (listing f e (end - e)) → raised_by (index_of b) (f a) (listing g first' span') ≡ halved_pairs (listing f a (end - a))
  halves_used g first' span' b c i low p =
      raised_joined g first' span' b (f a) low
      ∙ ap (λ j. joined (j, f a) (listing g first' span')) i
      ∙ ap (joined (halved (index_of a), f a)) p
      ∙ sym (ap halved_pairs (one_more ∙ counted_used (index_of a) (f a) (listing f e (end - e)) c))

  -- with the counts above, it is at most the sum over any window from below up to `end`
  pub halves_fit : (first span : ℕ) → first ≤ a → first + span ≡ end → f a + total (halved_pairs (listing f e (end - e))) ≤ total (listing f first span)
  halves_fit first span h r =
      let x = total_halved (listing f e (end - e)) in
      let t = ap total one_more ∙ total_counted (index_of a) (f a) (listing f e (end - e)) in
      let u = total_listing f a (end - a) in
      let v = total_listing f first span in
      let p : first + (a - first) ≡ a = omega arith in
      let q : (a - first) + (end - a) ≡ span = omega arith in
      let m = ap (λ d. sum_of f d (end - a)) p in
      let n = ap (sum_of f first) q in
      let z = sum_suffix f first (a - first) (end - a) in
      omega arith

-- the widened window lies where the old one and the position do
pub widened_within : {first span at first' span' : ℕ} → Widened first span at first' span' → (low high : ℕ) → low ≤ at → at < high → (0 < span → (low ≤ first) × (first + span ≤ high)) → (low ≤ first') × (first' + span' ≤ high)
widened_within v low high h l w =
    (⊎_elim (λ e. omega arith) (λ e. let u = w e.0 in omega arith) v.low_end, ⊎_elim (λ e. omega arith) (λ e. let u = w e.0 in omega arith) v.high_end)

-- a window that lists nothing has no position
pub span_none : (f : ℕ → ℕ) (a n : ℕ) → (0 < n → 0 < f a) → listing f a n ≡ [] → n ≡ 0
span_none f a zero h e = refl
span_none f a (suc n) h e =
    absurd (let some = counted_used (index_of a) (f a) (listing f (a + 1) n) (h (omega arith)) in cc)
