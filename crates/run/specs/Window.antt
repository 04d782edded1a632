-- A window of counters: consecutive indices, each with its count, and the pairs that they list.
use Rattle.std.specs.Prelude.{◌≡◌, ℕ, zero, suc, ◌+◌, ◌/◌, ◌%◌, ◌<◌, ◌≤◌, Bool, cond, ◌⊎◌, List, [], ◌∷◌, ℤ, pos, negsuc, ◌+ℤ◌, int_lt, slice_index}
use Rattle.std.specs.Int.{int_max, int_min}
use Rattle.store.specs.Pairs.{Pairs, same}

-- the index at a position: positions are counted from the lowest index of all schemas
abbrev pub index_of : ℕ → ℤ
index_of a = pos a +ℤ negsuc 274943

-- how many positions there are, up to the highest index of all schemas
abbrev pub positions : ℕ
positions = 537090

-- the position one schema coarser: that of half the index, rounded up
abbrev pub coarse : ℕ → ℕ
coarse a = (a + 1) / 2 + 137472

-- the counter of position a: 512 of them stand in a circle
abbrev pub counter : List ℕ → ℕ → ℕ
counter counters a = slice_index counters (a % 512)

-- the pair (i, c) put first, unless c is 0
abbrev pub put_count : ℤ → ℕ → Pairs → Pairs
put_count i zero ps = ps
put_count i (suc c) ps = (i, suc c) ∷ ps

-- the pairs of n consecutive positions from a on, count by count
abbrev pub listing : (ℕ → ℕ) → ℕ → ℕ → Pairs
listing count a zero = []
listing count a (suc n) = put_count (index_of a) (count a) (listing count (a + 1) n)

-- the count of i up by c, or i put into its place with count c
abbrev pub raised_by : ℤ → ℕ → Pairs → Pairs
raised_by i c [] = (i, c) ∷ []
raised_by i c (p ∷ ps) =
    cond (int_lt i p.0) ((i, c) ∷ p ∷ ps) (cond (same i p.0) ((p.0, p.1 + c) ∷ ps) (p ∷ raised_by i c ps))

-- the lowest of i and the listed indices
abbrev pub lowest_with : ℤ → Pairs → ℤ
lowest_with i [] = i
lowest_with i (p ∷ ps) = int_min p.0 (lowest_with i ps)

-- the highest of i and the listed indices
abbrev pub highest_with : ℤ → Pairs → ℤ
highest_with i [] = i
highest_with i (p ∷ ps) = int_max p.0 (highest_with i ps)

-- whether the listed indices and i fit in 512 consecutive ones
abbrev pub fits_window : Pairs → ℤ → Bool
fits_window ps i = int_lt (highest_with i ps) (lowest_with i ps +ℤ pos 512)

-- position a and the window of first and span fit in 512 consecutive positions
abbrev pub Near : ℕ → ℕ → ℕ → Type 0
Near first span a = 0 < span → (a < first + 512) × (first + span ≤ a + 512)

-- the window of first and span, widened just so far that it holds position a too
pub record Widened (first span a first' span' : ℕ) : Type 0 where
  pub from : first' ≤ a
  pub to : a < first' + span'
  pub wide : span' ≤ 512
  pub lower : 0 < span → first' ≤ first
  pub upper : 0 < span → first + span ≤ first' + span'
  pub low_end : (first' ≡ a) ⊎ ((0 < span) × (first' ≡ first))
  pub high_end : (first' + span' ≡ a + 1) ⊎ ((0 < span) × (first' + span' ≡ first + span))

-- r is the first position from a on with a count, or e where there is none before it
pub record Next (count : ℕ → ℕ) (a e r : ℕ) : Type 0 where
  pub from : a ≤ r
  pub to : r ≤ e
  pub none : (k : ℕ) → a ≤ k → k < r → count k ≡ 0
  pub here : r < e → 0 < count r
