-- What is true of lists of pairs, whatever store holds them.
use Rattle.std.specs.Prelude.{◌≡◌, ℕ, ◌+◌, ◌^◌, ◌<◌, ◌≤◌, ◌||◌, T, length, ℤ, pos, ◌+ℤ◌, ◌-ℤ◌, ◌≤ℤ◌, Some, ◌≢◌}
use Rattle.store.specs.Pairs.{Pairs, Means, same, rising, counted, total, listed, count_at, raised, lowest, without_lowest, halved_pairs}

-- raising i adds one to its count and to the total, and lists i besides what was listed
pub record Raised (i : ℤ) (ps : Pairs) : Type 0 where
  pub count : count_at i (raised i ps) ≡ count_at i ps + 1
  pub others : (j : ℤ) → (j ≢ i) → count_at j (raised i ps) ≡ count_at j ps
  pub sum : total (raised i ps) ≡ total ps + 1
  pub lists : (j : ℤ) → listed j (raised i ps) ≡ (same j i || listed j ps)
  pub means : Means ps → total ps + 1 < 2 ^ 64 → Means (raised i ps)

abbrev pub Raising : Type 0
Raising = (i : ℤ) (ps : Pairs) → T (rising ps) → Raised i ps

-- half an index, i, is left with the counts of 2i - 1 and 2i; the total stays, and no pair is added
pub record Halved (ps : Pairs) : Type 0 where
  pub counts : (i : ℤ) → count_at i (halved_pairs ps) ≡ count_at (i +ℤ i -ℤ pos 1) ps + count_at (i +ℤ i) ps
  pub sum : total (halved_pairs ps) ≡ total ps
  pub lists : (i : ℤ) → listed i (halved_pairs ps) ≡ (listed (i +ℤ i -ℤ pos 1) ps || listed (i +ℤ i) ps)
  pub means : Means ps → Means (halved_pairs ps)
  pub shorter : length (halved_pairs ps) ≤ length ps

abbrev pub Halving : Type 0
Halving = (ps : Pairs) → T (rising ps) → Halved ps

-- taking the lowest pair p: no listed index is lower, and what is left lacks p and nothing else
pub record Taken (p : ℤ × ℕ) (ps : Pairs) : Type 0 where
  pub least : (i : ℤ) → T (listed i ps) → p.0 ≤ℤ i
  pub count : count_at p.0 ps ≡ p.1
  pub gone : count_at p.0 (without_lowest ps) ≡ 0
  pub others : (i : ℤ) → (i ≢ p.0) → count_at i (without_lowest ps) ≡ count_at i ps
  pub sum : total ps ≡ p.1 + total (without_lowest ps)
  pub means : Means ps → Means (without_lowest ps)

abbrev pub Taking : Type 0
Taking = (p : ℤ × ℕ) (ps : Pairs) → T (rising ps) → lowest ps ≡ Some p → Taken p ps

-- the counts tell the list
abbrev pub CountsTell : Type 0
CountsTell =
    (ps qs : Pairs) → T (rising ps) → T (rising qs) → T (counted ps) → T (counted qs) →
    ((i : ℤ) → count_at i ps ≡ count_at i qs) → ps ≡ qs
