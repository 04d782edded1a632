-- A list of buckets: pairs of an index and the count there, lowest index first.
use Rattle.std.specs.Prelude.{ℕ, zero, suc, ◌+◌, ◌^◌, ◌<◌, Bool, true, false, cond, ◌&&◌, ◌||◌, T, List, [], ◌∷◌, ℤ, pos, negsuc, Some, None, Option, ◌==◌, int_lt, nat_lt}
use Rattle.index.specs.Index.{halved, in_index_range}

-- .0 is the index, .1 the count
abbrev pub Pairs : Type 0
Pairs = List (ℤ × ℕ)

-- whether i and j are one index
abbrev pub same : ℤ → ℤ → Bool
same (pos a) (pos b) = a == b
same (pos a) (negsuc b) = false
same (negsuc a) (pos b) = false
same (negsuc a) (negsuc b) = a == b

-- whether i is below the first index, if there is one
abbrev pub leads : ℤ → Pairs → Bool
leads i [] = true
leads i (p ∷ ps) = int_lt i p.0

-- whether the indices rise strictly
abbrev pub rising : Pairs → Bool
rising [] = true
rising (p ∷ ps) = leads p.0 ps && rising ps

-- whether every count is at least 1
abbrev pub counted : Pairs → Bool
counted [] = true
counted (p ∷ ps) = nat_lt 0 p.1 && counted ps

-- whether every index is in the range of all schemas
abbrev pub ranged : Pairs → Bool
ranged [] = true
ranged (p ∷ ps) = in_index_range p.0 && ranged ps

-- the sum of the counts
abbrev pub total : Pairs → ℕ
total [] = 0
total (p ∷ ps) = p.1 + total ps

-- a list that a store may hold
pub record Means (ps : Pairs) : Type 0 where
  pub rises : T (rising ps)
  pub counts : T (counted ps)
  pub bounded : total ps < 2 ^ 64

-- whether i has a pair
abbrev pub listed : ℤ → Pairs → Bool
listed i [] = false
listed i (p ∷ ps) = same i p.0 || listed i ps

-- the count of i, 0 where it has no pair
abbrev pub count_at : ℤ → Pairs → ℕ
count_at i [] = 0
count_at i (p ∷ ps) = cond (same i p.0) p.1 (count_at i ps)

-- the pair at position k, counted from 0
abbrev pub pair_at : Pairs → ℕ → Option (ℤ × ℕ)
pair_at [] k = None
pair_at (p ∷ ps) zero = Some p
pair_at (p ∷ ps) (suc k) = pair_at ps k

-- the count of i up by one, or i put into its place with count 1
abbrev pub raised : ℤ → Pairs → Pairs
raised i [] = (i, 1) ∷ []
raised i (p ∷ ps) =
    cond (int_lt i p.0) ((i, 1) ∷ p ∷ ps) (cond (same i p.0) ((p.0, p.1 + 1) ∷ ps) (p ∷ raised i ps))

-- the pair of the lowest index
abbrev pub lowest : Pairs → Option (ℤ × ℕ)
lowest [] = None
lowest (p ∷ ps) = Some p

-- all pairs but that
abbrev pub without_lowest : Pairs → Pairs
without_lowest [] = []
without_lowest (p ∷ ps) = ps

-- p put first; its count joins that of the first pair where the two have one index
abbrev pub joined : ℤ × ℕ → Pairs → Pairs
joined p [] = p ∷ []
joined p (q ∷ qs) = cond (same p.0 q.0) ((p.0, p.1 + q.1) ∷ qs) (p ∷ q ∷ qs)

-- each index halved, rounded up, and counts that meet joined
abbrev pub halved_pairs : Pairs → Pairs
halved_pairs [] = []
halved_pairs (p ∷ ps) = joined (halved p.0, p.1) (halved_pairs ps)

-- a put last; its count joins that of the last pair where the two have one index
abbrev pub joined_last : Pairs → ℤ × ℕ → Pairs
joined_last [] a = a ∷ []
joined_last (q ∷ []) a = joined q (a ∷ [])
joined_last (q ∷ r ∷ qs) a = q ∷ joined_last (r ∷ qs) a
