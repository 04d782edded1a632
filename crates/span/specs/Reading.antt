-- How spans and deltas are read, and which are refused.
use Rattle.std.specs.Prelude.{◌≡◌, ℕ, zero, suc, ◌+◌, ◌-◌, ◌^◌, Bool, true, false, cond, ◌&&◌, T, List, [], ◌∷◌, ◌++◌, length, ℤ, pos, negsuc, ◌+ℤ◌, ◌-ℤ◌, ◌≤ℤ◌, Some, None, Option, ◌==◌, int_le, int_lt, nat_lt, unsigned_abs}
use Rattle.index.specs.Index.{in_index_range}
use Rattle.store.specs.Pairs.{Pairs, same}
use Rattle.span.specs.Faults.{either}
use Rattle.span.specs.Spans.{Spans}

-- n indices from i on
abbrev pub consecutive : ℤ → ℕ → List ℤ
consecutive i zero = []
consecutive i (suc n) = i ∷ consecutive (i +ℤ pos 1) n

-- the indices that spans list, where `next` is the index after the span before: an offset says how many are skipped from there
abbrev pub indices : ℤ → Spans → List ℤ
indices next [] = []
indices next (s ∷ ss) = consecutive (next +ℤ s.0) s.1 ++ indices (next +ℤ s.0 +ℤ pos s.1) ss

-- each index with its count, which is the count before and a delta
abbrev pub listing : List ℤ → ℤ → List ℤ → Pairs
listing [] before ds = []
listing (i ∷ is) before [] = []
listing (i ∷ is) before (d ∷ ds) = (i, unsigned_abs (before +ℤ d)) ∷ listing is (before +ℤ d) ds

-- counts of 0 left out
abbrev pub nonzero : Pairs → Pairs
nonzero [] = []
nonzero (p ∷ ps) = cond (nat_lt 0 p.1) (p ∷ nonzero ps) (nonzero ps)

-- what is read
abbrev pub read_pairs : Spans → List ℤ → Pairs
read_pairs ss ds = nonzero (listing (indices (pos 0) ss) (pos 0) ds)

-- the sum of the lengths
abbrev pub lengths : Spans → ℕ
lengths [] = 0
lengths (s ∷ ss) = s.1 + lengths ss

-- 11: the lengths do not sum to the number of deltas
abbrev pub lengths_refusal : Spans → List ℤ → Option (ℕ × ℤ)
lengths_refusal ss ds = cond (lengths ss == length ds) None (Some (11, pos (length ds)))

-- of the span with number k, where `next` is the index after the span before: 12 its length is 0, 13 it is not the first and its offset is negative, 14 its first or last index is out of range
abbrev pub span_refusal : ℕ → ℤ → ℤ × ℕ → Option (ℕ × ℤ)
span_refusal k next s =
    cond (s.1 == 0) (Some (12, pos k))
    (cond (nat_lt 0 k && int_lt s.0 (pos 0)) (Some (13, pos k))
    (cond (in_index_range (next +ℤ s.0) && in_index_range (next +ℤ s.0 +ℤ pos s.1 -ℤ pos 1)) None (Some (14, pos k))))

-- the first of these from the span with number k on
abbrev pub spans_refusal : ℕ → ℤ → Spans → Option (ℕ × ℤ)
spans_refusal k next [] = None
spans_refusal k next (s ∷ ss) = either (span_refusal k next s) (spans_refusal (k + 1) (next +ℤ s.0 +ℤ pos s.1) ss)

-- the one span (0, 0), which lists nothing
abbrev pub lone : Spans → Bool
lone [] = false
lone (s ∷ []) = same s.0 (pos 0) && s.1 == 0
lone (s ∷ t ∷ ss) = false

-- the first refusal of a span; the one span (0, 0) has none
abbrev pub lone_or_refusal : Spans → Option (ℕ × ℤ)
lone_or_refusal ss = cond (lone ss) None (spans_refusal 0 (pos 0) ss)

-- whether a count is from 0 to 2^63 − 1
abbrev pub countable : ℤ → Bool
countable n = int_le (pos 0) n && int_le n (pos (2 ^ 63 - 1))

-- 15: the first delta, from that with number k on, after which the count is not
abbrev pub counts_refusal : ℕ → ℤ → List ℤ → Option (ℕ × ℤ)
counts_refusal k before [] = None
counts_refusal k before (d ∷ ds) = cond (countable (before +ℤ d)) (counts_refusal (k + 1) (before +ℤ d) ds) (Some (15, pos k))

-- the first refusal of spans and deltas
abbrev pub open_refusal : Spans → List ℤ → Option (ℕ × ℤ)
open_refusal ss ds =
    either (lengths_refusal ss ds)
    (either (lone_or_refusal ss) (counts_refusal 0 (pos 0) ds))

-- whether from `next` on every span stays between the lowest index and the one after the highest
abbrev pub inside : ℤ → Spans → Bool
inside next [] = true
inside next (s ∷ ss) =
    int_le (negsuc 274943) (next +ℤ s.0)
    && (int_le (next +ℤ s.0 +ℤ pos s.1) (pos 262146) && inside (next +ℤ s.0 +ℤ pos s.1) ss)

-- whether every count is in range
abbrev pub counts_fit : ℤ → List ℤ → Bool
counts_fit before [] = true
counts_fit before (d ∷ ds) = countable (before +ℤ d) && counts_fit (before +ℤ d) ds

-- the buckets still to be read: `left` indices from `index` on, then those of the spans ss
abbrev pub unread : ℤ → ℕ → Spans → ℤ → List ℤ → Pairs
unread index left ss before ds = listing (consecutive index left ++ indices (index +ℤ pos left) ss) before ds

-- what an opened reader keeps: as many deltas as indices, and every index and count in range
pub record Sound (index : ℤ) (left : ℕ) (ss : Spans) (before : ℤ) (ds : List ℤ) : Type 0 where
  pub whole : left + lengths ss ≡ length ds
  pub low : negsuc 274943 ≤ℤ index
  pub high : (index +ℤ pos left) ≤ℤ pos 262146
  pub ahead : T (inside (index +ℤ pos left) ss)
  pub counts : T (counts_fit before ds)
