-- How the pairs of one side are written: spans (offset, length) and deltas.
use Rattle.std.specs.Prelude.{ℕ, ◌+◌, cond, List, [], ◌∷◌, ◌++◌, drop, ℤ, pos, ◌+ℤ◌, ◌-ℤ◌}
use Rattle.store.specs.Pairs.{Pairs, same}

-- .0 is the offset, .1 the length
abbrev pub Spans : Type 0
Spans = List (ℤ × ℕ)

-- the indices from `next` up to i, with count 0, where they are one or two
abbrev pub filler : ℤ → ℤ → Pairs
filler next i =
    cond (same i (next +ℤ pos 1)) ((next, 0) ∷ [])
    (cond (same i (next +ℤ pos 2)) ((next, 0) ∷ (next +ℤ pos 1, 0) ∷ []) [])

-- the pairs from the index `next` on, every gap of at most 2 indices filled
abbrev pub filled_from : ℤ → Pairs → Pairs
filled_from next [] = []
filled_from next (p ∷ ps) = filler next p.0 ++ p ∷ filled_from (p.0 +ℤ pos 1) ps

-- the pairs with the gaps between them filled
abbrev pub filled : Pairs → Pairs
filled [] = []
filled (p ∷ ps) = p ∷ filled_from (p.0 +ℤ pos 1) ps

-- what is still to be listed where k pairs are, and `next` is the next index
abbrev pub ahead : Pairs → ℕ → ℤ → Pairs
ahead ps k next = filled_from next (drop k ps)

-- the spans where (o, n) is the last so far, and the index `next` would lengthen it: any other starts a span, whose offset is the number of indices skipped
abbrev pub spans_from : ℤ → ℕ → ℤ → Pairs → Spans
spans_from o n next [] = (o, n) ∷ []
spans_from o n next (p ∷ ps) =
    cond (same p.0 next) (spans_from o (n + 1) (p.0 +ℤ pos 1) ps)
    ((o, n) ∷ spans_from (p.0 -ℤ next) 1 (p.0 +ℤ pos 1) ps)

-- the runs of consecutive indices, as spans; the first offset is the first index
abbrev pub runs : Pairs → Spans
runs [] = []
runs (p ∷ ps) = spans_from p.0 1 (p.0 +ℤ pos 1) ps

-- each count less the one before
abbrev pub differences : ℕ → Pairs → List ℤ
differences before [] = []
differences before (p ∷ ps) = (pos p.1 -ℤ pos before) ∷ differences p.1 ps

-- what is written of pairs
abbrev pub spans : Pairs → Spans
spans ps = runs (filled ps)

abbrev pub deltas : Pairs → List ℤ
deltas ps = differences 0 (filled ps)
