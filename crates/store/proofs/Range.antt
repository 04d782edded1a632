-- Indices stay in range: raising one in range, taking the lowest and halving keep them there.
use Rattle.std.proofs.Common.{ℕ, T, [], ◌∷◌, ℤ, arith}
use Rattle.index.specs.Index.{in_index_range, halved}
use Rattle.store.specs.Pairs.{Pairs, ranged, raised, without_lowest, joined, halved_pairs}
use Rattle.store.proofs.Bounds.{and_T, T_and}
use Rattle.store.proofs.Halving.{halved_in_range}

pub ranged_first : (p : ℤ × ℕ) (ps : Pairs) → T (ranged (p ∷ ps)) → T (in_index_range p.0)
ranged_first p ps h = (and_T (in_index_range p.0) (ranged ps) h).0

pub ranged_tail : (p : ℤ × ℕ) (ps : Pairs) → T (ranged (p ∷ ps)) → T (ranged ps)
ranged_tail p ps h = (and_T (in_index_range p.0) (ranged ps) h).1

pub ranged_more : (p : ℤ × ℕ) (ps : Pairs) → T (in_index_range p.0) → T (ranged ps) → T (ranged (p ∷ ps))
ranged_more p ps h g = T_and (in_index_range p.0) (ranged ps) h g

pub ranged_raised : (i : ℤ) (ps : Pairs) → T (in_index_range i) → T (ranged ps) → T (ranged (raised i ps))
ranged_raised i [] h g = ranged_more (i, 1) [] h g
ranged_raised i (p ∷ ps) h g =
    grind (arith, ranged_more, ranged_first p ps g, ranged_tail p ps g, ranged_raised i ps h)

pub ranged_taken : (ps : Pairs) → T (ranged ps) → T (ranged (without_lowest ps))
ranged_taken [] h = h
ranged_taken (p ∷ ps) h = ranged_tail p ps h

ranged_joined : (p : ℤ × ℕ) (qs : Pairs) → T (in_index_range p.0) → T (ranged qs) → T (ranged (joined p qs))
ranged_joined p [] h g = ranged_more p [] h g
ranged_joined p (q ∷ qs) h g = grind (arith, ranged_more, ranged_tail q qs g)

pub ranged_halved : (ps : Pairs) → T (ranged ps) → T (ranged (halved_pairs ps))
ranged_halved [] h = h
ranged_halved (p ∷ ps) h = ranged_joined (halved p.0, p.1) (halved_pairs ps) (halved_in_range p.0 (ranged_first p ps h)) (ranged_halved ps (ranged_tail p ps h))
