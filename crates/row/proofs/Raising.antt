-- What raising an index does to the pairs before and from its place.
use Rattle.std.proofs.Common.{◌≡◌, ℕ, ◌+◌, ◌<◌, ◌≤◌, false, T, [], ◌∷◌, length, get_or, take, drop, set, ℤ, Err, sym, ap, ◌∙◌, subst, arith}
use Rattle.std.specs.List.{insert}
use Rattle.std.proofs.lemmas.List.{get_or-take}
use Rattle.std.proofs.lemmas.Int.{ints}
use Rattle.store.specs.Pairs.{Pairs, leads, rising, listed, raised}
use Rattle.store.proofs.Order.{same_not}
use Rattle.store.proofs.Bounds.{Below}
use Rattle.store.proofs.Parts.{raised_taken, raised_insert}
use Rattle.row.specs.Rows.{place, sought}
use Rattle.row.proofs.Places.{sought_err}

-- what lies before the place is below i
below_place : (i : ℤ) (ps : Pairs) → Below i (take (place i ps) ps)
below_place i [] = tt
below_place i (p ∷ ps) = grind (arith, ints, below_place i ps)

-- and i is below what lies from there on, if it is not listed
leads_place : (i : ℤ) (ps : Pairs) → listed i ps ≡ false → T (leads i (drop (place i ps) ps))
leads_place i [] e = tt
leads_place i (p ∷ ps) e = grind (arith, ints, leads_place i ps, same_not i p.0)

-- so an index that is not listed goes to its place
pub raised_new : (i : ℤ) (ps : Pairs) (k : ℕ) → Err k ≡ sought i ps → raised i ps ≡ insert ps k (i, 1)
raised_new i ps k e =
    let h = sought_err i ps k e in
    subst (λ n. raised i ps ≡ insert ps n (i, 1)) h.1 (raised_insert i ps (place i ps) (below_place i ps) (leads_place i ps h.0))

-- and one that is listed is raised where it stands, seen from the first n pairs of a table
pub raised_front : (t : Pairs) (n k : ℕ) (d : ℤ × ℕ) → n ≤ length t → k < n → T (rising (take n t)) → take n (set t k ((get_or t k d).0, (get_or t k d).1 + 1)) ≡ raised (get_or (take n t) k d).0 (take n t)
raised_front t n k d fits h r =
    sym (raised_taken t n k d r h fits) ∙ ap (λ q. raised q.0 (take n t)) (sym (get_or-take n t k d h))
