-- The place of an index in a rising list of pairs.
use Rattle.std.proofs.Common.{◌≡◌, ℕ, ◌<◌, ◌≤◌, true, false, T, [], ◌∷◌, length, get_or, ℤ, ◌<ℤ◌, Ok, Err, refl, arith}
use Rattle.std.proofs.lemmas.Int.{ints}
use Rattle.std.proofs.lemmas.Bool.{both_ways}
use Rattle.store.specs.Pairs.{Pairs, rising, listed}
use Rattle.store.proofs.Order.{above_same}
use Rattle.store.proofs.Bounds.{above_less, rising_tail, rising_above, unlisted_above}
use Rattle.row.specs.Rows.{place, sought}

pub place_within : (i : ℤ) (ps : Pairs) → place i ps ≤ length ps
place_within i [] = omega arith
place_within i (p ∷ ps) = grind (arith, place_within i ps)

pub place_listed : (i : ℤ) (ps : Pairs) → listed i ps ≡ true → place i ps < length ps
place_listed i [] e = absurd (both_ways false refl e)
place_listed i (p ∷ ps) e = grind (arith, ints, above_same i p.0, place_listed i ps)

-- an index below the first is not listed
below_first : (i : ℤ) (p : ℤ × ℕ) (ps : Pairs) → T (rising (p ∷ ps)) → i <ℤ p.0 → listed i (p ∷ ps) ≡ false
below_first i p ps r h = unlisted_above i (p ∷ ps) (h, above_less i p.0 ps (omega (arith, ints)) (rising_above p ps r))

-- a listed index stands at its place
pub index_at_place : (i : ℤ) (ps : Pairs) (d : ℤ × ℕ) → T (rising ps) → listed i ps ≡ true → (get_or ps (place i ps) d).0 ≡ i
index_at_place i [] d r e = absurd (both_ways false refl e)
index_at_place i (p ∷ ps) d r e = grind (arith, ints, below_first i p ps r, above_same i p.0, index_at_place i ps d (rising_tail p ps r))

-- what an answer of a search tells
pub sought_ok : (i : ℤ) (ps : Pairs) (k : ℕ) → Ok k ≡ sought i ps → (listed i ps ≡ true) × (place i ps ≡ k)
sought_ok i ps k e = grind arith

pub sought_err : (i : ℤ) (ps : Pairs) (k : ℕ) → Err k ≡ sought i ps → (listed i ps ≡ false) × (place i ps ≡ k)
sought_err i ps k e = grind arith

-- what a search answers of an index that is not listed
pub sought_unlisted : (i : ℤ) (ps : Pairs) (k : ℕ) → listed i ps ≡ false → place i ps ≡ k → Err k ≡ sought i ps
sought_unlisted i ps k n e = grind arith
