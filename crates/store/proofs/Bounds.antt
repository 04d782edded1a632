-- Lists whose indices all lie above, below or from an index, and rising lists by their parts.
use Rattle.std.proofs.Common.{◌≡◌, ℕ, ◌<◌, Bool, false, ◌&&◌, T, ltb, [], ◌∷◌, ℤ, ◌≤ℤ◌, ◌<ℤ◌, refl, arith}
use Rattle.std.proofs.lemmas.Int.{ints}
use Rattle.std.proofs.lemmas.Bool.Decides.{nat_tests}
use Rattle.store.specs.Pairs.{Pairs, leads, rising, counted, listed, count_at}
use Rattle.store.proofs.Order.{same_itself, same_true, below_same}

pub and_T : (x y : Bool) → T (x && y) → T x × T y
and_T x y t = grind arith

pub T_and : (x y : Bool) → T x → T y → T (x && y)
T_and x y s t = grind arith

-- every index is above i
abbrev pub Above : ℤ → Pairs → Type 0
Above i [] = Unit {0}
Above i (p ∷ ps) = (i <ℤ p.0) × Above i ps

-- every index is i or above
abbrev pub From : ℤ → Pairs → Type 0
From i [] = Unit {0}
From i (p ∷ ps) = (i ≤ℤ p.0) × From i ps

-- every index is below i
abbrev pub Below : ℤ → Pairs → Type 0
Below i [] = Unit {0}
Below i (p ∷ ps) = (p.0 <ℤ i) × Below i ps

pub above_less : (i j : ℤ) (ps : Pairs) → i ≤ℤ j → Above j ps → Above i ps
above_less i j [] h a = tt
above_less i j (p ∷ ps) h a = grind (arith, ints, above_less i j ps h a.1)

-- what lies from an index on lies above every lower one
pub above_from : (i j : ℤ) (ps : Pairs) → i <ℤ j → From j ps → Above i ps
above_from i j [] h a = tt
above_from i j (p ∷ ps) h a = grind (arith, ints, above_from i j ps h a.1)

pub from_above : (i : ℤ) (ps : Pairs) → Above i ps → From i ps
from_above i [] a = tt
from_above i (p ∷ ps) a = grind (arith, ints, from_above i ps a.1)

-- what lies from an index on lies from every lower one on
pub from_less : (i j : ℤ) (ps : Pairs) → i ≤ℤ j → From j ps → From i ps
from_less i j [] h a = tt
from_less i j (p ∷ ps) h a = grind (arith, ints, from_less i j ps h a.1)

-- an index not above the first of a rising list, and not that
pub above_apart : (p q : ℤ × ℕ) (qs : Pairs) → (p.0 ≡ q.0 → ⊥) → p.0 ≤ℤ q.0 → Above q.0 qs → Above p.0 (q ∷ qs)
above_apart p q qs n h a = grind (arith, ints, above_less p.0 q.0 qs h a)

pub leads_from_above : (i : ℤ) (ps : Pairs) → Above i ps → T (leads i ps)
leads_from_above i [] a = tt
leads_from_above i (p ∷ ps) a = a.0.lt

-- a rising list, by its first pair
pub rising_tail : (p : ℤ × ℕ) (ps : Pairs) → T (rising (p ∷ ps)) → T (rising ps)
rising_tail p ps r = (and_T (leads p.0 ps) (rising ps) r).1

pub above_from_leads : (i : ℤ) (ps : Pairs) → T (leads i ps) → T (rising ps) → Above i ps
above_from_leads i [] l r = tt
above_from_leads i (p ∷ ps) l r =
    let parts = and_T (leads p.0 ps) (rising ps) r in
    let h : i <ℤ p.0 = record { lt = l } in
    grind (arith, ints, above_less i p.0 ps, above_from_leads p.0 ps parts.0 parts.1)

pub rising_above : (p : ℤ × ℕ) (ps : Pairs) → T (rising (p ∷ ps)) → Above p.0 ps
rising_above p ps r =
    let parts = and_T (leads p.0 ps) (rising ps) r in
    above_from_leads p.0 ps parts.0 parts.1

pub rising_more : (p : ℤ × ℕ) (ps : Pairs) → Above p.0 ps → T (rising ps) → T (rising (p ∷ ps))
rising_more p ps a r = T_and (leads p.0 ps) (rising ps) (leads_from_above p.0 ps a) r

-- the same for counts of at least 1
pub counted_first : (p : ℤ × ℕ) (ps : Pairs) → T (counted (p ∷ ps)) → 0 < p.1
counted_first p ps t = grind (arith, nat_tests)

pub counted_tail : (p : ℤ × ℕ) (ps : Pairs) → T (counted (p ∷ ps)) → T (counted ps)
counted_tail p ps t = (and_T (ltb 0 p.1) (counted ps) t).1

pub counted_more : (p : ℤ × ℕ) (ps : Pairs) → 0 < p.1 → T (counted ps) → T (counted (p ∷ ps))
counted_more p ps h t = grind (arith, nat_tests)

-- an index below all others has no pair
pub unlisted_above : (i : ℤ) (ps : Pairs) → Above i ps → listed i ps ≡ false
unlisted_above i [] a = refl
unlisted_above i (p ∷ ps) a = grind (arith, below_same i p.0 a.0, unlisted_above i ps a.1)

pub uncounted_above : (i : ℤ) (ps : Pairs) → Above i ps → count_at i ps ≡ 0
uncounted_above i [] a = refl
uncounted_above i (p ∷ ps) a = grind (arith, below_same i p.0 a.0, uncounted_above i ps a.1)

pub count_first : (p : ℤ × ℕ) (ps : Pairs) → count_at p.0 (p ∷ ps) ≡ p.1
count_first p ps = grind (arith, same_itself)

pub count_other : (i : ℤ) (p : ℤ × ℕ) (ps : Pairs) → (i ≡ p.0 → ⊥) → count_at i (p ∷ ps) ≡ count_at i ps
count_other i p ps n = grind (arith, same_true)
