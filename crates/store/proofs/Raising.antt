-- Raising an index.
use Rattle.std.proofs.Common.{◌≡◌, ℕ, ◌+◌, ◌^◌, ◌<◌, ◌||◌, T, [], ◌∷◌, ◌++◌, ℤ, ◌<ℤ◌, sym, refl, subst, inl, inr, arith}
use lib.Signed.{lt_z}
use Rattle.std.proofs.lemmas.Int.{ints}
use Rattle.store.specs.Pairs.{Pairs, Means, same, leads, rising, counted, total, listed, count_at, raised}
use Rattle.store.specs.Laws.{Raising}
use Rattle.store.proofs.Order.{same_itself, same_true, cases_index}
use Rattle.store.proofs.Bounds.{Above, Below, T_and, above_less, rising_tail, rising_above, rising_more, counted_first, counted_tail, counted_more, uncounted_above}

pub raised_before : (i : ℤ) (p : ℤ × ℕ) (ps : Pairs) → i <ℤ p.0 → raised i (p ∷ ps) ≡ (i, 1) ∷ p ∷ ps
raised_before i p ps h = grind (arith, ints)

pub raised_here : (i : ℤ) (p : ℤ × ℕ) (ps : Pairs) → i ≡ p.0 → raised i (p ∷ ps) ≡ (p.0, p.1 + 1) ∷ ps
raised_here i p ps e = grind (arith, ints, same_itself)

pub raised_after : (i : ℤ) (p : ℤ × ℕ) (ps : Pairs) → p.0 <ℤ i → raised i (p ∷ ps) ≡ p ∷ raised i ps
raised_after i p ps h = grind (arith, ints, same_true)

-- the three ways of it, for a fact about the list that results
pub by_raised : (P : Pairs → Type 0) (i : ℤ) (p : ℤ × ℕ) (ps : Pairs) → (i <ℤ p.0 → P ((i, 1) ∷ p ∷ ps)) → (i ≡ p.0 → P ((p.0, p.1 + 1) ∷ ps)) → (p.0 <ℤ i → P (p ∷ raised i ps)) → P (raised i (p ∷ ps))
by_raised P i p ps before here after =
    elim (cases_index i p.0) [
      | inl h ↦ subst P (sym (raised_before i p ps h)) (before h)
      | inr (inl e) ↦ subst P (sym (raised_here i p ps e)) (here e)
      | inr (inr h) ↦ subst P (sym (raised_after i p ps h)) (after h)
    ]

pub total_raised : (i : ℤ) (ps : Pairs) → total (raised i ps) ≡ total ps + 1
total_raised i [] = refl
total_raised i (p ∷ ps) = grind (arith, total_raised i ps)

pub counted_raised : (i : ℤ) (ps : Pairs) → T (counted ps) → T (counted (raised i ps))
counted_raised i [] c = tt
counted_raised i (p ∷ ps) c = grind (arith, counted_more, counted_first p ps c, counted_tail p ps c, counted_raised i ps)

pub above_raised : (k i : ℤ) (ps : Pairs) → k <ℤ i → Above k ps → Above k (raised i ps)
above_raised k i [] h a = (h, tt)
above_raised k i (p ∷ ps) h a = grind (arith, above_raised k i ps h a.1)

pub rising_raised : (i : ℤ) (ps : Pairs) → T (rising ps) → T (rising (raised i ps))
rising_raised i [] r = tt
rising_raised i (p ∷ ps) r =
    by_raised (λ qs. T (rising qs)) i p ps
    (λ h. T_and (lt_z i p.0) (rising (p ∷ ps)) h.lt r)
    (λ e. r)
    (λ h. rising_more p (raised i ps) (above_raised p.0 i ps h (rising_above p ps r)) (rising_raised i ps (rising_tail p ps r)))

pub means_raised : (i : ℤ) (ps : Pairs) → total ps + 1 < 2 ^ 64 → Means ps → Means (raised i ps)
means_raised i ps h m =
    record {
      rises = rising_raised i ps m.rises;
      counts = counted_raised i ps m.counts;
      bounded = omega (arith, total_raised i ps);
    }

pub listed_raised : (j i : ℤ) (ps : Pairs) → listed j (raised i ps) ≡ (same j i || listed j ps)
listed_raised j i [] = refl
listed_raised j i (p ∷ ps) = grind (arith, ints, same_true, listed_raised j i ps)

pub count_raised : (i : ℤ) (ps : Pairs) → T (rising ps) → count_at i (raised i ps) ≡ count_at i ps + 1
count_raised i [] r = grind (arith, same_itself)
count_raised i (p ∷ ps) r = grind (arith, ints, same_true, same_itself, uncounted_above i ps, above_less i p.0 ps, rising_above p ps r, count_raised i ps (rising_tail p ps r))

pub count_raised_other : (j i : ℤ) (ps : Pairs) → (j ≡ i → ⊥) → count_at j (raised i ps) ≡ count_at j ps
count_raised_other j i [] n = grind (arith, same_true)
count_raised_other j i (p ∷ ps) n = grind (arith, ints, same_true, count_raised_other j i ps n)

pub raising : Raising
raising i ps r =
    record {
      count = count_raised i ps r;
      others = λ j n. count_raised_other j i ps n;
      sum = total_raised i ps;
      lists = λ j. listed_raised j i ps;
      means = λ m h. means_raised i ps h m;
    }

-- raising in a list of two parts
pub raised_right : (i : ℤ) (xs ys : Pairs) → Below i xs → raised i (xs ++ ys) ≡ xs ++ raised i ys
raised_right i [] ys b = refl
raised_right i (x ∷ xs) ys b = grind (arith, raised_after i x (xs ++ ys), raised_right i xs ys b.1)

pub raised_left : (i : ℤ) (xs ys : Pairs) → T (leads i ys) → raised i (xs ++ ys) ≡ raised i xs ++ ys
raised_left i [] [] l = refl
raised_left i [] (y ∷ ys) l = raised_before i y ys (record { lt = l })
raised_left i (x ∷ xs) ys l = grind (arith, raised_left i xs ys l)

-- i put in between
pub raised_between : (i : ℤ) (xs ys : Pairs) → Below i xs → T (leads i ys) → raised i (xs ++ ys) ≡ xs ++ (i, 1) ∷ ys
raised_between i xs ys b l = grind (arith, raised_right i xs ys b, raised_left i [] ys l)

-- the count of a listed i
pub raised_at : (i : ℤ) (c : ℕ) (xs ys : Pairs) → Below i xs → raised i (xs ++ (i, c) ∷ ys) ≡ xs ++ (i, c + 1) ∷ ys
raised_at i c xs ys b = grind (arith, raised_right i xs ((i, c) ∷ ys) b, raised_here i (i, c) ys)
