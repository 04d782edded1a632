-- Taking the lowest pair.
use Rattle.std.proofs.Common.{◌≡◌, ℕ, T, [], ◌∷◌, ℤ, ◌≤ℤ◌, sym, refl, subst, arith}
use Rattle.std.proofs.lemmas.Int.{ints}
use Rattle.store.specs.Pairs.{Pairs, Means, rising, listed, without_lowest}
use Rattle.store.specs.Laws.{Taken, Taking}
use Rattle.store.proofs.Order.{same_true}
use Rattle.store.proofs.Bounds.{From, from_above, rising_tail, rising_above, counted_tail, uncounted_above, count_first, count_other}

-- every listed index is i or above
pub from_listed : (i j : ℤ) (ps : Pairs) → From i ps → T (listed j ps) → i ≤ℤ j
from_listed i j [] f t = absurd t
from_listed i j (p ∷ ps) f t = grind (arith, ints, same_true, from_listed i j ps f.1)

pub means_taken : (ps : Pairs) → Means ps → Means (without_lowest ps)
means_taken [] m = m
means_taken (p ∷ ps) m =
    record {
      rises = rising_tail p ps m.rises;
      counts = counted_tail p ps m.counts;
      bounded = let b = m.bounded in omega arith;
    }

taken_first : (p : ℤ × ℕ) (ps : Pairs) → T (rising (p ∷ ps)) → Taken p (p ∷ ps)
taken_first p ps r =
    let a = rising_above p ps r in
    record {
      least = λ i t. from_listed p.0 i (p ∷ ps) (omega (arith, ints), from_above p.0 ps a) t;
      count = count_first p ps;
      gone = uncounted_above p.0 ps a;
      others = λ i n. sym (count_other i p ps n);
      sum = refl;
      means = λ m. means_taken (p ∷ ps) m;
    }

pub taking : Taking
taking p [] r e = cc
taking p (q ∷ ps) r e = let s : q ≡ p = cc in subst (λ x. Taken x (q ∷ ps)) s (taken_first q ps r)
