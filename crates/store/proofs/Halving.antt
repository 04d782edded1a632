-- Halving every index.
use Rattle.std.proofs.Common.{◌≡◌, ℕ, suc, ◌+◌, ◌<◌, ◌≤◌, cond, ◌||◌, T, [], ◌∷◌, length, ℤ, pos, ◌+ℤ◌, ◌-ℤ◌, ◌≤ℤ◌, refl, arith}
use Rattle.std.proofs.lemmas.Int.{ints}
use Rattle.std.proofs.lemmas.Bool.{cond_both}
use Rattle.index.specs.Index.{in_index_range, halved}
use Rattle.index.proofs.Halving.{halves}
use Rattle.store.specs.Pairs.{Pairs, Means, same, rising, counted, total, listed, count_at, joined, halved_pairs}
use Rattle.store.specs.Laws.{Halving}
use Rattle.store.proofs.Order.{same_from, same_true, same_false}
use Rattle.store.proofs.Bounds.{Above, From, above_apart, above_less, from_above, rising_tail, rising_above, rising_more, counted_first, counted_tail, counted_more, uncounted_above}

pub halved_order : (i j : ℤ) → i ≤ℤ j → halved i ≤ℤ halved j
halved_order i j h = let a = halves i in let b = halves j in omega (arith, ints)

pub halved_in_range : (i : ℤ) → T (in_index_range i) → T (in_index_range (halved i))
halved_in_range i t = let h = halves i in grind (arith, ints)

-- the two ways of `joined`, for a fact about the list that results
pub by_joined : (P : Pairs → Type 0) (p q : ℤ × ℕ) (qs : Pairs) → (p.0 ≡ q.0 → P ((p.0, p.1 + q.1) ∷ qs)) → ((p.0 ≡ q.0 → ⊥) → P (p ∷ q ∷ qs)) → P (joined p (q ∷ qs))
by_joined P p q qs meets apart =
    cond_both (same p.0 q.0) ((p.0, p.1 + q.1) ∷ qs) (p ∷ q ∷ qs) P
    (λ e. meets (same_true p.0 q.0 e))
    (λ e. apart (same_false p.0 q.0 e))

pub total_joined : (p : ℤ × ℕ) (qs : Pairs) → total (joined p qs) ≡ p.1 + total qs
total_joined p [] = refl
total_joined p (q ∷ qs) = grind arith

pub counted_joined : (p : ℤ × ℕ) (qs : Pairs) → 0 < p.1 → T (counted qs) → T (counted (joined p qs))
counted_joined p [] h c = counted_more p [] h tt
counted_joined p (q ∷ qs) h c = grind (arith, counted_more, counted_tail q qs c)

pub length_joined : (p : ℤ × ℕ) (qs : Pairs) → length (joined p qs) ≤ suc (length qs)
length_joined p [] = omega arith
length_joined p (q ∷ qs) = grind arith

pub listed_joined : (i : ℤ) (p : ℤ × ℕ) (qs : Pairs) → listed i (joined p qs) ≡ (same i p.0 || listed i qs)
listed_joined i p [] = refl
listed_joined i p (q ∷ qs) = grind (arith, same_true)

pub from_joined : (k : ℤ) (p : ℤ × ℕ) (qs : Pairs) → k ≤ℤ p.0 → From k qs → From k (joined p qs)
from_joined k p [] h f = (h, tt)
from_joined k p (q ∷ qs) h f = grind arith

pub rising_joined : (p : ℤ × ℕ) (qs : Pairs) → From p.0 qs → T (rising qs) → T (rising (joined p qs))
rising_joined p [] f r = tt
rising_joined p (q ∷ qs) f r =
    by_joined (λ xs. T (rising xs)) p q qs
    (λ e. rising_more (p.0, p.1 + q.1) qs (above_less p.0 q.0 qs f.0 (rising_above q qs r)) (rising_tail q qs r))
    (λ n. rising_more p (q ∷ qs) (above_apart p q qs n f.0 (rising_above q qs r)) r)

-- what joining p adds to the count of i
abbrev pub share : ℤ → ℤ × ℕ → ℕ
share i p = cond (same i p.0) p.1 0

-- before higher indices
pub count_share : (i : ℤ) (p : ℤ × ℕ) (qs : Pairs) → Above p.0 qs → count_at i (p ∷ qs) ≡ share i p + count_at i qs
count_share i p qs a = grind (arith, same_true, uncounted_above p.0 qs a)

pub count_joined : (i : ℤ) (p : ℤ × ℕ) (qs : Pairs) → From p.0 qs → T (rising qs) → count_at i (joined p qs) ≡ share i p + count_at i qs
count_joined i p [] f r = omega arith
count_joined i p (q ∷ qs) f r =
    by_joined (λ xs. count_at i xs ≡ share i p + count_at i (q ∷ qs)) p q qs
    (λ e. grind (arith, same_true))
    (λ n. count_share i p (q ∷ qs) (above_apart p q qs n f.0 (rising_above q qs r)))

pub total_halved : (ps : Pairs) → total (halved_pairs ps) ≡ total ps
total_halved [] = refl
total_halved (p ∷ ps) = omega (arith, total_joined (halved p.0, p.1) (halved_pairs ps), total_halved ps)

pub counted_halved : (ps : Pairs) → T (counted ps) → T (counted (halved_pairs ps))
counted_halved [] c = tt
counted_halved (p ∷ ps) c =
    counted_joined (halved p.0, p.1) (halved_pairs ps) (counted_first p ps c) (counted_halved ps (counted_tail p ps c))

pub length_halved : (ps : Pairs) → length (halved_pairs ps) ≤ length ps
length_halved [] = omega arith
length_halved (p ∷ ps) = omega (arith, length_joined (halved p.0, p.1) (halved_pairs ps), length_halved ps)

pub from_halved : (k : ℤ) (ps : Pairs) → From k ps → From (halved k) (halved_pairs ps)
from_halved k [] f = tt
from_halved k (p ∷ ps) f =
    from_joined (halved k) (halved p.0, p.1) (halved_pairs ps) (halved_order k p.0 f.0) (from_halved k ps f.1)

pub rising_halved : (ps : Pairs) → T (rising ps) → T (rising (halved_pairs ps))
rising_halved [] r = tt
rising_halved (p ∷ ps) r =
    rising_joined (halved p.0, p.1) (halved_pairs ps) (from_halved p.0 ps (from_above p.0 ps (rising_above p ps r))) (rising_halved ps (rising_tail p ps r))

pub means_halved : (ps : Pairs) → Means ps → Means (halved_pairs ps)
means_halved ps m =
    record {
      rises = rising_halved ps m.rises;
      counts = counted_halved ps m.counts;
      bounded = let b = m.bounded in omega (arith, total_halved ps);
    }

-- the halves that meet at i
pub same_halved : (i k : ℤ) → same i (halved k) ≡ (same (i +ℤ i -ℤ pos 1) k || same (i +ℤ i) k)
same_halved i k = let h = halves k in grind (arith, ints, same_true, same_from)

share_halved : (i : ℤ) (p : ℤ × ℕ) → share i (halved p.0, p.1) ≡ share (i +ℤ i -ℤ pos 1) p + share (i +ℤ i) p
share_halved i p = grind (arith, ints, same_halved i p.0, same_true)

pub count_halved : (i : ℤ) (ps : Pairs) → T (rising ps) → count_at i (halved_pairs ps) ≡ count_at (i +ℤ i -ℤ pos 1) ps + count_at (i +ℤ i) ps
count_halved i [] r = refl
count_halved i (p ∷ ps) r =
    let a = rising_above p ps r in
    let t = rising_tail p ps r in
    omega (arith, count_joined i (halved p.0, p.1) (halved_pairs ps) (from_halved p.0 ps (from_above p.0 ps a)) (rising_halved ps t), count_halved i ps t, share_halved i p, count_share (i +ℤ i -ℤ pos 1) p ps a, count_share (i +ℤ i) p ps a)

pub listed_halved : (i : ℤ) (ps : Pairs) → listed i (halved_pairs ps) ≡ (listed (i +ℤ i -ℤ pos 1) ps || listed (i +ℤ i) ps)
listed_halved i [] = refl
listed_halved i (p ∷ ps) =
    grind (arith, listed_joined i (halved p.0, p.1) (halved_pairs ps), same_halved i p.0, listed_halved i ps)

pub halving : Halving
halving ps r =
    record {
      counts = λ i. count_halved i ps r;
      sum = total_halved ps;
      lists = λ i. listed_halved i ps;
      means = means_halved ps;
      shorter = length_halved ps;
    }
