-- Room: the listed indices and a new one in 512 consecutive ones.
use Rattle.std.specs.Prelude.{◌≡◌, ℕ, zero, suc, ◌+◌, ◌<◌, true, false, T, [], ◌∷◌, ℤ, pos, ◌+ℤ◌, ◌≤ℤ◌, ◌<ℤ◌, int_le, int_lt, refl}
use Rattle.std.proofs.Common.{sym, ap, subst, ◌∙◌, ⊎_elim, arith}
use Rattle.std.specs.Int.{int_max, int_min}
use Rattle.std.proofs.lemmas.Int.{ints, clamps}
use Rattle.std.proofs.lemmas.Bool.{or_cases, cases_Bool}
use Rattle.store.specs.Pairs.{Pairs, same, listed}
use Rattle.store.proofs.Order.{same_true, T_true, true_T, not_lt_z, lt_z_below}
use Rattle.store.proofs.Bounds.{Above}
use Rattle.run.specs.Window.{index_of, put_count, listing, lowest_with, highest_with, fits_window}
use Rattle.run.specs.Listings.{index_below, above_listing, counted_used}

min_past : (i j k m : ℤ) → j <ℤ k → int_min j m ≡ int_min j i → int_min j (int_min k m) ≡ int_min j i
min_past i j k m h e = omega (arith, ints, clamps)

lowest_above : (i j : ℤ) (ps : Pairs) → Above j ps → int_min j (lowest_with i ps) ≡ int_min j i
lowest_above i j [] a = refl
lowest_above i j (p ∷ ps) a = min_past i j p.0 (lowest_with i ps) a.0 (lowest_above i j ps a.1)

-- the lowest is i or the first index, where that is used
pub lowest_listing : (f : ℕ → ℕ) (a n : ℕ) (i : ℤ) → 0 < n → 0 < f a → lowest_with i (listing f a n) ≡ int_min (index_of a) i
lowest_listing f a zero i h u = absurd (omega arith)
lowest_listing f a (suc n) i h u =
    ap (lowest_with i) (counted_used (index_of a) (f a) (listing f (a + 1) n) u)
    ∙ lowest_above i (index_of a) (listing f (a + 1) n) (above_listing f (a + 1) n a (omega arith))

max_past : (i j k : ℤ) → j <ℤ k → int_max j (int_max k i) ≡ int_max k i
max_past i j k h = omega (arith, ints, clamps)

highest_counted : (i j k : ℤ) (c : ℕ) (ps : Pairs) → j <ℤ k → highest_with i ps ≡ int_max k i → highest_with i (put_count j c ps) ≡ int_max k i
highest_counted i j k zero ps h e = e
highest_counted i j k (suc c) ps h e = ap (int_max j) e ∙ max_past i j k h

-- the highest is i or the last index, where that is used
pub highest_listing : (f : ℕ → ℕ) (a n : ℕ) (i : ℤ) → 0 < f (a + n) → highest_with i (listing f a (suc n)) ≡ int_max (index_of (a + n)) i
highest_listing f a zero i u =
    let q : a + 0 ≡ a = omega arith in
    let v : 0 < f a = subst (λ b. 0 < f b) q u in
    ap (highest_with i) (counted_used (index_of a) (f a) [] v) ∙ ap (λ b. int_max (index_of b) i) (sym q)
highest_listing f a (suc n) i u =
    let q : a + 1 + n ≡ a + suc n = omega arith in
    let v : 0 < f (a + 1 + n) = subst (λ b. 0 < f b) (sym q) u in
    highest_counted i (index_of a) (index_of (a + suc n)) (f a) (listing f (a + 1) (suc n))
    (index_below a (a + suc n) (omega arith))
    (highest_listing f (a + 1) n i v ∙ ap (λ b. int_max (index_of b) i) q)

-- the 512 indices that hold lo to hi and i, by the tests that a run makes
pub room_between : (lo hi i : ℤ) → lo ≤ℤ hi → hi ≤ℤ (lo +ℤ pos 511) → hi ≤ℤ (i +ℤ pos 511) → i ≤ℤ (lo +ℤ pos 511) → int_lt (int_max hi i) (int_min lo i +ℤ pos 512) ≡ true
room_between lo hi i o w h l =
    let q : int_max hi i <ℤ (int_min lo i +ℤ pos 512) = omega (arith, ints, clamps) in T_true _ q.lt

pub room_too_low : (lo hi i : ℤ) → (i +ℤ pos 511) <ℤ hi → int_lt (int_max hi i) (int_min lo i +ℤ pos 512) ≡ false
room_too_low lo hi i h =
    let q : (int_min lo i +ℤ pos 512) ≤ℤ int_max hi i = omega (arith, ints, clamps) in not_lt_z _ _ q

pub room_too_high : (lo hi i : ℤ) → (lo +ℤ pos 511) <ℤ i → int_lt (int_max hi i) (int_min lo i +ℤ pos 512) ≡ false
room_too_high lo hi i h =
    let q : (int_min lo i +ℤ pos 512) ≤ℤ int_max hi i = omega (arith, ints, clamps) in not_lt_z _ _ q

pub room_below : (lo hi i : ℤ) → int_lt (int_max hi i) (int_min lo i +ℤ pos 512) ≡ true → (hi <ℤ (i +ℤ pos 512)) × (i <ℤ (lo +ℤ pos 512))
room_below lo hi i e =
    let q : int_max hi i <ℤ (int_min lo i +ℤ pos 512) = lt_z_below _ _ e in
    (omega (arith, ints, clamps), omega (arith, ints, clamps))

-- an empty list has room for every index
pub room_empty : (i : ℤ) → fits_window [] i ≡ true
room_empty i = let q : i <ℤ (i +ℤ pos 512) = omega (arith, ints) in T_true _ q.lt

-- a listed index lies in the window
listed_counted : (i j : ℤ) (c : ℕ) (ps : Pairs) (P : Type 0) → (i ≡ j → P) → (T (listed i ps) → P) → T (listed i (put_count j c ps)) → P
listed_counted i j zero ps P f g t = g t
listed_counted i j (suc c) ps P f g t =
    ⊎_elim (λ e. f (same_true i j e)) (λ e. g (true_T (listed i ps) e)) (or_cases (same i j) (listed i ps) (T_true _ t))

pub listed_within : (f : ℕ → ℕ) (a n : ℕ) (i : ℤ) → T (listed i (listing f a n)) → (index_of a ≤ℤ i) × (i <ℤ index_of (a + n))
listed_within f a zero i t = absurd t
listed_within f a (suc n) i t =
    listed_counted i (index_of a) (f a) (listing f (a + 1) n) ((index_of a ≤ℤ i) × (i <ℤ index_of (a + suc n)))
    (λ e. (omega (arith, ints), omega (arith, ints)))
    (λ u. let w = listed_within f (a + 1) n i u in (omega (arith, ints), omega (arith, ints)))
    t

-- tests on indices, and what they tell
pub le_z_true : (a b : ℤ) → int_le a b ≡ true → a ≤ℤ b
le_z_true a b e = grind (arith, ints)

pub le_z_false : (a b : ℤ) → int_le a b ≡ false → b <ℤ a
le_z_false a b e = grind (arith, ints)

pub room_up_to : (lo hi i : ℤ) → lo ≤ℤ hi → hi ≤ℤ (lo +ℤ pos 511) → hi ≤ℤ (i +ℤ pos 511) → int_le i (lo +ℤ pos 511) ≡ int_lt (int_max hi i) (int_min lo i +ℤ pos 512)
room_up_to lo hi i o w h =
    ⊎_elim
    (λ e.
    let l : i ≤ℤ (lo +ℤ pos 511) = le_z_true i (lo +ℤ pos 511) e in
    e ∙ sym (room_between lo hi i o w h l))
    (λ e.
    let l : (lo +ℤ pos 511) <ℤ i = le_z_false i (lo +ℤ pos 511) e in
    e ∙ sym (room_too_high lo hi i l))
    (cases_Bool (int_le i (lo +ℤ pos 511)))
