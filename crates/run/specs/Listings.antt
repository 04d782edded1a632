-- What consecutive counters list.
use Rattle.std.specs.Prelude.{◌≡◌, ℕ, zero, suc, ◌+◌, ◌-◌, ◌<◌, ◌≤◌, T, [], ◌∷◌, length, cond, ℤ, pos, negsuc, ◌≤ℤ◌, ◌<ℤ◌, Some, Option, ◌≢◌, int_le, int_lt, refl}
use Rattle.std.proofs.Common.{sym, ap, ◌∙◌, ⊎_elim, zero-add, add-zero, arith}
use Rattle.std.proofs.lemmas.Int.{ints}
use Rattle.std.proofs.lemmas.Bool.{cond-true, cond-false, cases_eq}
use Rattle.index.specs.Index.{in_index_range}
use Rattle.store.specs.Pairs.{Pairs, same, rising, counted, ranged, total, pair_at, raised, joined, lowest, without_lowest}
use Rattle.store.proofs.Order.{cases_index, same_itself, same_from, below_same, above_same, below_lt_z, not_lt_z}
use Rattle.store.proofs.Bounds.{Above, T_and, rising_more, counted_more}
use Rattle.store.proofs.Range.{ranged_more}
use Rattle.run.specs.Window.{positions, index_of, put_count, listing, raised_by}

-- indices rise with their positions
pub index_below : (a b : ℕ) → a < b → index_of a <ℤ index_of b
index_below a b h = omega (arith, ints)

-- equal counters list the same
pub listing_same : (f g : ℕ → ℕ) (a n : ℕ) → ((k : ℕ) → a ≤ k → k < a + n → f k ≡ g k) → listing f a n ≡ listing g a n
listing_same f g a zero e = refl
listing_same f g a (suc n) e =
    let here : f a ≡ g a = e a (omega arith) (omega arith) in
    let rest : listing f (a + 1) n ≡ listing g (a + 1) n =
    listing_same f g (a + 1) n (λ k h l. e k (omega arith) (omega arith)) in
    cc

-- counters of 0 list nothing
pub listing_none : (f : ℕ → ℕ) (a n : ℕ) → ((k : ℕ) → a ≤ k → k < a + n → f k ≡ 0) → listing f a n ≡ []
listing_none f a zero e = refl
listing_none f a (suc n) e =
    ap (λ c. put_count (index_of a) c (listing f (a + 1) n)) (e a (omega arith) (omega arith))
    ∙ listing_none f (a + 1) n (λ k h l. e k (omega arith) (omega arith))

-- one position more, at the start
pub listing_first : (f : ℕ → ℕ) (a e : ℕ) → a < e → listing f a (e - a) ≡ put_count (index_of a) (f a) (listing f (a + 1) (e - (a + 1)))
listing_first f a e h =
    let q : e - a ≡ suc (e - (a + 1)) = omega arith in ap (listing f a) q

-- counters of 0 below
pub listing_below : (f : ℕ → ℕ) (a m n : ℕ) → ((k : ℕ) → a ≤ k → k < a + m → f k ≡ 0) → listing f a (m + n) ≡ listing f (a + m) n
listing_below f a zero n e = simp (zero-add, add-zero)
listing_below f a (suc m) n e =
    let q : suc m + n ≡ suc (m + n) = omega arith in
    let r : a + 1 + m ≡ a + suc m = omega arith in
    ap (listing f a) q
    ∙ ap (λ c. put_count (index_of a) c (listing f (a + 1) (m + n))) (e a (omega arith) (omega arith))
    ∙ listing_below f (a + 1) m n (λ k h l. e k (omega arith) (omega arith))
    ∙ ap (λ b. listing f b n) r

-- counters of 0 above
pub listing_above : (f : ℕ → ℕ) (a n m : ℕ) → ((k : ℕ) → a + n ≤ k → k < a + n + m → f k ≡ 0) → listing f a (n + m) ≡ listing f a n
listing_above f a zero m e =
    ap (listing f a) (zero-add m) ∙ listing_none f a m (λ k h l. e k (omega arith) (omega arith))
listing_above f a (suc n) m e =
    let q : suc n + m ≡ suc (n + m) = omega arith in
    ap (listing f a) q
    ∙ ap (put_count (index_of a) (f a)) (listing_above f (a + 1) n m (λ k h l. e k (omega arith) (omega arith)))

-- a list of higher indices, with a pair in front
pub above_counted : (i j : ℤ) (c : ℕ) (ps : Pairs) → i <ℤ j → Above i ps → Above i (put_count j c ps)
above_counted i j zero ps h a = a
above_counted i j (suc c) ps h a = (h, a)

pub above_listing : (f : ℕ → ℕ) (a n i : ℕ) → i < a → Above (index_of i) (listing f a n)
above_listing f a zero i h = tt
above_listing f a (suc n) i h =
    above_counted (index_of i) (index_of a) (f a) (listing f (a + 1) n) (index_below i a h)
    (above_listing f (a + 1) n i (omega arith))

rising_counted : (i : ℤ) (c : ℕ) (ps : Pairs) → Above i ps → T (rising ps) → T (rising (put_count i c ps))
rising_counted i zero ps a r = r
rising_counted i (suc c) ps a r = rising_more (i, suc c) ps a r

counted_counted : (i : ℤ) (c : ℕ) (ps : Pairs) → T (counted ps) → T (counted (put_count i c ps))
counted_counted i zero ps t = t
counted_counted i (suc c) ps t = counted_more (i, suc c) ps (omega arith) t

pub rising_listing : (f : ℕ → ℕ) (a n : ℕ) → T (rising (listing f a n))
rising_listing f a zero = tt
rising_listing f a (suc n) =
    rising_counted (index_of a) (f a) (listing f (a + 1) n) (above_listing f (a + 1) n a (omega arith))
    (rising_listing f (a + 1) n)

pub counted_listing : (f : ℕ → ℕ) (a n : ℕ) → T (counted (listing f a n))
counted_listing f a zero = tt
counted_listing f a (suc n) = counted_counted (index_of a) (f a) (listing f (a + 1) n) (counted_listing f (a + 1) n)

-- sums over positions: the total and the number of pairs are such sums
abbrev pub sum_of : (ℕ → ℕ) → ℕ → ℕ → ℕ
sum_of f a zero = 0
sum_of f a (suc n) = f a + sum_of f (a + 1) n

-- 1 for a count that is listed
abbrev pub used : ℕ → ℕ
used zero = 0
used (suc c) = 1

pub used_zero : (c : ℕ) → c ≡ 0 → used c ≡ 0
used_zero c e = ap used e

pub used_more : (c : ℕ) → 0 < c → used c ≡ 1
used_more zero h = omega arith
used_more (suc c) h = refl

pub used_below : (c : ℕ) → used c ≤ 1
used_below zero = omega arith
used_below (suc c) = omega arith

pub total_counted : (i : ℤ) (c : ℕ) (ps : Pairs) → total (put_count i c ps) ≡ c + total ps
total_counted i zero ps = sym (zero-add (total ps))
total_counted i (suc c) ps = refl

pub length_counted : (i : ℤ) (c : ℕ) (ps : Pairs) → length (put_count i c ps) ≡ used c + length ps
length_counted i zero ps = sym (zero-add (length ps))
length_counted i (suc c) ps = omega arith

pub total_listing : (f : ℕ → ℕ) (a n : ℕ) → total (listing f a n) ≡ sum_of f a n
total_listing f a zero = refl
total_listing f a (suc n) =
    total_counted (index_of a) (f a) (listing f (a + 1) n) ∙ ap (λ t. f a + t) (total_listing f (a + 1) n)

pub length_listing : (f : ℕ → ℕ) (a n : ℕ) → length (listing f a n) ≡ sum_of (λ k. used (f k)) a n
length_listing f a zero = refl
length_listing f a (suc n) =
    length_counted (index_of a) (f a) (listing f (a + 1) n) ∙ ap (λ t. used (f a) + t) (length_listing f (a + 1) n)

pub sum_same : (f g : ℕ → ℕ) (a n : ℕ) → ((k : ℕ) → a ≤ k → k < a + n → g k ≡ f k) → sum_of g a n ≡ sum_of f a n
sum_same f g a zero e = refl
sum_same f g a (suc n) e =
    let here : g a ≡ f a = e a (omega arith) (omega arith) in
    let rest : sum_of g (a + 1) n ≡ sum_of f (a + 1) n =
    sum_same f g (a + 1) n (λ k h l. e k (omega arith) (omega arith)) in
    omega arith

-- one summand changed
pub sum_change : (f g : ℕ → ℕ) (a n i : ℕ) → a ≤ i → i < a + n → ((k : ℕ) → a ≤ k → k < a + n → (k ≢ i) → g k ≡ f k) → sum_of g a n + f i ≡ sum_of f a n + g i
sum_change f g a zero i h l e = omega arith
sum_change f g a (suc n) i h l e =
    ⊎_elim
    (λ q.
    let rest : sum_of g (a + 1) n ≡ sum_of f (a + 1) n =
    sum_same f g (a + 1) n (λ k u v. e k (omega arith) (omega arith) (λ w. omega arith)) in
    let x : f a ≡ f i = ap f q in
    let y : g a ≡ g i = ap g q in
    omega arith)
    (λ q.
    let rest : sum_of g (a + 1) n + f i ≡ sum_of f (a + 1) n + g i =
    sum_change f g (a + 1) n i (omega arith) (omega arith) (λ k u v w. e k (omega arith) (omega arith) w) in
    let here : g a ≡ f a = e a (omega arith) (omega arith) q in
    omega arith)
    (cases_eq a i)

-- a summand is at most the sum
pub sum_part : (f : ℕ → ℕ) (a n i : ℕ) → a ≤ i → i < a + n → f i ≤ sum_of f a n
sum_part f a zero i h l = omega arith
sum_part f a (suc n) i h l =
    ⊎_elim
    (λ q. let x : f a ≡ f i = ap f q in omega arith)
    (λ q. let rest = sum_part f (a + 1) n i (omega arith) (omega arith) in omega arith)
    (cases_eq a i)

pub counted_used : (i : ℤ) (c : ℕ) (ps : Pairs) → 0 < c → put_count i c ps ≡ (i, c) ∷ ps
counted_used i zero ps h = absurd (omega arith)
counted_used i (suc c) ps h = refl

-- a raised count
raised_above : (i : ℤ) (c : ℕ) (ps : Pairs) → Above i ps → raised_by i c ps ≡ (i, c) ∷ ps
raised_above i c [] a = refl
raised_above i c (p ∷ ps) a = cond-true (int_lt i p.0) _ _ (below_lt_z i p.0 a.0)

raised_here : (i : ℤ) (c d : ℕ) (ps : Pairs) → Above i ps → 0 < c → raised_by i c (put_count i d ps) ≡ put_count i (d + c) ps
raised_here i zero d ps a h = absurd (omega arith)
raised_here i (suc c) zero ps a h = raised_above i (suc c) ps a ∙ ap (λ n. put_count i n ps) (sym (zero-add (suc c)))
raised_here i (suc c) (suc d) ps a h =
    cond-false (int_lt i i) _ _ (not_lt_z i i (omega (arith, ints))) ∙ cond-true (same i i) _ _ (same_itself i) ∙ sym (counted_used i (suc d + suc c) ps (omega arith))

raised_later : (i j : ℤ) (c d : ℕ) (ps : Pairs) → j <ℤ i → raised_by i c (put_count j d ps) ≡ put_count j d (raised_by i c ps)
raised_later i j c zero ps h = refl
raised_later i j c (suc d) ps h =
    cond-false (int_lt i j) _ _ (not_lt_z i j (omega (arith, ints))) ∙ cond-false (same i j) _ _ (above_same i j h)

pub listing_raised : (f g : ℕ → ℕ) (a n i c : ℕ) → a ≤ i → i < a + n → 0 < c → g i ≡ f i + c → ((k : ℕ) → a ≤ k → k < a + n → (k ≢ i) → g k ≡ f k) → listing g a n ≡ raised_by (index_of i) c (listing f a n)
listing_raised f g a zero i c h l m r e = absurd (omega arith)
listing_raised f g a (suc n) i c h l m r e =
    ⊎_elim
    (λ q.
    let rest : listing g (a + 1) n ≡ listing f (a + 1) n =
    listing_same g f (a + 1) n (λ k u v. e k (omega arith) (omega arith) (λ w. omega arith)) in
    let x : f a ≡ f i = ap f q in
    let y : g a ≡ g i = ap g q in
    let here : g a ≡ f a + c = omega arith in
    let up = raised_here (index_of a) c (f a) (listing f (a + 1) n) (above_listing f (a + 1) n a (omega arith)) m in
    let place : index_of a ≡ index_of i = ap index_of q in
    cc)
    (λ q.
    let here : g a ≡ f a = e a (omega arith) (omega arith) q in
    let rest = listing_raised f g (a + 1) n i c (omega arith) (omega arith) m r (λ k u v w. e k (omega arith) (omega arith) w) in
    let up = raised_later (index_of i) (index_of a) c (f a) (listing f (a + 1) n) (index_below a i (omega arith)) in
    cc)
    (cases_eq a i)

-- by one
pub raised_one : (i : ℤ) (ps : Pairs) → raised_by i 1 ps ≡ raised i ps
raised_one i [] = refl
raised_one i (p ∷ ps) = ap (λ qs. cond (int_lt i p.0) ((i, 1) ∷ p ∷ ps) (cond (same i p.0) ((p.0, p.1 + 1) ∷ ps) (p ∷ qs))) (raised_one i ps)

-- a pair joined to a list of higher indices, and one that meets the first
pub joined_above : (p : ℤ × ℕ) (ps : Pairs) → Above p.0 ps → joined p ps ≡ p ∷ ps
joined_above p [] a = refl
joined_above p (q ∷ qs) a = cond-false (same p.0 q.0) _ _ (below_same p.0 q.0 a.0)

pub joined_here : (i : ℤ) (d c : ℕ) (ps : Pairs) → Above i ps → joined (i, suc d) (put_count i c ps) ≡ put_count i (suc d + c) ps
joined_here i d zero ps a = joined_above (i, suc d) ps a ∙ ap (λ n. put_count i n ps) (sym (add-zero (suc d)))
joined_here i d (suc c) ps a =
    cond-true (same i i) _ _ (same_itself i)
    ∙ sym (counted_used i (suc d + suc c) ps (omega arith))

-- below every listed index or at the lowest, as a pair is joined
joined_counted : (i j : ℤ) (c d : ℕ) (ps : Pairs) → i ≤ℤ j → raised_by i c ps ≡ joined (i, c) ps → raised_by i c (put_count j d ps) ≡ joined (i, c) (put_count j d ps)
joined_counted i j c zero ps h e = e
joined_counted i j c (suc d) ps h e =
    ⊎_elim
    (λ b. cond-true (int_lt i j) _ _ (below_lt_z i j b) ∙ sym (cond-false (same i j) _ _ (below_same i j b)))
    (⊎_elim
    (λ q.
    let up = cond-false (int_lt i j) ((i, c) ∷ (j, suc d) ∷ ps) _ (not_lt_z i j (omega (arith, ints))) ∙ cond-true (same i j) ((j, suc d + c) ∷ ps) ((j, suc d) ∷ raised_by i c ps) (same_from i j q) in
    let front = cond-true (same i j) ((i, c + suc d) ∷ ps) ((i, c) ∷ (j, suc d) ∷ ps) (same_from i j q) in
    let sum : suc d + c ≡ c + suc d = omega arith in
    cc)
    (λ b. absurd (omega (arith, ints))))
    (cases_index i j)

pub raised_joined : (f : ℕ → ℕ) (a n i c : ℕ) → (0 < n → i ≤ a) → raised_by (index_of i) c (listing f a n) ≡ joined (index_of i, c) (listing f a n)
raised_joined f a zero i c h = refl
raised_joined f a (suc n) i c h =
    let low : i ≤ a = h (omega arith) in
    joined_counted (index_of i) (index_of a) c (f a) (listing f (a + 1) n) (omega (arith, ints))
    (raised_joined f (a + 1) n i c (λ u. omega arith))

pub listing_joined : (f g : ℕ → ℕ) (a n i d : ℕ) → a ≤ i → i < a + n → ((k : ℕ) → a ≤ k → k < i → f k ≡ 0) → g i ≡ f i + suc d → ((k : ℕ) → a ≤ k → k < a + n → (k ≢ i) → g k ≡ f k) → listing g a n ≡ joined (index_of i, suc d) (listing f a n)
listing_joined f g a n i d h l z r e =
    let p : n ≡ (i - a) + (n - (i - a)) = omega arith in
    let q : a + (i - a) ≡ i = omega arith in
    let low : listing f a n ≡ listing f i (n - (i - a)) =
    ap (listing f a) p
    ∙ listing_below f a (i - a) (n - (i - a)) (λ k u v. z k u (omega arith))
    ∙ ap (λ b. listing f b (n - (i - a))) q in
    listing_raised f g a n i (suc d) h l (omega arith) r e
    ∙ ap (raised_by (index_of i) (suc d)) low
    ∙ raised_joined f i (n - (i - a)) i (suc d) (λ u. omega arith)
    ∙ ap (joined (index_of i, suc d)) (sym low)

-- the pair at a position of the list, past a counter
pair_past_unused : (i : ℤ) (c k : ℕ) (ps : Pairs) → c ≡ 0 → pair_at (put_count i c ps) k ≡ pair_at ps k
pair_past_unused i c k ps e = ap (λ n. pair_at (put_count i n ps) k) e

pair_past_used : (i : ℤ) (c k : ℕ) (ps : Pairs) → 0 < c → 0 < k → pair_at (put_count i c ps) k ≡ pair_at ps (k - 1)
pair_past_used i zero k ps h l = absurd (omega arith)
pair_past_used i (suc c) zero ps h l = absurd (omega arith)
pair_past_used i (suc c) (suc k) ps h l = ap (pair_at ps) (let q : k ≡ suc k - 1 = omega arith in q)

pair_here : (i : ℤ) (c k : ℕ) (ps : Pairs) → 0 < c → k ≡ 0 → pair_at (put_count i c ps) k ≡ Some (i, c)
pair_here i zero k ps h e = absurd (omega arith)
pair_here i (suc c) k ps h e = ap (pair_at ((i, suc c) ∷ ps)) e

-- a walk from position a up to e that is `left` pairs short of what it looks for
module _ (f : ℕ → ℕ) (a e left : ℕ) (h : a < e) where
  pub walk_ends : (i : ℤ) (sought : Option (ℤ × ℕ)) → i ≡ index_of a → 0 < f a → left ≡ 0 → pair_at (listing f a (e - a)) left ≡ sought → Some (i, f a) ≡ sought
  walk_ends i sought q u z g =
      ap (λ j. Some (j, f a)) q
      ∙ sym (pair_here (index_of a) (f a) left (listing f (a + 1) (e - (a + 1))) u z)
      ∙ ap (λ ps. pair_at ps left) (sym (listing_first f a e h))
      ∙ g

  pub walk_passes : (left' : ℕ) (sought : Option (ℤ × ℕ)) → left' ≡ left - 1 → 0 < f a → 0 < left → pair_at (listing f a (e - a)) left ≡ sought → pair_at (listing f (a + 1) (e - (a + 1))) left' ≡ sought
  walk_passes left' sought q u l g =
      ap (pair_at (listing f (a + 1) (e - (a + 1)))) q
      ∙ sym (pair_past_used (index_of a) (f a) left (listing f (a + 1) (e - (a + 1))) u l)
      ∙ ap (λ ps. pair_at ps left) (sym (listing_first f a e h))
      ∙ g

  pub walk_skips : (left' : ℕ) (sought : Option (ℤ × ℕ)) → left' ≡ left → f a ≡ 0 → pair_at (listing f a (e - a)) left ≡ sought → pair_at (listing f (a + 1) (e - (a + 1))) left' ≡ sought
  walk_skips left' sought q z g =
      ap (pair_at (listing f (a + 1) (e - (a + 1)))) q
      ∙ sym (pair_past_unused (index_of a) (f a) left (listing f (a + 1) (e - (a + 1))) z)
      ∙ ap (λ ps. pair_at ps left) (sym (listing_first f a e h))
      ∙ g

-- the lowest pair, where the first counter is used
pub lowest_here : (i : ℤ) (c : ℕ) (ps : Pairs) → 0 < c → lowest (put_count i c ps) ≡ Some (i, c)
lowest_here i zero ps h = absurd (omega arith)
lowest_here i (suc c) ps h = refl

pub without_here : (i : ℤ) (c : ℕ) (ps : Pairs) → 0 < c → without_lowest (put_count i c ps) ≡ ps
without_here i zero ps h = absurd (omega arith)
without_here i (suc c) ps h = refl

-- no more pairs than positions
pub length_below : (f : ℕ → ℕ) (a n : ℕ) → length (listing f a n) ≤ n
length_below f a zero = omega arith
length_below f a (suc n) =
    let rest = length_below f (a + 1) n in
    let here = length_counted (index_of a) (f a) (listing f (a + 1) n) in
    let one = used_below (f a) in
    omega arith

-- a sum over the last positions is at most the whole
pub sum_suffix : (f : ℕ → ℕ) (a m n : ℕ) → sum_of f (a + m) n ≤ sum_of f a (m + n)
sum_suffix f a zero n =
    let e : a + 0 ≡ a = add-zero a in
    let d : 0 + n ≡ n = zero-add n in
    let x = ap (λ b. sum_of f b n) e in
    let y = ap (sum_of f a) d in
    omega arith
sum_suffix f a (suc m) n =
    let e : a + suc m ≡ a + 1 + m = omega arith in
    let d : suc m + n ≡ suc (m + n) = omega arith in
    let x = ap (λ b. sum_of f b n) e in
    let y = ap (sum_of f a) d in
    let rest = sum_suffix f (a + 1) m n in
    omega arith

-- positions are those of the indices in range
pub index_in_range : (a : ℕ) → a < positions → T (in_index_range (index_of a))
index_in_range a h =
    let low : negsuc 274943 ≤ℤ index_of a = omega (arith, ints) in
    let high : index_of a ≤ℤ pos 262145 = omega (arith, ints) in
    T_and (int_le (negsuc 274943) (index_of a)) (int_le (index_of a) (pos 262145)) low.le high.le

ranged_counted : (i : ℤ) (c : ℕ) (ps : Pairs) → T (in_index_range i) → T (ranged ps) → T (ranged (put_count i c ps))
ranged_counted i zero ps h t = t
ranged_counted i (suc c) ps h t = ranged_more (i, suc c) ps h t

pub ranged_listing : (f : ℕ → ℕ) (a n : ℕ) → a + n ≤ positions → T (ranged (listing f a n))
ranged_listing f a zero h = tt
ranged_listing f a (suc n) h =
    ranged_counted (index_of a) (f a) (listing f (a + 1) n) (index_in_range a (omega arith))
    (ranged_listing f (a + 1) n (omega arith))
