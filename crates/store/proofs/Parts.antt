-- Lists in parts, as an array holds them: appended, taken, dropped and read by position.
use Rattle.std.proofs.Common.{◌≡◌, ℕ, zero, suc, ◌+◌, ◌<◌, ◌≤◌, true, false, ◌||◌, T, [], ◌∷◌, ◌++◌, length, get_or, take, drop, set, ℤ, ◌≤ℤ◌, ◌<ℤ◌, Some, None, sym, refl, subst, arith}
use Rattle.std.proofs.lemmas.List.{take-append-drop, take-take, take_more, drop_all, length-take, length-take-le, get_or-take}
use Rattle.std.proofs.lemmas.Int.{ints}
use Rattle.std.proofs.Math.Seq.{take-set-lt}
use Rattle.index.specs.Index.{halved}
use Rattle.store.specs.Pairs.{Pairs, leads, rising, counted, total, listed, pair_at, raised, lowest, without_lowest, joined, halved_pairs, joined_last}
use Rattle.store.proofs.Order.{same_itself, same_true, same_from, above_same}
use Rattle.store.proofs.Bounds.{Above, From, Below, above_from, above_from_leads, unlisted_above, rising_tail, rising_above, rising_more, counted_first, counted_tail, counted_more}
use Rattle.store.proofs.Raising.{raised_here, raised_after, raised_between}

-- appended
pub total_append : (xs ys : Pairs) → total (xs ++ ys) ≡ total xs + total ys
total_append [] ys = omega arith
total_append (x ∷ xs) ys = omega (arith, total_append xs ys)

-- counts of at least 1 in both parts, and so in the whole
pub counted_append : (xs ys : Pairs) → T (counted xs) → T (counted ys) → T (counted (xs ++ ys))
counted_append [] ys c d = d
counted_append (x ∷ xs) ys c d = counted_more x (xs ++ ys) (counted_first x xs c) (counted_append xs ys (counted_tail x xs c) d)

-- counts of at least 1 in the whole, and so in the part before
pub counted_left : (xs ys : Pairs) → T (counted (xs ++ ys)) → T (counted xs)
counted_left [] ys c = tt
counted_left (x ∷ xs) ys c = counted_more x xs (counted_first x (xs ++ ys) c) (counted_left xs ys (counted_tail x (xs ++ ys) c))

-- and in the part behind
pub counted_right : (xs ys : Pairs) → T (counted (xs ++ ys)) → T (counted ys)
counted_right [] ys c = c
counted_right (x ∷ xs) ys c = counted_right xs ys (counted_tail x (xs ++ ys) c)

-- an index has a pair in the whole where it has one in a part
pub listed_append : (i : ℤ) (xs ys : Pairs) → listed i (xs ++ ys) ≡ (listed i xs || listed i ys)
listed_append i [] ys = refl
listed_append i (x ∷ xs) ys = grind (arith, listed_append i xs ys)

-- both parts above i, and so the whole
pub above_append : (i : ℤ) (xs ys : Pairs) → Above i xs → Above i ys → Above i (xs ++ ys)
above_append i [] ys a b = b
above_append i (x ∷ xs) ys a b = (a.0, above_append i xs ys a.1 b)

-- the whole above i, and so the part before
pub above_left : (i : ℤ) (xs ys : Pairs) → Above i (xs ++ ys) → Above i xs
above_left i [] ys a = tt
above_left i (x ∷ xs) ys a = (a.0, above_left i xs ys a.1)

-- and the part behind
pub above_right : (i : ℤ) (xs ys : Pairs) → Above i (xs ++ ys) → Above i ys
above_right i [] ys a = a
above_right i (x ∷ xs) ys a = above_right i xs ys a.1

-- every index of xs is below k and every one of ys is k or above
pub rising_append : (k : ℤ) (xs ys : Pairs) → Below k xs → From k ys → T (rising xs) → T (rising ys) → T (rising (xs ++ ys))
rising_append k [] ys b f r s = s
rising_append k (x ∷ xs) ys b f r s =
    rising_more x (xs ++ ys)
    (above_append x.0 xs ys (rising_above x xs r) (above_from x.0 k ys b.0 f))
    (rising_append k xs ys b.1 f (rising_tail x xs r) s)

-- the part before of a rising list rises
pub rising_left : (xs ys : Pairs) → T (rising (xs ++ ys)) → T (rising xs)
rising_left [] ys r = tt
rising_left (x ∷ xs) ys r =
    rising_more x xs (above_left x.0 xs ys (rising_above x (xs ++ ys) r)) (rising_left xs ys (rising_tail x (xs ++ ys) r))

-- and so does the part behind
pub rising_right : (xs ys : Pairs) → T (rising (xs ++ ys)) → T (rising ys)
rising_right [] ys r = r
rising_right (x ∷ xs) ys r = rising_right xs ys (rising_tail x (xs ++ ys) r)

-- what stands before y in a rising list is below it
pub rising_before : (xs : Pairs) (y : ℤ × ℕ) (ys : Pairs) → T (rising (xs ++ y ∷ ys)) → Below y.0 xs
rising_before [] y ys r = tt
rising_before (x ∷ xs) y ys r =
    ((above_right x.0 xs (y ∷ ys) (rising_above x (xs ++ y ∷ ys) r)).0, rising_before xs y ys (rising_tail x (xs ++ y ∷ ys) r))

-- a list below i with one more pair below i at its end
pub below_push : (i : ℤ) (xs : Pairs) (y : ℤ × ℕ) → y.0 <ℤ i → Below i xs → Below i (xs ++ y ∷ [])
below_push i [] y h b = (h, tt)
below_push i (x ∷ xs) y h b = (b.0, below_push i xs y h b.1)

-- what is below an index is below every higher one
pub below_less : (i j : ℤ) (xs : Pairs) → i ≤ℤ j → Below i xs → Below j xs
below_less i j [] h b = tt
below_less i j (x ∷ xs) h b = grind (arith, ints, below_less i j xs h b.1)

-- an index above all others has no pair
pub unlisted_below : (i : ℤ) (xs : Pairs) → Below i xs → listed i xs ≡ false
unlisted_below i [] b = refl
unlisted_below i (x ∷ xs) b = grind (arith, above_same i x.0 b.0, unlisted_below i xs b.1)

-- read by position
pub pair_at_in : (ps : Pairs) (k : ℕ) (d : ℤ × ℕ) → k < length ps → pair_at ps k ≡ Some (get_or ps k d)
pair_at_in [] k d h = absurd (omega arith)
pair_at_in (p ∷ ps) zero d h = refl
pair_at_in (p ∷ ps) (suc k) d h = pair_at_in ps k d (omega arith)

pub pair_at_past : (ps : Pairs) (k : ℕ) → length ps ≤ k → pair_at ps k ≡ None
pair_at_past [] k h = refl
pair_at_past (p ∷ ps) zero h = absurd (omega arith)
pair_at_past (p ∷ ps) (suc k) h = pair_at_past ps k (omega arith)

-- the same of the first n places of an array
pub pair_at_taken : (xs : Pairs) (n k : ℕ) (d : ℤ × ℕ) → k < n → n ≤ length xs → pair_at (take n xs) k ≡ Some (get_or xs k d)
pair_at_taken xs n k d h l = grind (arith, pair_at_in (take n xs) k d, length-take-le n xs l, get_or-take n xs k d h)

-- and past them
pub pair_at_untaken : (xs : Pairs) (n k : ℕ) → n ≤ k → pair_at (take n xs) k ≡ None
pair_at_untaken xs n k h = pair_at_past (take n xs) k (omega (arith, length-take n xs))

pub lowest_is : (ps : Pairs) → lowest ps ≡ pair_at ps 0
lowest_is [] = refl
lowest_is (p ∷ ps) = refl

pub without_lowest_is : (ps : Pairs) → without_lowest ps ≡ drop 1 ps
without_lowest_is [] = refl
without_lowest_is (p ∷ ps) = refl

-- the indices of a rising list by their positions
pub above_at : (i : ℤ) (ps : Pairs) (k : ℕ) (d : ℤ × ℕ) → Above i ps → k < length ps → i <ℤ (get_or ps k d).0
above_at i [] k d a l = absurd (omega arith)
above_at i (p ∷ ps) zero d a l = a.0
above_at i (p ∷ ps) (suc k) d a l = above_at i ps k d a.1 (omega arith)

pub rising_order : (ps : Pairs) (j k : ℕ) (d : ℤ × ℕ) → T (rising ps) → j < k → k < length ps → (get_or ps j d).0 <ℤ (get_or ps k d).0
rising_order [] j k d r h l = absurd (omega arith)
rising_order (p ∷ ps) zero zero d r h l = absurd (omega arith)
rising_order (p ∷ ps) zero (suc k) d r h l = above_at p.0 ps k d (rising_above p ps r) (omega arith)
rising_order (p ∷ ps) (suc j) zero d r h l = absurd (omega arith)
rising_order (p ∷ ps) (suc j) (suc k) d r h l = rising_order ps j k d (rising_tail p ps r) (omega arith) (omega arith)

-- all of the first k positions below i
pub below_taken : (i : ℤ) (ps : Pairs) (k : ℕ) (d : ℤ × ℕ) → ((j : ℕ) → j < k → (get_or ps j d).0 <ℤ i) → k ≤ length ps → Below i (take k ps)
below_taken i ps zero d h l = tt
below_taken i [] (suc k) d h l = tt
below_taken i (p ∷ ps) (suc k) d h l = (h 0 (omega arith), below_taken i ps k d (λ j m. h (suc j) (omega arith)) (omega arith))

-- one count is within the total
pub count_in_total : (ps : Pairs) (k : ℕ) (d : ℤ × ℕ) → k < length ps → (get_or ps k d).1 ≤ total ps
count_in_total [] k d l = absurd (omega arith)
count_in_total (p ∷ ps) zero d l = omega arith
count_in_total (p ∷ ps) (suc k) d l = let h = count_in_total ps k d (omega arith) in omega arith

-- raising, by position: at k, or put in at k
pub raised_set : (ps : Pairs) (k : ℕ) (d : ℤ × ℕ) → T (rising ps) → k < length ps → raised (get_or ps k d).0 ps ≡ set ps k ((get_or ps k d).0, (get_or ps k d).1 + 1)
raised_set [] k d r l = absurd (omega arith)
raised_set (p ∷ ps) zero d r l = raised_here p.0 p ps refl
raised_set (p ∷ ps) (suc k) d r l =
    grind (arith, raised_after (get_or ps k d).0 p ps, above_at p.0 ps k d (rising_above p ps r), raised_set ps k d (rising_tail p ps r))

pub raised_insert : (i : ℤ) (ps : Pairs) (k : ℕ) → Below i (take k ps) → T (leads i (drop k ps)) → raised i ps ≡ take k ps ++ (i, 1) ∷ drop k ps
raised_insert i ps k b l = grind (arith, take-append-drop k ps, raised_between i (take k ps) (drop k ps) b l)

-- whether i is listed, by position
pub listed_at : (ps : Pairs) (k : ℕ) (d : ℤ × ℕ) → k < length ps → listed (get_or ps k d).0 ps ≡ true
listed_at [] k d l = absurd (omega arith)
listed_at (p ∷ ps) zero d l = grind (arith, same_itself)
listed_at (p ∷ ps) (suc k) d l = grind (arith, listed_at ps k d)

-- an index above the first k positions and below the rest has no pair
pub unlisted_between : (i : ℤ) (ps : Pairs) (k : ℕ) → T (rising ps) → Below i (take k ps) → T (leads i (drop k ps)) → listed i ps ≡ false
unlisted_between i ps k r b l =
    let e = take-append-drop k ps in
    let s = rising_right (take k ps) (drop k ps) (subst (λ t. T (rising t)) (sym e) r) in
    let a = above_from_leads i (drop k ps) l s in
    grind (arith, e, listed_append i (take k ps) (drop k ps), unlisted_below i (take k ps) b, unlisted_above i (drop k ps) a)

-- joining in front and joining at the end do not disturb one another
joined_both : (p : ℤ × ℕ) (qs : Pairs) (a : ℤ × ℕ) → joined p (joined_last qs a) ≡ joined_last (joined p qs) a
joined_both p [] a = refl
joined_both p (q ∷ []) a = grind (arith, same_true)
joined_both p (q ∷ r ∷ qs) a = grind arith

-- halving from left to right: one pair more
pub halved_more : (xs : Pairs) (a : ℤ × ℕ) → halved_pairs (xs ++ a ∷ []) ≡ joined_last (halved_pairs xs) (halved a.0, a.1)
halved_more [] a = refl
halved_more (x ∷ xs) a =
    grind (arith, halved_more xs a, joined_both (halved x.0, x.1) (halved_pairs xs) (halved a.0, a.1))

-- the same by position, where k is the last
pub joined_last_set : (ws : Pairs) (k : ℕ) (d a : ℤ × ℕ) → length ws ≡ suc k → (get_or ws k d).0 ≡ a.0 → joined_last ws a ≡ set ws k ((get_or ws k d).0, (get_or ws k d).1 + a.1)
joined_last_set [] k d a l e = absurd (omega arith)
joined_last_set (w ∷ []) k d a l e = grind (arith, same_from)
joined_last_set (w ∷ v ∷ ws) k d a l e = grind (arith, joined_last_set (v ∷ ws) (length ws) d a refl)

pub joined_last_push : (ws : Pairs) (k : ℕ) (d a : ℤ × ℕ) → length ws ≡ suc k → ((get_or ws k d).0 ≡ a.0 → ⊥) → joined_last ws a ≡ ws ++ a ∷ []
joined_last_push [] k d a l n = absurd (omega arith)
joined_last_push (w ∷ []) k d a l n = grind (arith, same_true)
joined_last_push (w ∷ v ∷ ws) k d a l n = grind (arith, joined_last_push (v ∷ ws) (length ws) d a refl)

-- in the first n places of an array: a count raised at k, and halving one place further
pub raised_taken : (xs : Pairs) (n k : ℕ) (d : ℤ × ℕ) → T (rising (take n xs)) → k < n → n ≤ length xs → raised (get_or xs k d).0 (take n xs) ≡ take n (set xs k ((get_or xs k d).0, (get_or xs k d).1 + 1))
raised_taken xs n k d r h l =
    grind (arith, get_or-take n xs k d h, length-take-le n xs l, raised_set (take n xs) k d r, take-set-lt n xs k ((get_or xs k d).0, (get_or xs k d).1 + 1) h)

pub halved_taken : (xs : Pairs) (k : ℕ) (d : ℤ × ℕ) → k < length xs → halved_pairs (take (k + 1) xs) ≡ joined_last (halved_pairs (take k xs)) (halved (get_or xs k d).0, (get_or xs k d).1)
halved_taken xs k d h = grind (arith, take_more xs k d h, halved_more (take k xs) (get_or xs k d))

pub total_taken : (xs : Pairs) (n k : ℕ) (d : ℤ × ℕ) → k < n → n ≤ length xs → (get_or xs k d).1 ≤ total (take n xs)
total_taken xs n k d h l =
    grind (arith, get_or-take n xs k d h, length-take-le n xs l, count_in_total (take n xs) k d)

-- among the first n, all of the first k positions below i
pub below_before : (i : ℤ) (xs : Pairs) (n k : ℕ) (d : ℤ × ℕ) → k ≤ n → n ≤ length xs → ((j : ℕ) → j < k → (get_or xs j d).0 <ℤ i) → Below i (take k (take n xs))
below_before i xs n k d h l b =
    subst (Below i) (sym (take-take k n xs h)) (below_taken i xs k d b (omega arith))

-- and i below what stands at k, if anything does there
pub leads_after : (i : ℤ) (xs : Pairs) (n k : ℕ) (d : ℤ × ℕ) → n ≤ length xs → (k < n → i <ℤ (get_or xs k d).0) → T (leads i (drop k (take n xs)))
leads_after i xs zero k d l h = subst (λ t. T (leads i t)) (sym (drop_all k [] (omega arith))) tt
leads_after i [] (suc n) k d l h = absurd (omega arith)
leads_after i (x ∷ xs) (suc n) zero d l h = (h (omega arith)).lt
leads_after i (x ∷ xs) (suc n) (suc k) d l h = leads_after i xs n k d (omega arith) (λ m. h (omega arith))
