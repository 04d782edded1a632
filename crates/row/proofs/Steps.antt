-- What a step of a search tells of the place of an index.
use Rattle.std.proofs.Common.{◌≡◌, ℕ, zero, suc, ◌<◌, ◌≤◌, true, cond, T, [], ◌∷◌, length, get_or, take, ℤ, ◌≤ℤ◌, ◌<ℤ◌, Ok, sym, ap, ◌∙◌, subst, inl, inr, arith}
use Rattle.std.proofs.lemmas.List.{length-take-le, get_or-take}
use Rattle.std.proofs.lemmas.Int.{ints, by_lt_z}
use Rattle.std.proofs.lemmas.Bool.{or_cases, or_left, or_right, both_ways}
use Rattle.store.specs.Pairs.{Pairs, same, rising, listed}
use Rattle.store.proofs.Order.{same_itself, above_same, below_lt_z, not_lt_z}
use Rattle.store.proofs.Parts.{above_at}
use Rattle.store.proofs.Bounds.{above_less, rising_tail, rising_above, unlisted_above}
use Rattle.row.specs.Rows.{place, sought}

-- by where the first index lies
pub place_past : (i : ℤ) (p : ℤ × ℕ) (ps : Pairs) → p.0 <ℤ i → place i (p ∷ ps) ≡ suc (place i ps)
place_past i p ps h = ap (λ b. cond b (suc (place i ps)) 0) (below_lt_z p.0 i h)

pub place_first : (i : ℤ) (p : ℤ × ℕ) (ps : Pairs) → i ≤ℤ p.0 → place i (p ∷ ps) ≡ 0
place_first i p ps h = ap (λ b. cond b (suc (place i ps)) 0) (not_lt_z p.0 i h)

pub listed_past : (i : ℤ) (p : ℤ × ℕ) (ps : Pairs) → p.0 <ℤ i → listed i (p ∷ ps) ≡ true → listed i ps ≡ true
listed_past i p ps h e =
    elim (or_cases (same i p.0) (listed i ps) e)
    [ inl s ↦ absurd (both_ways (same i p.0) (above_same i p.0 h) s) | inr t ↦ t ]

-- an index below i at position k
pub place_above : (i : ℤ) (ps : Pairs) (k : ℕ) (d : ℤ × ℕ) → T (rising ps) → k < length ps → (get_or ps k d).0 <ℤ i → k < place i ps
place_above i [] k d r h l = absurd (omega arith)
place_above i (p ∷ ps) zero d r h l = let e = place_past i p ps l in omega arith
place_above i (p ∷ ps) (suc k) d r h l =
    let first = above_at p.0 ps k d (rising_above p ps r) (omega arith) in
    let e = place_past i p ps (omega (arith, ints)) in
    let ih = place_above i ps k d (rising_tail p ps r) (omega arith) l in
    omega arith

-- i itself at position k
pub record Stands (i : ℤ) (ps : Pairs) (k : ℕ) : Type 0 where
  pub stands : listed i ps ≡ true
  pub here : place i ps ≡ k

pub place_at : (i : ℤ) (ps : Pairs) (k : ℕ) (d : ℤ × ℕ) → T (rising ps) → k < length ps → (get_or ps k d).0 ≡ i → Stands i ps k
place_at i [] k d r h e = absurd (omega arith)
place_at i (p ∷ ps) zero d r h e =
    record { stands = or_left (same i p.0) (listed i ps) (subst (λ j. same i j ≡ true) (sym e) (same_itself i)); here = place_first i p ps (omega (arith, ints)) }
place_at i (p ∷ ps) (suc k) d r h e =
    let first = above_at p.0 ps k d (rising_above p ps r) (omega arith) in
    let past = place_past i p ps (omega (arith, ints)) in
    let ih = place_at i ps k d (rising_tail p ps r) (omega arith) e in
    record { stands = or_right (same i p.0) (listed i ps) ih.stands; here = past ∙ ap suc ih.here }

-- an index above i at position k
pub record Before (i : ℤ) (ps : Pairs) (k : ℕ) : Type 0 where
  pub upto : place i ps ≤ k
  pub if_listed : listed i ps ≡ true → place i ps < k

pub place_before : (i : ℤ) (ps : Pairs) (k : ℕ) (d : ℤ × ℕ) → T (rising ps) → k < length ps → i <ℤ (get_or ps k d).0 → Before i ps k
place_before i [] k d r h l = absurd (omega arith)
place_before i (p ∷ ps) zero d r h l =
    let e = place_first i p ps (omega (arith, ints)) in
    let above = above_less i p.0 ps (omega (arith, ints)) (rising_above p ps r) in
    record { upto = omega arith; if_listed = λ t. absurd (both_ways (listed i (p ∷ ps)) (unlisted_above i (p ∷ ps) (l, above)) t) }
place_before i (p ∷ ps) (suc k) d r h l =
    let ih = place_before i ps k d (rising_tail p ps r) (omega arith) l in
    by_lt_z p.0 i
    (λ q. let e = place_past i p ps q in
    record { upto = let u = ih.upto in omega arith; if_listed = λ t. let u = ih.if_listed (listed_past i p ps q t) in omega arith })
    (λ q. let e = place_first i p ps q in record { upto = omega arith; if_listed = λ t. omega arith })

-- what a search answers
pub sought_listed : (i : ℤ) (ps : Pairs) (k : ℕ) → Stands i ps k → Ok k ≡ sought i ps
sought_listed i ps k s = cc (s.stands, s.here)

-- the same in the first n pairs of a longer list, at an index read from it
module _ (i : ℤ) (xs : Pairs) (n k : ℕ) (d : ℤ × ℕ) (r : T (rising (take n xs))) (fits : n ≤ length xs) (h : k < n) where
  within : k < length (take n xs)
  within = let e = length-take-le n xs fits in omega arith

  read : (P : ℤ → Type 0) → P (get_or xs k d).0 → P (get_or (take n xs) k d).0
  read P p = subst (λ q. P q.0) (sym (get_or-take n xs k d h)) p

  pub front_above : (get_or xs k d).0 <ℤ i → k < place i (take n xs)
  front_above l = place_above i (take n xs) k d r within (read (λ j. j <ℤ i) l)

  pub front_at : (get_or xs k d).0 ≡ i → Stands i (take n xs) k
  front_at e = place_at i (take n xs) k d r within (read (λ j. j ≡ i) e)

  pub front_before : i <ℤ (get_or xs k d).0 → Before i (take n xs) k
  front_before l = place_before i (take n xs) k d r within (read (λ j. i <ℤ j) l)
