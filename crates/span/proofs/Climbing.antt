-- Pairs whose indices rise and stay in range, as one chain of bounds, and the filled list.
use Rattle.std.proofs.Common.{◌≡◌, ℕ, ◌^◌, ◌<◌, T, [], ◌∷◌, ◌++◌, length, ℤ, pos, negsuc, ◌+ℤ◌, ◌≤ℤ◌, Some, None, Option, unwrap_or, refl, ap, arith}
use Rattle.std.proofs.lemmas.Int.{ints}
use Rattle.std.proofs.lemmas.Grind.{common_steps}
use Rattle.std.proofs.lemmas.Bool.{cond_both}
use Rattle.store.specs.Pairs.{Pairs, same, rising, ranged}
use Rattle.store.proofs.Order.{same_true}
use Rattle.store.proofs.Bounds.{Above, rising_above}
use Rattle.span.specs.Spans.{filler, filled, filled_from}
use Rattle.span.specs.Writing.{measure_refusal}

-- the indices rise from `low` on, and end in range
abbrev pub Climbs : ℤ → Pairs → Type 0
Climbs low [] = low ≤ℤ pos 262146
Climbs low (p ∷ ps) = (low ≤ℤ p.0) × Climbs (p.0 +ℤ pos 1) ps

pub climbs_top : (low : ℤ) (ps : Pairs) → Climbs low ps → (low +ℤ pos (length ps)) ≤ℤ pos 262146
climbs_top low [] h = omega (arith, ints)
climbs_top low (p ∷ ps) h = let a = h.0 in let b = climbs_top (p.0 +ℤ pos 1) ps h.1 in omega (arith, ints)

climbs_after : (i : ℤ) (ps : Pairs) → Above i ps → T (rising ps) → T (ranged ps) → (i +ℤ pos 1) ≤ℤ pos 262146 → Climbs (i +ℤ pos 1) ps
climbs_after i [] a r t h = h
climbs_after i (p ∷ ps) a r t h = grind (arith, ints, climbs_after p.0 ps, rising_above p ps)

pub climbs : (ps : Pairs) → T (rising ps) → T (ranged ps) → Climbs (negsuc 274943) ps
climbs [] r t = omega (arith, ints)
climbs (p ∷ ps) r t = grind (arith, ints, climbs_after p.0 ps, rising_above p ps)

-- what holds for each of the three ways to fill a gap holds for the one that is taken
pub by_filler : (P : Pairs → Type 0) (next i : ℤ) → (i ≡ next +ℤ pos 1 → P ((next, 0) ∷ [])) → (i ≡ next +ℤ pos 2 → P ((next, 0) ∷ (next +ℤ pos 1, 0) ∷ [])) → P [] → P (filler next i)
by_filler P next i one two none =
    cond_both (same i (next +ℤ pos 1)) _ _ P
    (λ e. one (same_true i (next +ℤ pos 1) e))
    (λ _. cond_both (same i (next +ℤ pos 2)) _ _ P (λ e. two (same_true i (next +ℤ pos 2) e)) (λ _. none))

climbs_filled_from : (next : ℤ) (ps : Pairs) → Climbs next ps → Climbs next (filled_from next ps)
climbs_filled_from next [] h = h
climbs_filled_from next (p ∷ ps) h = grind (arith, ints, climbs_filled_from (p.0 +ℤ pos 1) ps)

pub climbs_filled : (low : ℤ) (ps : Pairs) → Climbs low ps → Climbs low (filled ps)
climbs_filled low [] h = h
climbs_filled low (p ∷ ps) h = (h.0, climbs_filled_from (p.0 +ℤ pos 1) ps h.1)

-- filling changes no refusal of counts
refusal_from : (next : ℤ) (ps : Pairs) → measure_refusal (filled_from next ps) ≡ measure_refusal ps
refusal_from next [] = refl
refusal_from next (p ∷ ps) = grind (arith, common_steps, refusal_from (p.0 +ℤ pos 1) ps)

pub refusal_filled : (ps : Pairs) → measure_refusal (filled ps) ≡ measure_refusal ps
refusal_filled [] = refl
refusal_filled (p ∷ ps) = rw (refusal_from (p.0 +ℤ pos 1) ps)

-- the index after the last, which is `next` where there is none
abbrev pub after_from : ℤ → Pairs → ℤ
after_from next [] = next
after_from next (p ∷ ps) = after_from (p.0 +ℤ pos 1) ps

-- the index after the last, if there is one
abbrev pub end_of : Pairs → Option ℤ
end_of [] = None
end_of (p ∷ ps) = Some (after_from (p.0 +ℤ pos 1) ps)

pub end_more : (ys : Pairs) (q : ℤ × ℕ) → end_of (ys ++ q ∷ []) ≡ Some (q.0 +ℤ pos 1)
end_more [] q = refl
end_more (p ∷ ys) q = ap (λ x. Some x) (after_more (p.0 +ℤ pos 1) ys q)
  where
    after_more : (next : ℤ) (ys : Pairs) (q : ℤ × ℕ) → after_from next (ys ++ q ∷ []) ≡ q.0 +ℤ pos 1
    after_more next [] q = refl
    after_more next (p ∷ ys) q = after_more (p.0 +ℤ pos 1) ys q

-- the index that would come after ys, which is 0 before the first
abbrev pub after : Pairs → ℤ
after ys = unwrap_or (end_of ys) (pos 0)

-- a pair q in a list that climbs, with ys before it
record Stands (low next : ℤ) (ys : Pairs) (q : ℤ × ℕ) : Type 0 where
  reached : next ≤ℤ q.0
  enough : (low +ℤ pos (length ys)) ≤ℤ next
  high : q.0 ≤ℤ pos 262145

stands : (low : ℤ) (ys : Pairs) (q : ℤ × ℕ) (zs : Pairs) → Climbs low (ys ++ q ∷ zs) → Stands low (after_from low ys) ys q
stands low [] q zs h =
    let a = h.0 in
    let b = climbs_top (q.0 +ℤ pos 1) zs h.1 in
    record { reached = h.0; enough = omega (arith, ints); high = omega (arith, ints) }
stands low (p ∷ ps) q zs h =
    let a = h.0 in
    let s = stands (p.0 +ℤ pos 1) ps q zs h.1 in
    let r = s.reached in
    let e = s.enough in
    let t = s.high in
    record { reached = r; enough = omega (arith, ints); high = t }

pub record Place (ys : Pairs) (q : ℤ × ℕ) : Type 0 where
  pub low : negsuc 274943 ≤ℤ after ys
  pub high : after ys ≤ℤ pos 262146
  pub index_low : negsuc 274943 ≤ℤ q.0
  pub index_high : q.0 ≤ℤ pos 262145
  pub few : length ys < 2 ^ 20

pub place : (ys : Pairs) (q : ℤ × ℕ) (zs : Pairs) → Climbs (negsuc 274943) (ys ++ q ∷ zs) → Place ys q
place [] q zs h =
    let s = stands (negsuc 274943) [] q zs h in
    let a = s.reached in
    let t = s.high in
    record { low = omega (arith, ints); high = omega (arith, ints); index_low = a; index_high = t; few = omega arith }
place (p ∷ ps) q zs h =
    let s = stands (negsuc 274943) (p ∷ ps) q zs h in
    let a = s.reached in
    let e = s.enough in
    let t = s.high in
    record { low = omega (arith, ints); high = omega (arith, ints); index_low = omega (arith, ints); index_high = t; few = omega (arith, ints) }
