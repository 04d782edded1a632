-- What is written is accepted, and reads back.
use Rattle.std.proofs.Common.{◌≡◌, ℕ, zero, suc, ◌+◌, ◌<◌, false, ◌&&◌, T, ltb, List, [], ◌∷◌, ◌++◌, map, length, ℤ, pos, negsuc, ◌+ℤ◌, ◌-ℤ◌, ◌≤ℤ◌, None, sym, refl, ap, ◌∙◌, append_assoc, arith}
use lib.Signed.{lt_z}
use Rattle.std.proofs.lemmas.Int.{ints}
use Rattle.std.proofs.lemmas.Grind.{common_steps}
use Rattle.std.proofs.lemmas.Bool.{cond_both, and_right}
use Rattle.store.specs.Pairs.{Pairs, same, counted}
use Rattle.store.proofs.Order.{same_true, not_lt_z}
use Rattle.span.specs.Spans.{Spans, filled, filled_from, spans_from, runs, differences}
use Rattle.span.specs.Writing.{measure_refusal}
use Rattle.span.specs.Reading.{consecutive, indices, listing, nonzero, lengths, span_refusal, spans_refusal, counts_refusal, lone_or_refusal, read_pairs}
use Rattle.span.specs.Laws.{ReadingBack, SpansTell}
use Rattle.span.proofs.Climbing.{Climbs, climbs, climbs_top, climbs_filled, refusal_filled}
use Rattle.span.proofs.Steps.{length_differences}
use Rattle.span.proofs.Checks.{none_from}

-- leaving out zero counts undoes the filling
unfilled_from : (next : ℤ) (ps : Pairs) → T (counted ps) → nonzero (filled_from next ps) ≡ ps
unfilled_from next [] c = refl
unfilled_from next (p ∷ ps) c = grind (arith, common_steps, unfilled_from (p.0 +ℤ pos 1) ps)

unfilled : (ps : Pairs) → T (counted ps) → nonzero (filled ps) ≡ ps
unfilled [] c = refl
unfilled (p ∷ ps) c = grind (arith, common_steps, unfilled_from (p.0 +ℤ pos 1) ps)

abbrev places : Pairs → List ℤ
places ps = map (λ p. p.0) ps

consecutive_more : (i : ℤ) (n : ℕ) → consecutive i (n + 1) ≡ consecutive i n ++ (i +ℤ pos n) ∷ []
consecutive_more i zero = ap (λ x. x ∷ []) (let e : i ≡ i +ℤ pos 0 = omega (arith, ints) in e)
consecutive_more i (suc n) = grind (arith, ints, common_steps, consecutive_more (i +ℤ pos 1) n)

-- the indices that the spans list, where the span (o, n) is open
module _ (at o : ℤ) (n : ℕ) (next : ℤ) (here : next ≡ at +ℤ o +ℤ pos n) (p : ℤ × ℕ) (ps : Pairs) where
  on_same : p.0 ≡ next → indices at (spans_from o (n + 1) (p.0 +ℤ pos 1) ps) ≡ consecutive (at +ℤ o) (n + 1) ++ places ps → indices at (spans_from o (n + 1) (p.0 +ℤ pos 1) ps) ≡ consecutive (at +ℤ o) n ++ places (p ∷ ps)
  on_same e ih =
      ih
      ∙ ap (λ xs. xs ++ places ps) (consecutive_more (at +ℤ o) n)
      ∙ append_assoc (consecutive (at +ℤ o) n) _ (places ps)
      ∙ ap (λ x. consecutive (at +ℤ o) n ++ x ∷ places ps) (sym (e ∙ here))

  on_other : indices (at +ℤ o +ℤ pos n) (spans_from (p.0 -ℤ next) 1 (p.0 +ℤ pos 1) ps) ≡ consecutive (at +ℤ o +ℤ pos n +ℤ (p.0 -ℤ next)) 1 ++ places ps → indices at ((o, n) ∷ spans_from (p.0 -ℤ next) 1 (p.0 +ℤ pos 1) ps) ≡ consecutive (at +ℤ o) n ++ places (p ∷ ps)
  on_other ih =
      ap (λ xs. consecutive (at +ℤ o) n ++ xs)
      (ih ∙ ap (λ x. x ∷ places ps) (let e : at +ℤ o +ℤ pos n +ℤ (p.0 -ℤ next) ≡ p.0 = omega (arith, ints) in e))

indices_from : (at o : ℤ) (n : ℕ) (next : ℤ) (ps : Pairs) → next ≡ at +ℤ o +ℤ pos n → indices at (spans_from o n next ps) ≡ consecutive (at +ℤ o) n ++ places ps
indices_from at o n next [] here = refl
indices_from at o n next (p ∷ ps) here =
    cond_both (same p.0 next) _ _ (λ xs. indices at xs ≡ consecutive (at +ℤ o) n ++ places (p ∷ ps))
    (λ t.
    let e = same_true p.0 next t in
    on_same at o n next here p ps e (indices_from at o (n + 1) (p.0 +ℤ pos 1) ps (omega (arith, ints))))
    (λ _. on_other at o n next here p ps (indices_from (at +ℤ o +ℤ pos n) (p.0 -ℤ next) 1 (p.0 +ℤ pos 1) ps (omega (arith, ints))))

indices_runs : (ps : Pairs) → indices (pos 0) (runs ps) ≡ places ps
indices_runs [] = refl
indices_runs (p ∷ ps) =
    indices_from (pos 0) p.0 1 (p.0 +ℤ pos 1) ps (omega (arith, ints))
    ∙ ap (λ x. x ∷ places ps) (let e : pos 0 +ℤ p.0 ≡ p.0 = omega (arith, ints) in e)

lengths_from : (o : ℤ) (n : ℕ) (next : ℤ) (ps : Pairs) → lengths (spans_from o n next ps) ≡ n + length ps
lengths_from o n next [] = refl
lengths_from o n next (p ∷ ps) = grind (arith, lengths_from o (n + 1) (p.0 +ℤ pos 1) ps, lengths_from (p.0 -ℤ next) 1 (p.0 +ℤ pos 1) ps)

lengths_runs : (ps : Pairs) → lengths (runs ps) ≡ length ps
lengths_runs [] = refl
lengths_runs (p ∷ ps) = let h = lengths_from p.0 1 (p.0 +ℤ pos 1) ps in omega arith

-- the sums of the differences are the counts
sum_back : (b c : ℕ) → pos b +ℤ (pos c -ℤ pos b) ≡ pos c
sum_back b c = omega (arith, ints)

listing_back : (b : ℕ) (ps : Pairs) → listing (places ps) (pos b) (differences b ps) ≡ ps
listing_back b [] = refl
listing_back b (p ∷ ps) = rw (sum_back b p.1) (ap (λ xs. p ∷ xs) (listing_back p.1 ps))

-- nothing is refused
counts_none : (k b : ℕ) (ps : Pairs) → measure_refusal ps ≡ None → counts_refusal k (pos b) (differences b ps) ≡ None
counts_none k b [] e = refl
counts_none k b (p ∷ ps) e = rw (sum_back b p.1) (grind (arith, ints, counts_none (k + 1) p.1 ps))

-- the open span (o, n) with number k, which may still be lengthened
record Opening (k : ℕ) (at o : ℤ) (n : ℕ) (next : ℤ) : Type 0 where
  some : 0 < n
  on : (ltb 0 k && lt_z o (pos 0)) ≡ false
  low : negsuc 274943 ≤ℤ (at +ℤ o)
  here : next ≡ at +ℤ o +ℤ pos n

closes : (k : ℕ) (at o : ℤ) (n : ℕ) (next : ℤ) → Opening k at o n next → next ≤ℤ pos 262146 → span_refusal k at (o, n) ≡ None
closes k at o n next w h =
    let s = w.some in
    let l = w.low in
    let e = w.here in
    let b = w.on in
    grind (arith, ints)

spans_none : (k : ℕ) (at o : ℤ) (n : ℕ) (next : ℤ) (ps : Pairs) → Opening k at o n next → Climbs next ps → spans_refusal k at (spans_from o n next ps) ≡ None
spans_none k at o n next [] w c = none_from _ _ (closes k at o n next w c) refl
spans_none k at o n next (p ∷ ps) w c =
    let l = c.0 in
    let t = climbs_top (p.0 +ℤ pos 1) ps c.1 in
    let s = w.some in
    let m = w.low in
    let e = w.here in
    cond_both (same p.0 next) _ _ (λ xs. spans_refusal k at xs ≡ None)
    (λ q.
    let f = same_true p.0 next q in
    spans_none k at o (n + 1) (p.0 +ℤ pos 1) ps (record { some = omega arith; on = w.on; low = w.low; here = omega (arith, ints) }) c.1)
    (λ _.
    none_from _ _ (closes k at o n next w (omega (arith, ints)))
    (spans_none (k + 1) (at +ℤ o +ℤ pos n) (p.0 -ℤ next) 1 (p.0 +ℤ pos 1) ps
    (record { some = omega arith; on = and_right (ltb 0 (k + 1)) (lt_z (p.0 -ℤ next) (pos 0)) (not_lt_z (p.0 -ℤ next) (pos 0) (omega (arith, ints))); low = omega (arith, ints); here = omega (arith, ints) })
    c.1))

runs_none : (ps : Pairs) → Climbs (negsuc 274943) ps → spans_refusal 0 (pos 0) (runs ps) ≡ None
runs_none [] c = refl
runs_none (p ∷ ps) c =
    let l = c.0 in
    spans_none 0 (pos 0) p.0 1 (p.0 +ℤ pos 1) ps
    (record { some = omega arith; on = refl; low = omega (arith, ints); here = omega (arith, ints) })
    c.1

lone_none : (ss : Spans) → spans_refusal 0 (pos 0) ss ≡ None → lone_or_refusal ss ≡ None
lone_none ss e = grind arith

pub reading_back : ReadingBack
reading_back ps w =
    let fs = filled ps in
    let e : lengths (runs (filled ps)) ≡ length (differences 0 (filled ps)) = lengths_runs fs ∙ sym (length_differences 0 fs) in
    record {
      accepted =
          none_from _ _ (grind arith)
          (none_from _ _ (lone_none (runs fs) (runs_none fs (climbs_filled (negsuc 274943) ps (climbs ps w.rises w.ranges))))
          (counts_none 0 0 fs (refusal_filled ps ∙ w.small)));
      pairs =
          ap (λ is. nonzero (listing is (pos 0) (differences 0 fs))) (indices_runs fs)
          ∙ ap nonzero (listing_back 0 fs)
          ∙ unfilled ps w.counts;
    }

pub spans_tell : SpansTell
spans_tell ps qs v w e f =
    sym (reading_back ps v).pairs
    ∙ (λ i. read_pairs (e i) (f i))
    ∙ (reading_back qs w).pairs
