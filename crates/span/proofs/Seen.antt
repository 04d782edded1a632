-- What a loop over the filled pairs has seen.
use Rattle.std.proofs.Common.{◌≡◌, ℕ, true, false, ◌+◌, ◌^◌, ◌<◌, T, ltb, [], ◌∷◌, ◌++◌, length, ℤ, pos, negsuc, ◌+ℤ◌, ◌-ℤ◌, int_eq, is_some, Some, None, Option, unwrap_or, sym, refl, ap, ◌∙◌, subst, append_assoc, append-nil, arith, w32, to_z, of_z}
use borrow.Author.Tests.{clash}
use Rattle.std.specs.Option.{option_eq}
use Rattle.std.proofs.lemmas.List.{length_push}
use Rattle.std.proofs.lemmas.Int.{ints}
use Rattle.std.proofs.lemmas.Bool.{false≢true, both_ways, cond-true, cond-false, lt-ltb, le-ltb}
use Rattle.std.proofs.lemmas.Bool.Decides.{Decides-int_eq}
use Rattle.store.specs.Pairs.{Pairs, Means, rising, ranged}
use Rattle.span.specs.declared.writing.Lengths.{Lengths}
use Rattle.span.specs.Spans.{filled, runs}
use Rattle.span.specs.Writing.{measure_refusal}
use Rattle.span.proofs.Climbing.{Climbs, climbs, climbs_filled, refusal_filled, end_of, end_more, after, Place, place}
use Rattle.span.proofs.Steps.{Lengthens, runs_more, runs_new, runs_few}

-- ys is listed, `rest` is ahead; the index after ys, and its spans and deltas
pub record Seen (ps ys rest : Pairs) (end : Option ℤ) (n : Lengths) : Type 0 where
  pub lists : ys ++ rest ≡ filled ps
  pub counts : measure_refusal rest ≡ measure_refusal ps
  pub of_end : end ≡ end_of ys
  pub of_spans : n.spans ≡ length (runs ys)
  pub of_deltas : n.deltas ≡ length ys

pub seen_none : (ps rest : Pairs) (n : Lengths) → rest ≡ filled ps → n.spans ≡ 0 → n.deltas ≡ 0 → Seen ps [] rest None n
seen_none ps rest n e s d =
    record { lists = e; counts = ap measure_refusal e ∙ refusal_filled ps; of_end = refl; of_spans = s; of_deltas = d }

-- one more, q
module _ {ps ys rest rest' : Pairs} {q : ℤ × ℕ} {end : Option ℤ} {n : Lengths} (seen : Seen ps ys rest end n) (e : rest ≡ q ∷ rest') where
  pub lists_more : (ys ++ q ∷ []) ++ rest' ≡ filled ps
  lists_more = append_assoc ys (q ∷ []) rest' ∙ ap (λ xs. ys ++ xs) (sym e) ∙ seen.lists

  pub too_large : 2 ^ 63 < q.1 + 1 → measure_refusal ps ≡ Some (10, q.0)
  too_large h =
      sym seen.counts ∙ ap measure_refusal e ∙ cond-false (ltb q.1 (2 ^ 63)) _ _ (le-ltb q.1 (2 ^ 63) (omega arith))

  counts_more : q.1 < 2 ^ 63 → measure_refusal rest' ≡ measure_refusal ps
  counts_more h =
      sym (cond-true (ltb q.1 (2 ^ 63)) _ _ (lt-ltb q.1 (2 ^ 63) h)) ∙ sym (ap measure_refusal e) ∙ seen.counts

  pub seen_place : T (rising ps) → T (ranged ps) → Place ys q
  seen_place r t =
      place ys q rest'
      (subst (Climbs (negsuc 274943)) (sym (ap (λ xs. ys ++ xs) (sym e) ∙ seen.lists)) (climbs_filled (negsuc 274943) ps (climbs ps r t)))

  pub seen_few : Means ps → T (ranged ps) → (n.spans < 2 ^ 20) × (n.deltas < 2 ^ 20)
  seen_few m t =
      let f = (seen_place m.rises t).few in
      let s = seen.of_spans in
      let d = seen.of_deltas in
      let r = runs_few ys in
      (omega arith, omega arith)

  -- q starts a span
  module _ (apart : end ≡ Some q.0 → ⊥) where
    pub new_runs : runs (ys ++ q ∷ []) ≡ runs ys ++ (q.0 -ℤ after ys, 1) ∷ []
    new_runs = runs_new ys q (λ f. apart (seen.of_end ∙ f))

    pub spans_new : length (runs (ys ++ q ∷ [])) ≡ n.spans + 1
    spans_new = ap length new_runs ∙ length_push (runs ys) _ ∙ ap (λ k. k + 1) (sym seen.of_spans)

  -- q lengthens one
  module _ (joins : end ≡ Some q.0) where
    pub seen_longer : Lengthens (runs ys) (runs (ys ++ q ∷ [])) (length ys)
    seen_longer = runs_more ys q (sym seen.of_end ∙ joins)

    pub spans_same : length (runs (ys ++ q ∷ [])) ≡ n.spans
    spans_same =
        let l = seen_longer in
        ap length l.is ∙ length_push l.done _ ∙ sym (length_push l.done _) ∙ sym (ap length l.was) ∙ sym seen.of_spans

  pub seen_more : (i : ℤ) (n' : Lengths) → i ≡ q.0 +ℤ pos 1 → q.1 < 2 ^ 63 → n'.spans ≡ length (runs (ys ++ q ∷ [])) → n'.deltas ≡ n.deltas + 1 → Seen ps (ys ++ q ∷ []) rest' (Some i) n'
  seen_more i n' f h s d = record {
    lists = lists_more;
    counts = counts_more h;
    of_end = ap (λ x. Some x) f ∙ sym (end_more ys q);
    of_spans = s;
    of_deltas = d ∙ ap (λ k. k + 1) seen.of_deltas ∙ sym (length_push ys q);
  }

  -- q starts a span: there is one more of both
  pub seen_new : (i : ℤ) (n' : Lengths) → i ≡ q.0 +ℤ pos 1 → q.1 < 2 ^ 63 → (end ≡ Some q.0 → ⊥) → n'.spans ≡ n.spans + 1 → n'.deltas ≡ n.deltas + 1 → Seen ps (ys ++ q ∷ []) rest' (Some i) n'
  seen_new i n' f h apart s d = seen_more i n' f h (s ∙ sym (spans_new apart)) d

-- nothing is ahead
module _ {ps ys rest : Pairs} {end : Option ℤ} {n : Lengths} (seen : Seen ps ys rest end n) (e : rest ≡ []) where
  pub seen_all : ys ≡ filled ps
  seen_all = sym (append-nil ys) ∙ ap (λ xs. ys ++ xs) (sym e) ∙ seen.lists

  pub seen_allowed : measure_refusal ps ≡ None
  seen_allowed = sym seen.counts ∙ ap measure_refusal e

-- the index of the pair that is next, as the machine has it
module _ {ys : Pairs} {q : ℤ × ℕ} (p : Place ys q) where
  pub index_is : to_z w32 (of_z w32 q.0) ≡ q.0
  index_is = let l = p.index_low in let h = p.index_high in omega (arith, ints)

  pub next_is : to_z w32 (of_z w32 (to_z w32 (of_z w32 q.0) +ℤ pos 1)) ≡ q.0 +ℤ pos 1
  next_is = let l = p.index_low in let h = p.index_high in omega (arith, ints)

  -- it is compared with the end
  pub starts : (end : Option ℤ) → option_eq int_eq end (Some (to_z w32 (of_z w32 q.0))) ≡ false → end ≡ Some q.0 → ⊥
  starts None h e = clash (ap is_some e)
  starts (Some x) h e = both_ways _ h ((Decides-int_eq x _).1 (ap (λ o. unwrap_or o x) e ∙ sym index_is))

  pub joins : (end : Option ℤ) → option_eq int_eq end (Some (to_z w32 (of_z w32 q.0))) ≡ true → end ≡ Some q.0
  joins None h = absurd (false≢true h)
  joins (Some x) h = ap (λ z. Some z) ((Decides-int_eq x _).0 h ∙ index_is)
