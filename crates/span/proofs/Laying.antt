-- What a loop over the filled pairs has written.
use Rattle.std.proofs.Common.{◌≡◌, ℕ, ◌+◌, ◌-◌, ◌^◌, ◌<◌, ◌≤◌, true, false, T, List, [], ◌∷◌, ◌++◌, length, get_or, set, ℤ, pos, ◌-ℤ◌, int_eq, Some, None, Option, sym, ap, ◌∙◌, inl, inr, arith, w32, to_z, of_z}
use Rattle.std.specs.Option.{option_eq}
use Rattle.std.proofs.lemmas.List.{length-append, length_push}
use Rattle.std.proofs.lemmas.Bool.{cases_lt}
use Rattle.store.specs.Pairs.{Pairs, Means, ranged}
use Rattle.span.specs.declared.writing.Lengths.{Lengths}
use Rattle.span.specs.Spans.{Spans, filled, runs, differences, spans, deltas}
use Rattle.span.specs.Writing.{measure_refusal, write_refusal, laid}
use Rattle.span.proofs.Climbing.{after}
use Rattle.span.proofs.Steps.{runs_grow, last_count, differences_more, length_differences, laid_more, laid_last, laid_at}
use Rattle.span.proofs.Seen.{Seen, lists_more, too_large, seen_place, joins, starts, new_runs, spans_new, seen_longer, spans_same}

-- buffers that are long enough, for counts that are small enough
pub record Ready (ps : Pairs) (s d : ℕ) : Type 0 where
  pub small : measure_refusal ps ≡ None
  pub of_spans : length (spans ps) ≤ s
  pub of_deltas : length (deltas ps) ≤ d

pub ready : (ps : Pairs) (s d : ℕ) → write_refusal ps s d ≡ None → Ready ps s d
ready ps s d e = record { small = grind arith; of_spans = grind arith; of_deltas = grind arith }

-- of ss and ds the starts are written, and `previous` is the count last written
pub record Laying (ys : Pairs) (ss : Spans) (ds : List ℤ) (ss' : Spans) (ds' : List ℤ) (previous : ℤ) : Type 0 where
  pub of_spans : ss' ≡ laid (runs ys) ss
  pub of_deltas : ds' ≡ laid (differences 0 ys) ds
  pub before : previous ≡ pos (last_count 0 ys)

module _ {ps ys rest rest' : Pairs} {q : ℤ × ℕ} {end : Option ℤ} {n : Lengths} (seen : Seen ps ys rest end n) (e : rest ≡ q ∷ rest') where
  pub seen_small : measure_refusal ps ≡ None → q.1 < 2 ^ 63
  seen_small none =
      elim (cases_lt q.1 (2 ^ 63)) [
        | inl h ↦ h
        | inr h ↦
            let t = too_large seen e (omega arith) in
            absurd (let z : ◌≡◌ {A = ℕ} 0 1 = cc in omega arith)
      ]

  seen_deltas : (m : ℕ) → length (deltas ps) ≤ m → n.deltas + 1 ≤ m
  seen_deltas m h =
      let k = ap length (lists_more seen e) in
      let l = length-append (ys ++ q ∷ []) rest' in
      let j = length_push ys q in
      let o = length_differences 0 (filled ps) in
      let p = seen.of_deltas in
      omega arith

  seen_room : (m : ℕ) → length (spans ps) ≤ m → length (runs (ys ++ q ∷ [])) ≤ m
  seen_room m h =
      let g = runs_grow (ys ++ q ∷ []) rest' in
      let k = ap (λ xs. length (runs xs)) (lists_more seen e) in
      omega arith

  pub laying_deltas : (ds ds' : List ℤ) (delta : ℤ) (previous : ℤ) → previous ≡ pos (last_count 0 ys) → delta ≡ pos q.1 -ℤ previous → length (deltas ps) ≤ length ds → ds' ≡ laid (differences 0 ys) ds → set ds' n.deltas delta ≡ laid (differences 0 (ys ++ q ∷ [])) ds
  laying_deltas ds ds' delta previous b f room w =
      let k = seen.of_deltas ∙ sym (length_differences 0 ys) in
      let long = seen_deltas (length ds) room in
      ap (λ k. set ds' k delta) k
      ∙ ap (λ xs. set xs (length (differences 0 ys)) delta) w
      ∙ laid_more (differences 0 ys) ds delta (omega arith)
      ∙ ap (λ x. laid (differences 0 ys ++ x ∷ []) ds) (f ∙ ap (λ x. pos q.1 -ℤ x) b)
      ∙ ap (λ xs. laid xs ds) (sym (differences_more 0 ys q))

  -- q starts a span
  module _ (apart : end ≡ Some q.0 → ⊥) where
    new_fits : (m : ℕ) → length (spans ps) ≤ m → n.spans + 1 ≤ m
    new_fits m h = let r = seen_room m h in let s = spans_new seen e apart in omega arith

    pub laying_new : (ss ss' : Spans) {ss'' : Spans} {offset : ℤ} → ss'' ≡ set ss' n.spans (offset, 1) → offset ≡ q.0 -ℤ after ys → length (spans ps) ≤ length ss → ss' ≡ laid (runs ys) ss → ss'' ≡ laid (runs (ys ++ q ∷ [])) ss
    laying_new ss ss' {offset = offset} is f room w =
        let long = new_fits (length ss) room in
        let k = seen.of_spans in
        is
        ∙ ap (λ k. set ss' k (offset, 1)) seen.of_spans
        ∙ ap (λ xs. set xs (length (runs ys)) (offset, 1)) w
        ∙ laid_more (runs ys) ss (offset, 1) (omega arith)
        ∙ ap (λ x. laid (runs ys ++ (x, 1) ∷ []) ss) f
        ∙ ap (λ xs. laid xs ss) (sym (new_runs seen e apart))

  -- q lengthens the last span
  module _ (joined : end ≡ Some q.0) where
    last_fits : (m : ℕ) → length (spans ps) ≤ m → (0 < n.spans) × (n.spans ≤ m)
    last_fits m h =
        let r = seen_room m h in
        let s = spans_same seen e joined in
        let l = seen_longer seen e joined in
        let k = ap length l.is ∙ length_push l.done _ in
        (omega arith, omega arith)

    last_place : n.spans - 1 ≡ length (seen_longer seen e joined).done
    last_place =
        let s = spans_same seen e joined in
        let l = seen_longer seen e joined in
        let k = ap length l.is ∙ length_push l.done _ in
        omega arith

    last_at : (ss ss' : Spans) (t : ℤ × ℕ) → ss' ≡ laid (runs ys) ss → get_or ss' (n.spans - 1) t ≡ ((seen_longer seen e joined).offset, (seen_longer seen e joined).size)
    last_at ss ss' t w =
        let l = seen_longer seen e joined in
        ap (λ k. get_or ss' k t) last_place
        ∙ ap (λ xs. get_or xs (length l.done) t) (w ∙ ap (λ xs. laid xs ss) l.was)
        ∙ laid_at l.done ss (l.offset, l.size) t

    pub last_short : (ss ss' : Spans) (t : ℤ × ℕ) → ss' ≡ laid (runs ys) ss → (get_or ss' (n.spans - 1) t).1 ≤ length ys
    last_short ss ss' t w = let k = ap (λ x. x.1) (last_at ss ss' t w) in let h = (seen_longer seen e joined).short in omega arith

    pub laying_last : (ss ss' : Spans) (t : ℤ × ℕ) → ss' ≡ laid (runs ys) ss → set ss' (n.spans - 1) ((get_or ss' (n.spans - 1) t).0, (get_or ss' (n.spans - 1) t).1 + 1) ≡ laid (runs (ys ++ q ∷ [])) ss
    laying_last ss ss' t w =
        let l = seen_longer seen e joined in
        ap (λ x. set ss' (n.spans - 1) (x.0, x.1 + 1)) (last_at ss ss' t w)
        ∙ ap (λ k. set ss' k (l.offset, l.size + 1)) last_place
        ∙ ap (λ xs. set xs (length l.done) (l.offset, l.size + 1)) (w ∙ ap (λ xs. laid xs ss) l.was)
        ∙ laid_last l.done ss (l.offset, l.size) (l.offset, l.size + 1)
        ∙ ap (λ xs. laid xs ss) (sym l.is)

-- room in buffers of s spans and d deltas, for pairs that are not refused
module _ {ps ys rest rest' : Pairs} {q : ℤ × ℕ} {end : Option ℤ} {n : Lengths} (s d : ℕ) (none : write_refusal ps s d ≡ None) (seen : Seen ps ys rest end n) (e : rest ≡ q ∷ rest') where
  pub room_for_delta : n.deltas + 1 ≤ d
  room_for_delta = seen_deltas seen e d (ready ps s d none).of_deltas

  module _ (m : Means ps) (t : T (ranged ps)) where
    pub room_in_last : option_eq int_eq end (Some (to_z w32 (of_z w32 q.0))) ≡ true → (0 < n.spans) × (n.spans ≤ s)
    room_in_last b = last_fits seen e (joins (seen_place seen e m.rises t) end b) s (ready ps s d none).of_spans

    pub room_for_span : option_eq int_eq end (Some (to_z w32 (of_z w32 q.0))) ≡ false → n.spans + 1 ≤ s
    room_for_span b = new_fits seen e (starts (seen_place seen e m.rises t) end b) s (ready ps s d none).of_spans
