use Rattle.std.proofs.Common.{◌≡◌, length, pos, unwrap_or, sym, refl, ap, ◌∙◌, arith, rules}
use Rattle.std.proofs.lemmas.Int.{ints}
use Rattle.span.proofs.Climbing.{after}
use Rattle.span.proofs.Steps.{last_more}
use Rattle.span.proofs.Seen.{seen_none, seen_place, starts, joins, next_is, spans_new, spans_same, seen_more}
use Rattle.span.proofs.Laying.{ready, seen_small, last_short, laying_deltas, laying_new, laying_last, room_for_delta, room_in_last, room_for_span}
use Rattle.span.proofs.writing.fill.Goals as goal
use Rattle.span.proofs.writing.fill.Goals.{then-eq, else-eq}

pub loop-index-init : goal.loop-index-init
loop-index-init g c = (
  seen_none (g.S.BucketStore.pairs c.args.store.now) _ _ (c.into_iter-index-iterator.ensures.into_iter_gives ∙ c.new-index-items.ensures) (search rules) (search rules),
  record { of_spans = refl; of_deltas = refl; before = refl },
)

pub offset_bounds-deltas-written : goal.offset_bounds-deltas-written
offset_bounds-deltas-written g c = let k = room_for_delta (length c.args.spans.now) (length c.args.deltas.now) c.requires c.loop-index.invariant.0 c.in-Some.ensures.steps in search rules

pub bounds-deltas-written : goal.bounds-deltas-written
bounds-deltas-written g c = let k = room_for_delta (length c.args.spans.now) (length c.args.deltas.now) c.requires c.loop-index.invariant.0 c.in-Some.ensures.steps in omega arith

pub overflow_add-written : goal.overflow_add-written
overflow_add-written g c = let k = room_for_delta (length c.args.spans.now) (length c.args.deltas.now) c.requires c.loop-index.invariant.0 c.in-Some.ensures.steps in search rules

pub overflow_sub-spans : goal.overflow_sub-spans
overflow_sub-spans g c =
    let met = g.met.S.BucketStore in
    let k = room_in_last (length c.args.spans.now) (length c.args.deltas.now) c.requires c.loop-index.invariant.0 c.in-Some.ensures.steps (met.means c.args.store.now) (met.in_range c.args.store.now) (sym c.eq.ensures ∙ c.if-eq.true) in
    omega (arith, k.0, k.1)

pub bounds-spans-written : goal.bounds-spans-written
bounds-spans-written g c =
    let met = g.met.S.BucketStore in
    let k = room_in_last (length c.args.spans.now) (length c.args.deltas.now) c.requires c.loop-index.invariant.0 c.in-Some.ensures.steps (met.means c.args.store.now) (met.in_range c.args.store.now) (sym c.eq.ensures ∙ c.if-eq.true) in
    omega (arith, k.0, k.1)

pub overflow_add-spans : goal.overflow_add-spans
overflow_add-spans g c =
    let met = g.met.S.BucketStore in
    let s = c.loop-index.invariant.0 in
    let e = c.in-Some.ensures.steps in
    let p = seen_place s e (met.means c.args.store.now).rises (met.in_range c.args.store.now) in
    let f = p.few in
    let h = last_short s e (joins p _ (sym c.eq.ensures ∙ c.if-eq.true)) _ _ (pos 0, 0) c.loop-index.invariant.1.of_spans in
    search rules

pub bounds-spans-written-then-eq : goal.bounds-spans-written-then-eq
bounds-spans-written-then-eq g c =
    let met = g.met.S.BucketStore in
    let k = room_in_last (length c.args.spans.now) (length c.args.deltas.now) c.requires c.loop-index.invariant.0 c.in-Some.ensures.steps (met.means c.args.store.now) (met.in_range c.args.store.now) (sym c.eq.ensures ∙ c.if-eq.true) in
    omega (arith, k.0, k.1)

pub overflow_sub-spans-else-eq : goal.overflow_sub-spans-else-eq
overflow_sub-spans-else-eq g c =
    let met = g.met.S.BucketStore in
    let s = c.loop-index.invariant.0 in
    let p = seen_place s c.in-Some.ensures.steps (met.means c.args.store.now).rises (met.in_range c.args.store.now) in
    let n : c.unwrap_or.result ≡ after c.loop-index.yielded = c.unwrap_or.ensures ∙ ap (λ o. unwrap_or o (pos 0)) s.of_end in
    let l = p.low in
    let h = p.high in
    let il = p.index_low in
    let ih = p.index_high in
    omega (arith, ints)

pub bounds-spans-written-else-eq : goal.bounds-spans-written-else-eq
bounds-spans-written-else-eq g c =
    let met = g.met.S.BucketStore in
    let k = room_for_span (length c.args.spans.now) (length c.args.deltas.now) c.requires c.loop-index.invariant.0 c.in-Some.ensures.steps (met.means c.args.store.now) (met.in_range c.args.store.now) (sym c.eq.ensures ∙ c.if-eq.false) in
    omega arith

pub overflow_add-end : goal.overflow_add-end
overflow_add-end g c =
    let met = g.met.S.BucketStore in
    let p = seen_place c.loop-index.invariant.0 c.in-Some.ensures.steps (met.means c.args.store.now).rises (met.in_range c.args.store.now) in
    let l = p.index_low in
    let h = p.index_high in
    omega (arith, ints)

pub loop-index-preserved : goal.loop-index-preserved
loop-index-preserved g c =
    let met = g.met.S.BucketStore in
    let s = c.loop-index.invariant.0 in
    let y = c.loop-index.invariant.1 in
    let e = c.in-Some.ensures.steps in
    let r = ready (g.S.BucketStore.pairs c.args.store.now) (length c.args.spans.now) (length c.args.deltas.now) c.requires in
    let p = seen_place s e (met.means c.args.store.now).rises (met.in_range c.args.store.now) in
    let k = seen_small s e r.small in
    let n = last_more 0 c.loop-index.yielded (c.in-Some.index, c.in-Some.count) in
    let b = y.before in
    elim c.if-eq.branch [
      | then-eq w ↦
          let j = joins p _ (sym c.eq.ensures ∙ w.if-eq.true) in (
            seen_more s e _ _ (next_is p) k (ap (λ n. n.spans) w.written-is ∙ sym (spans_same s e j)) (ap (λ n. n.deltas) w.written-is),
            record { of_spans = w.spans-is ∙ laying_last s e j c.args.spans.now c.loop-index.spans (pos 0, 0) y.of_spans; of_deltas = laying_deltas s e c.args.deltas.now c.loop-index.deltas _ _ b (omega (arith, ints)) r.of_deltas y.of_deltas; before = omega (arith, ints) },
          )
      | else-eq w ↦
          let a = starts p _ (sym c.eq.ensures ∙ w.if-eq.false) in
          let i : w.unwrap_or.result ≡ after c.loop-index.yielded = w.unwrap_or.ensures ∙ ap (λ o. unwrap_or o (pos 0)) s.of_end in
          let l = p.low in
          let h = p.high in
          let il = p.index_low in
          let ih = p.index_high in (
            seen_more s e _ _ (next_is p) k (ap (λ n. n.spans) w.written-is ∙ sym (spans_new s e a)) (ap (λ n. n.deltas) w.written-is),
            record { of_spans = laying_new s e a c.args.spans.now c.loop-index.spans w.spans-is (omega (arith, ints)) r.of_spans y.of_spans; of_deltas = laying_deltas s e c.args.deltas.now c.loop-index.deltas _ _ b (omega (arith, ints)) r.of_deltas y.of_deltas; before = omega (arith, ints) },
          )
    ]
