use Rattle.std.proofs.Common.{length, sym, ap, ◌∙◌, arith, rules}
use Rattle.std.proofs.lemmas.Int.{ints}
use Rattle.std.proofs.lemmas.Bool.{not-true, not-false}
use Rattle.span.specs.Spans.{filled, runs}
use Rattle.span.proofs.Steps.{length_differences}
use Rattle.span.proofs.Seen.{seen_none, seen_place, seen_few, next_is, starts, joins, spans_new, spans_same, seen_more, seen_all, seen_allowed}
use Rattle.span.proofs.writing.measure.Goals as goal
use Rattle.span.proofs.writing.measure.Goals.{then-ne, else-ne}

pub loop-index-init : goal.loop-index-init
loop-index-init g c =
    seen_none (g.S.BucketStore.pairs c.args.store.now) _ _ (c.into_iter-index-iterator.ensures.into_iter_gives ∙ c.new-index-items.ensures) (search rules) (search rules)

pub overflow_add-lengths : goal.overflow_add-lengths
overflow_add-lengths g c =
    let met = g.met.S.BucketStore in
    let f = (seen_few c.loop-index.invariant c.in-Some.ensures.steps (met.means c.args.store.now) (met.in_range c.args.store.now)).1 in
    search rules

pub overflow_add-lengths-then-ne : goal.overflow_add-lengths-then-ne
overflow_add-lengths-then-ne g c =
    let met = g.met.S.BucketStore in
    let f = (seen_few c.loop-index.invariant c.in-Some.ensures.steps (met.means c.args.store.now) (met.in_range c.args.store.now)).0 in
    search rules

pub overflow_add-end : goal.overflow_add-end
overflow_add-end g c =
    let met = g.met.S.BucketStore in
    let p = seen_place c.loop-index.invariant c.in-Some.ensures.steps (met.means c.args.store.now).rises (met.in_range c.args.store.now) in
    let l = p.index_low in
    let h = p.index_high in
    omega (arith, ints)

pub loop-index-preserved : goal.loop-index-preserved
loop-index-preserved g c =
    let met = g.met.S.BucketStore in
    let s = c.loop-index.invariant in
    let e = c.in-Some.ensures.steps in
    let p = seen_place s e (met.means c.args.store.now).rises (met.in_range c.args.store.now) in
    elim c.if-ne.branch [
      | then-ne w ↦
          seen_more s e _ _ (next_is p) (omega arith)
          (ap (λ n. n.spans) w.lengths-is ∙ sym (spans_new s e (starts p _ (not-true _ (sym c.ne.ensures ∙ w.if-ne.true)))))
          (let d = ap (λ n. n.deltas) w.lengths-is in omega arith)
      | else-ne w ↦
          seen_more s e _ _ (next_is p) (omega arith)
          (ap (λ n. n.spans) w.lengths-is ∙ sym (spans_same s e (joins p _ (not-false _ (sym c.ne.ensures ∙ w.if-ne.false)))))
          (let d = ap (λ n. n.deltas) w.lengths-is in omega arith)
    ]

pub returns : goal.returns
returns g c =
    let s = c.loop-index.invariant in
    let all = seen_all s c.in-None.ensures.steps.0 in
    record {
      allowed = seen_allowed s c.in-None.ensures.steps.0;
      lengths = record {
        of_spans = s.of_spans ∙ ap (λ xs. length (runs xs)) all;
        of_deltas = s.of_deltas ∙ ap length all ∙ sym (length_differences 0 (filled (g.S.BucketStore.pairs c.args.store.now)));
      };
    }
