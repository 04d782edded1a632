use Rattle.std.proofs.Common.{◌≡◌, ◌+◌, ◌-◌, ap, sym, ◌∙◌, arith}
use Rattle.index.specs.Index.{halved as halved_index}
use Rattle.store.specs.Pairs.{total, halved_pairs}
use Rattle.run.specs.Runs.{pairs_of}
use Rattle.run.specs.Window.{index_of, coarse, counter, listing, raised_by}
use Rattle.run.proofs.Halving.{halves_used, halves_fit, widened_within, span_none}
use Rattle.run.proofs.bucket_store.RunBucketStore.halve.Goals as goal

pub loop-at-init : goal.loop-at-init
loop-at-init c =
    let run = c.args.self.now in
    let new = c.new-halved.result in
    let range = ap (λ r. r.iter) c.into_iter-at-iterator.ensures.into_iter_gives ∙ c.rev-at-items.ensures.source ∙ c.positions.ensures in
    let start = ap (λ r. r.start) range in
    let end = ap (λ r. r.end) range in
    let none : run.window.first + run.window.span - c.into_iter-at-iterator.result.iter.end ≡ 0 = omega arith in
    let empty = span_none (counter new.counters) new.window.first new.window.span new.low c.new-halved.ensures in
    record {
      start = start;
      low = omega arith;
      high = omega arith;
      within = λ h. absurd (omega arith);
      lists =
          c.new-halved.ensures
          ∙ sym (ap (λ n. halved_pairs (listing (counter run.counters) c.into_iter-at-iterator.result.iter.end n)) none);
    }

pub raise-requires-clause-fits : goal.raise-requires-clause-fits
raise-requires-clause-fits c =
    let run = c.args.self.now in
    let end = run.window.first + run.window.span in
    let steps = c.in-Some.ensures.steps in
    let old = c.loop-at.invariant in
    let fit = halves_fit (counter run.counters) c.in-Some.at c.loop-at.at-iterator.iter.end end (omega arith) (omega arith) run.window.first run.window.span (omega arith) (omega arith) in
    let all = run.summed in
    let sum = run.bounded in
    let part = c.loop-at.halved.summed in
    let same = ap total old.lists in
    omega arith

pub loop-at-preserved-then-count-gt0 : goal.loop-at-preserved-then-count-gt0
loop-at-preserved-then-count-gt0 c =
    let run = c.args.self.now in
    let count = counter run.counters in
    let end = run.window.first + run.window.span in
    let halved = c.loop-at.halved in
    let steps = c.in-Some.ensures.steps in
    let old = c.loop-at.invariant in
    let a = c.next.new.self.iter.end in
    let b = c.coarser.result.at in
    let at : c.in-Some.at ≡ a = omega arith in
    let here = c.counter-count.ensures ∙ ap count at in
    let low : b ≡ coarse a = c.coarser.ensures.value ∙ ap coarse at in
    record {
      start = omega arith;
      low = omega arith;
      high = omega arith;
      within = λ h. widened_within c.raise.ensures.window (coarse a) (coarse (end - 1) + 1) (omega arith) (omega arith) (λ u. let w = old.within u in (omega arith, omega arith));
      lists =
          c.raise.ensures.pairs
          ∙ ap (λ n. raised_by (index_of b) n (pairs_of halved)) here
          ∙ halves_used count a c.loop-at.at-iterator.iter.end end (omega arith) (omega arith)
          (counter halved.counters) halved.window.first halved.window.span b (omega arith) (c.coarser.ensures.index ∙ ap (λ k. halved_index (index_of k)) at) (λ u. let w = old.within u in omega arith) old.lists;
    }
