use Rattle.std.proofs.Common.{◌≡◌, ◌+◌, Some, sym, ap, ◌∙◌, arith, w32, to_z, of_z}
use Rattle.std.proofs.lemmas.Int.{ints}
use Rattle.store.specs.Pairs.{pair_at}
use Rattle.store.proofs.Parts.{pair_at_past}
use Rattle.run.specs.Runs.{pairs_of}
use Rattle.run.specs.Window.{index_of, counter}
use Rattle.run.specs.Listings.{walk_ends, walk_passes, walk_skips}
use Rattle.run.proofs.bucket_store.RunBucketStore.pair.Goals as goal
use Rattle.run.proofs.bucket_store.RunBucketStore.pair.Goals.{then-count-gt0+else-left-eq0, else-count-gt0}

-- past the last pair
pub returns-then-position-self : goal.returns-then-position-self
returns-then-position-self c =
    let run = c.args.self.now in
    let all = run.sized in
    sym (pair_at_past (pairs_of run) c.args.position (omega arith))

pub returns-then-left-eq0 : goal.returns-then-left-eq0
returns-then-left-eq0 c =
    let run = c.args.self.now in
    let at = c.loop-at.at in
    let here = c.counter-count.ensures in
    let i : to_z w32 (of_z w32 c.index.result) ≡ index_of at = omega (arith, ints) in
    ap (λ n. Some (to_z w32 (of_z w32 c.index.result), n)) here
    ∙ walk_ends (counter run.counters) at (run.window.first + run.window.span) c.loop-at.left c.loop-at-test.true
    (to_z w32 (of_z w32 c.index.result)) (pair_at (pairs_of run) c.args.position)
    i (omega arith) c.if-left-eq0.true c.loop-at.invariant

pub loop-at-preserved : goal.loop-at-preserved
loop-at-preserved c =
    let run = c.args.self.now in
    let at = c.loop-at.at in
    let left = c.loop-at.left in
    let end = run.window.first + run.window.span in
    let sought = pair_at (pairs_of run) c.args.position in
    let here = c.counter-count.ensures in
    elim c.if-count-gt0.branch [
      | then-count-gt0+else-left-eq0 w ↦
          walk_passes (counter run.counters) at end left c.loop-at-test.true c.if-count-gt0.left sought
          w.left-is (let used = w.if-count-gt0.true in omega arith) (omega arith) c.loop-at.invariant
      | else-count-gt0 w ↦
          walk_skips (counter run.counters) at end left c.loop-at-test.true c.if-count-gt0.left sought
          w.left-is (let unused = w.if-count-gt0.false in omega arith) c.loop-at.invariant
    ]
