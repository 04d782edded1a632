use Rattle.std.proofs.Common.{◌≡◌, ◌+◌, ◌-◌, ◌<◌, ◌≤◌}
use Rattle.store.specs.Pairs.{halved_pairs}
use Rattle.run.specs.Runs.{pairs_of}
use Rattle.run.specs.Window.{coarse, counter, listing}
use Rattle.run.proofs.bucket_store.RunBucketStore.halve.Given as goal

-- the positions from `end` of the iterator on are halved
abbrev pub invariant-loop-at : goal.invariant-loop-at
invariant-loop-at l =
    let range = l.at-iterator.iter in
    let window = l.self.window in
    record {
      start : range.start ≡ window.first;
      low : window.first ≤ range.end;
      high : range.end ≤ window.first + window.span;
      within : 0 < l.halved.window.span → (coarse range.end ≤ l.halved.window.first) × (l.halved.window.first + l.halved.window.span ≤ coarse (window.first + window.span - 1) + 1);
      lists : pairs_of l.halved ≡ halved_pairs (listing (counter l.self.counters) range.end (window.first + window.span - range.end));
    }
