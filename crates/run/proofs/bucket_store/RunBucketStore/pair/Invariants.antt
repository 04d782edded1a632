use Rattle.std.proofs.Common.{◌≡◌, ◌-◌}
use Rattle.store.specs.Pairs.{pair_at}
use Rattle.run.specs.Window.{counter, listing}
use Rattle.run.proofs.bucket_store.RunBucketStore.pair.Given as goal

-- the pair at `left` of what is still to come is the one that is asked for
abbrev pub invariant-loop-at : goal.invariant-loop-at
invariant-loop-at l =
    pair_at (listing (counter l.self.counters) l.at (l.at-end - l.at)) l.left
    ≡ pair_at (listing (counter l.self.counters) l.self.window.first l.self.window.span) l.position
