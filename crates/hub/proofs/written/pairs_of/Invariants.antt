use Rattle.std.proofs.Common.{◌≡◌, take, vec_items}
use Rattle.hub.proofs.written.pairs_of.Given as goal

abbrev pub invariant-loop-position : goal.invariant-loop-position
invariant-loop-position g l = vec_items l.pairs ≡ take l.position (g.S.BucketStore.pairs l.store)
