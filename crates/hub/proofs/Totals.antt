-- How many readings the store of a side counts.
use Rattle.std.proofs.Common.{◌≡◌, ◌+◌, ◌^◌, ◌<◌, ℤ, ap, ◌∙◌}
use Rattle.store.specs.Pairs.{Pairs, total}
use Rattle.store.specs.Stores.{Room, Accepted}
use Rattle.store.proofs.Raising.{total_raised}
use Rattle.hub.specs.declared.chosen.Buckets.{Buckets}
use Rattle.hub.specs.Chosen.{pairs_in}
use Rattle.hub.specs.Stores.{means_in}

pub total_bound : (b : Buckets) → total (pairs_in b) < 2 ^ 64
total_bound b = (means_in b).bounded

-- a store that took an index counts one more
pub one_more : {ps qs : Pairs} {room : Room} {i : ℤ} → Accepted ps room i qs → total qs ≡ total ps + 1
one_more {ps} {qs} {room} {i} a = ap total a.raises ∙ total_raised i ps
