-- The laws of the store of a plug, be it a row or a run.
use Rattle.std.specs.Prelude.{T}
use Rattle.store.specs.Pairs.{Means, ranged}
use Rattle.store.specs.Stores.{Roomy}
use Rattle.row.specs.Laws.{row_means, row_ranged, row_roomy}
use Rattle.run.specs.Windows.{window_of, window_means, window_ranged, window_roomy}
use Rattle.hub.specs.declared.chosen.Buckets.{Buckets}
use Rattle.hub.specs.declared.chosen.Buckets.TheVariants.{InRow, InRun}
use Rattle.hub.specs.Chosen.{pairs_in, room_in}

pub means_in : (b : Buckets) → Means (pairs_in b)
means_in (InRow row) = row_means row
means_in (InRun run) = window_means (window_of run)

pub ranged_in : (b : Buckets) → T (ranged (pairs_in b))
ranged_in (InRow row) = row_ranged row
ranged_in (InRun run) = window_ranged (window_of run)

pub roomy_in : (b : Buckets) → Roomy (pairs_in b) (room_in b)
roomy_in (InRow row) = row_roomy row
roomy_in (InRun run) = window_roomy (window_of run)
