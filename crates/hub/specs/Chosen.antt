-- What the store of a plug lists and has room for, be it a row or a run.
use Rattle.std.specs.Prelude.{Bool, ℤ}
use Rattle.store.specs.Pairs.{Pairs}
use Rattle.row.specs.Rows.{row_pairs, row_room}
use Rattle.run.specs.Runs.{pairs_of, room_of}
use Rattle.hub.specs.declared.chosen.StoreKind.{StoreKind}
use Rattle.hub.specs.declared.chosen.StoreKind.TheVariants as kinds
use Rattle.hub.specs.declared.chosen.Buckets.{Buckets}
use Rattle.hub.specs.declared.chosen.Buckets.TheVariants.{InRow, InRun}

abbrev pub pairs_in : Buckets → Pairs
pairs_in (InRow row) = row_pairs row
pairs_in (InRun run) = pairs_of run

abbrev pub room_in : Buckets → ℤ → Bool
room_in (InRow row) = row_room (row_pairs row)
room_in (InRun run) = room_of run

abbrev pub kind_of : Buckets → StoreKind
kind_of (InRow row) = kinds.Row
kind_of (InRun run) = kinds.Run
