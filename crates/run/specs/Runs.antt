-- What a run lists, for which indices it has room, and why it turns one away.
use Rattle.std.specs.Prelude.{ℕ, Bool, ℤ, Some, None, Option}
use Rattle.store.specs.Faults.{refusal}
use Rattle.store.specs.Pairs.{Pairs}
use Rattle.store.specs.declared.faults.StoreFault.{StoreFault}
use Rattle.run.specs.Window.{counter, listing, fits_window}
use Rattle.run.specs.declared.Run.{Run}

-- the pairs of its window
abbrev pub pairs_of : Run → Pairs
pairs_of run = listing (counter run.counters) run.window.first run.window.span

-- the listed indices and the new one fit in 512 consecutive ones
abbrev pub room_of : Run → ℤ → Bool
room_of run i = fits_window (pairs_of run) i

-- a fault, if there is one, as number and place
abbrev pub told : Option StoreFault → Option (ℕ × ℤ)
told (Some fault) = Some (refusal fault)
told None = None
