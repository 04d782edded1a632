use Rattle.std.proofs.Common.{◌≡◌, ◌+◌, ap, arith, rules}
use Rattle.run.specs.Window.{counter}
use Rattle.run.specs.Listings.{length_below, used, used_zero, used_more}
use Rattle.run.specs.Windows.{window_of, kept_by_run}
use Rattle.run.proofs.Raising.{counter_part, raises, raises_window}
use Rattle.run.proofs.Run.raise.Goals as goal
use Rattle.run.proofs.Run.raise.Goals.{then-self-place-eq0, else-self-place-eq0}

pub overflow_add-self : goal.overflow_add-self
overflow_add-self c =
    let run = c.args.self.now in
    omega (arith, run.sized, run.window.width, length_below (counter run.counters) run.window.first run.window.span)

pub overflow_add-self-2 : goal.overflow_add-self-2
overflow_add-self-2 c =
    omega (arith, c.requires.fits, counter_part (window_of c.args.self.now) c.widened-self.ensures)

pub invariant_of-self : goal.invariant_of-self
invariant_of-self c =
    let run = c.args.self.now in
    let size = c.if-self-place-eq0.self.1.1.1.0 in
    let count = counter run.counters c.args.position.at in
    let counts : size + used count ≡ run.size + 1 =
    elim c.if-self-place-eq0.branch [
      | then-self-place-eq0 w ↦ omega (arith, ap (λ t. t.1.1.1.0) w.self-is, used_zero count w.if-self-place-eq0.true)
      | else-self-place-eq0 w ↦ omega (arith, ap (λ t. t.1.1.1.0) w.self-is, used_more count (omega arith))
    ] in
    kept_by_run (raises_window (window_of run) c.widened-self.ensures (search rules) c.args.by c.requires.more size c.args.position.bound counts c.requires.fits)

pub returns-clause-pairs : goal.returns-clause-pairs
returns-clause-pairs c =
    raises (window_of c.args.self.now) c.widened-self.ensures (search rules) c.args.by c.requires.more
