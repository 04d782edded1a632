use Rattle.std.proofs.Common.{arith}
use Rattle.hub.proofs.Totals.{one_more}
use Rattle.hub.proofs.plugs.Plug.add.Goals as goal
use Rattle.hub.proofs.plugs.Plug.add.Goals.{in-Positive+in_ok-add-in-Positive, in-Negative+in_ok-add-in-Negative}

pub invariant_of-self-2-clause-counts : goal.invariant_of-self-2-clause-counts
invariant_of-self-2-clause-counts c =
    let p = c.args.self.now in
    elim c.match-side.branch [
      | in-Positive+in_ok-add-in-Positive w ↦ rw w.self-is (omega (arith, p.counts, one_more w.in_ok-add-in-Positive.ensures))
      | in-Negative+in_ok-add-in-Negative w ↦ rw w.self-is (omega (arith, p.counts, one_more w.in_ok-add-in-Negative.ensures))
    ]
