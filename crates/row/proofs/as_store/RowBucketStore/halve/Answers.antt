use Rattle.std.proofs.Common.{sym, ◌∙◌, arith}
use Rattle.store.specs.Pairs.{halved_pairs}
use Rattle.store.proofs.Halving.{means_halved, total_halved}
use Rattle.store.proofs.Range.{ranged_halved}
use Rattle.row.specs.Rows.{row_pairs}
use Rattle.row.specs.Laws.{row_means}
use Rattle.row.proofs.Kept.{kept}
use Rattle.row.proofs.as_store.RowBucketStore.halve.Goals as goal

pub invariant_of-self : goal.invariant_of-self
invariant_of-self c =
    let r = c.args.self.now in
    let ps = row_pairs r in
    kept _ _ _ (halved_pairs ps) (c.halve_all-self.auto.pairs ∙ r.whole) (omega arith)
    c.halve_all-self.ensures.halves
    (means_halved ps (row_means r))
    (ranged_halved ps r.ranges)
    (r.sums ∙ sym (total_halved ps))
