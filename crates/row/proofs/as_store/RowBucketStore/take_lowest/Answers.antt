use Rattle.std.proofs.Common.{◌-◌, get_or, length, take, pos, sym, ap, ◌∙◌, arith}
use Rattle.store.specs.Pairs.{without_lowest}
use Rattle.store.proofs.Parts.{without_lowest_is}
use Rattle.store.proofs.Range.{ranged_taken}
use Rattle.store.proofs.Taking.{means_taken}
use Rattle.row.specs.Rows.{row_pairs}
use Rattle.row.specs.Laws.{row_means}
use Rattle.row.proofs.Kept.{kept, row_length, total_rest}
use Rattle.row.proofs.Moves.{removed}
use Rattle.row.proofs.as_store.RowBucketStore.take_lowest.Goals as goal

pub invariant_of-self : goal.invariant_of-self
invariant_of-self c =
    let r = c.args.self.now in
    let ps = row_pairs r in
    let item = c.in_ok-lowest.ensures.item in
    let here = ap (λ q. q.1) (item.3.1 (pos 0, 0) ∙ ap (λ qs. get_or qs 0 (pos 0, 0)) c.listed.ensures) in
    let some = ap length c.listed.ensures in
    let size = row_length r in
    let others = total_rest ps (pos 0, 0) (omega arith) in
    let sum = r.sums in
    kept _ _ _ (without_lowest ps) (c.copy_within.ensures.len ∙ r.whole) (omega arith)
    (ap (take (r.size - 1)) c.copy_within.ensures.after ∙ removed r.pairs r.size (omega arith) (omega arith) ∙ sym (without_lowest_is ps))
    (means_taken ps (row_means r))
    (ranged_taken ps r.ranges)
    (omega arith)
