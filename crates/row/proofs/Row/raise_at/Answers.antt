use Rattle.std.proofs.Common.{ℕ, get_or, pos, ◌∙◌, arith, rules}
use Rattle.std.proofs.lemmas.List.{length-set}
use Rattle.store.specs.Pairs.{raised}
use Rattle.store.proofs.Raising.{means_raised, total_raised}
use Rattle.store.proofs.Range.{ranged_raised}
use Rattle.store.proofs.Parts.{total_taken}
use Rattle.row.specs.Rows.{row_pairs}
use Rattle.row.specs.Laws.{row_means}
use Rattle.row.proofs.Kept.{kept, row_length, ranged_at}
use Rattle.row.proofs.Raising.{raised_front}
use Rattle.row.proofs.Row.raise_at.Goals as goal

pub overflow_add-self : goal.overflow_add-self
overflow_add-self c =
    let t = c.args.self.now.pairs in
    let n : ℕ = c.args.self.now.size in
    let k : ℕ = c.args.position in
    let most = total_taken t n k (pos 0, 0) (omega arith) (omega arith) in
    let sum = c.args.self.now.sums in
    search rules

pub invariant_of-self : goal.invariant_of-self
invariant_of-self c =
    let r = c.args.self.now in
    let k : ℕ = c.args.position in
    let i = (get_or (row_pairs r) k (pos 0, 0)).0 in
    let sum = c.args.self.now.sums in
    kept _ _ _ (raised i (row_pairs r)) (length-set r.pairs k _ ∙ r.whole) r.fits
    (raised_front r.pairs r.size k (pos 0, 0) (omega arith) (omega arith) r.rises)
    (means_raised i (row_pairs r) (omega arith) (row_means r))
    (ranged_raised i (row_pairs r) (ranged_at (row_pairs r) k (pos 0, 0) r.ranges (let n = row_length r in omega arith)) r.ranges)
    (let e = total_raised i (row_pairs r) in omega arith)

pub returns : goal.returns
returns c = raised_front c.args.self.now.pairs c.args.self.now.size c.args.position (pos 0, 0) (omega arith) (omega arith) c.args.self.now.rises
