use Rattle.std.proofs.Common.{◌≡◌, ℕ, ◌+◌, get_or, take, pos, ap, ◌∙◌, arith, w32, SFits, to_z, of_z, rules}
use Rattle.std.proofs.lemmas.Int.{to_z-of_z}
use Rattle.index.specs.Index.{halved}
use Rattle.store.specs.Pairs.{total, joined_last}
use Rattle.store.proofs.Halving.{total_halved}
use Rattle.row.proofs.Joins.{drop_further, drop_first, total_more, total_front, halved_step}
use Rattle.row.proofs.halving.halve_all.Goals as goal

pub join_last-used-requires-clause-bounded : goal.join_last-used-requires-clause-bounded
join_last-used-requires-clause-bounded c =
    let xs = c.args.pairs.now in
    let ys = c.loop-k.pairs in
    let k : ℕ = c.loop-k.k in
    let same : (get_or ys c.loop-k.k (pos 0, 0)).1 ≡ (get_or xs c.loop-k.k (pos 0, 0)).1 = ap (λ q. q.1) (drop_first ys xs k (pos 0, 0) c.loop-k.invariant.rest) in
    let sum : total (take c.loop-k.used ys) ≡ total (take c.loop-k.k xs) = ap total c.loop-k.invariant.halves ∙ total_halved (take k xs) in
    let more = total_more xs k (pos 0, 0) (omega arith) in
    let all = total_front xs (k + 1) c.args.size (omega arith) in
    omega arith

pub loop-k-preserved : goal.loop-k-preserved
loop-k-preserved c =
    let xs = c.args.pairs.now in
    let ys = c.loop-k.pairs in
    let k : ℕ = c.loop-k.k in
    let f : SFits w32 (get_or ys c.loop-k.k (pos 0, 0)).0 = search rules in
    let g : SFits w32 c.coarser_index.result = search rules in
    let half : to_z w32 (of_z w32 c.coarser_index.result) ≡ halved (get_or ys c.loop-k.k (pos 0, 0)).0 =
    to_z-of_z w32 _ g ∙ c.coarser_index.ensures.value ∙ ap halved (to_z-of_z w32 _ f) in
    record {
      within = omega arith;
      halves =
          c.join_last-used.ensures.joins
          ∙ ap (λ i. joined_last (take c.loop-k.used ys) (i, (get_or ys k (pos 0, 0)).1)) half
          ∙ halved_step xs ys k c.loop-k.used (pos 0, 0) (omega arith) c.loop-k.invariant.halves (drop_first ys xs k (pos 0, 0) c.loop-k.invariant.rest);
      rest =
          drop_further c.join_last-used.new.pairs ys (c.loop-k.used + 1) (k + 1) (omega arith) c.join_last-used.ensures.beyond
          ∙ drop_further ys xs k (k + 1) (omega arith) c.loop-k.invariant.rest;
    }
