use Rattle.std.proofs.Common.{get_or, pos, sym, refl, ap, ◌∙◌, arith, w32}
use Rattle.std.proofs.lemmas.Grind.{common_steps}
use Rattle.std.proofs.lemmas.Int.{to_z-of_z}
use Rattle.store.specs.Pairs.{raised}
use Rattle.row.specs.Rows.{row_pairs}
use Rattle.row.proofs.Kept.{row_length}
use Rattle.row.proofs.Places.{place_listed, index_at_place, sought_ok, sought_err}
use Rattle.row.proofs.as_store.RowBucketStore.add.Goals as goal

pub raise_at-requires-clause-within : goal.raise_at-requires-clause-within
raise_at-requires-clause-within c =
    let ps = row_pairs c.args.self.now in
    let h = sought_ok _ ps _ c.in-Ok.ensures in
    let size = row_length c.args.self.now in
    omega (arith, h.1, place_listed _ ps h.0)

pub returns-in-Ok : goal.returns-in-Ok
returns-in-Ok c =
    let ps = row_pairs c.args.self.now in
    let h = sought_ok _ ps _ c.in-Ok.ensures in
    let here = index_at_place _ ps (pos 0, 0) c.args.self.now.rises h.0 ∙ to_z-of_z w32 _ c.ranges.index in
    record {
      allowed = grind (arith, common_steps, to_z-of_z);
      raises = c.raise_at.ensures ∙ ap (λ j. raised j ps) (ap (λ k. (get_or ps k (pos 0, 0)).0) (sym h.1) ∙ here);
    }

pub returns-in-Err : goal.returns-in-Err
returns-in-Err c =
    let h = sought_err _ (row_pairs c.args.self.now) _ c.in-Err.ensures in
    let size = row_length c.args.self.now in
    record { because = grind (arith, common_steps, to_z-of_z); unchanged = refl }
