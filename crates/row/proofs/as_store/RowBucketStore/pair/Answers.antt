use Rattle.std.proofs.Common.{◌≡◌, ap, ◌∙◌, slice_get, arith}
use Rattle.std.proofs.lemmas.Grind.{common_steps}
use Rattle.std.proofs.lemmas.Option.{gets}
use Rattle.store.specs.Pairs.{pair_at}
use Rattle.row.proofs.Kept.{pair_at_get}
use Rattle.row.proofs.as_store.RowBucketStore.pair.Goals as goal

pub returns : goal.returns
returns c =
    let read : c.copied.result ≡ slice_get c.listed.result.now c.args.position = grind (arith, common_steps, gets) in
    read ∙ pair_at_get c.listed.result.now c.args.position ∙ ap (λ ps. pair_at ps c.args.position) c.listed.ensures
