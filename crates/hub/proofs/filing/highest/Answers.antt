use Rattle.std.proofs.Common.{◌-◌, ap, ◌∙◌, rules}
use Rattle.store.specs.Pairs.{pair_at}
use Rattle.hub.proofs.Tops.{last_pair}
use Rattle.hub.proofs.filing.highest.Goals as goal

pub returns : goal.returns
returns g c =
    let ps = g.S.BucketStore.pairs c.args.store.now in
    let h = last_pair ps c.pair.result (g.met.S.BucketStore.means c.args.store.now).rises (c.pair.ensures ∙ ap (pair_at ps) (c.in_ok-last.ensures.1 ∙ ap (λ n. n - 1) c.size.ensures)) in
    search rules
