use Rattle.std.proofs.Common.{arith, rules}
use Rattle.std.proofs.lemmas.Int.{ints}
use Rattle.span.proofs.Filling.{starts}
use Rattle.span.proofs.filled.Filled.new.Goals as goal

pub invariant_of-result : goal.invariant_of-result
invariant_of-result g c =
    let s = starts (g.S.BucketStore.pairs c.args.store.now) c.pair.result c.map_or.result (g.met.S.BucketStore.in_range c.args.store.now) c.pair.ensures c.map_or.ensures (λ p q. search rules) in
    let l = s.low in
    let h = s.high in
    record { low = omega (arith, ints); high = omega (arith, ints) }
