use Rattle.std.proofs.Common.{◌≡◌, ap, ◌∙◌, Some, arith, w32, to_z, of_z, rules}
use Rattle.std.proofs.lemmas.Int.{ints}
use Rattle.run.specs.Windows.{window_of, kept_by_run}
use Rattle.run.proofs.Taking.{takes_size, takes_sum, takes_lowest, takes_rest, takes_window}
use Rattle.run.proofs.bucket_store.RunBucketStore.take_lowest.Goals as goal

pub overflow_sub-self : goal.overflow_sub-self
overflow_sub-self c = takes_size (window_of c.args.self.now) c.in_ok-lowest.ensures c.bucket-index.ensures

pub overflow_sub-self-2 : goal.overflow_sub-self-2
overflow_sub-self-2 c =
    let count = takes_sum (window_of c.args.self.now) c.in_ok-lowest.ensures c.bucket-index.ensures in
    omega arith

pub invariant_of-self : goal.invariant_of-self
invariant_of-self c =
    kept_by_run
    (takes_window (window_of c.args.self.now) c.in_ok-lowest.ensures c.bucket-index.ensures
    (search rules) c.used_from-next.ensures c.starting_at-self.ensures.first c.starting_at-self.ensures.span)

pub returns-clause-answer : goal.returns-clause-answer
returns-clause-answer c =
    let index = ap (λ p. p.0) c.bucket-index.ensures in
    let x : to_z w32 (of_z w32 c.bucket-index.result.0) ≡ c.bucket-index.result.0 = omega (arith, ints) in
    ap (λ i. Some (i, c.bucket-index.result.1)) x
    ∙ takes_lowest (window_of c.args.self.now) c.in_ok-lowest.ensures c.bucket-index.ensures

pub returns-clause-rest : goal.returns-clause-rest
returns-clause-rest c =
    takes_rest (window_of c.args.self.now) c.in_ok-lowest.ensures c.bucket-index.ensures
    (search rules) c.used_from-next.ensures c.starting_at-self.ensures.first c.starting_at-self.ensures.span
