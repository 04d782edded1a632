use Rattle.std.proofs.Common.{◌≡◌, ◌<◌, arith, rules, subst}
use borrow.Author.Tests.{tests}
use Rattle.std.proofs.lemmas.Iterator.{first_from_Range}
use Rattle.std.specs.Option.{unwrap_or}
use Rattle.run.specs.Window.{counter, Next}
use Rattle.run.proofs.Chain.{next_from_find}
use Rattle.run.proofs.Run.used_from.Goals as goal

pub returns : goal.returns
returns c =
    let count = counter c.args.self.now.counters in
    rw c.unwrap_or.ensures
    (subst (λ e. Next count c.args.from e (unwrap_or c.find.result c.end-end.result)) c.end-end.ensures
    (next_from_find count c.args.from c.end-end.result c.find.result (omega arith)
    (first_from_Range _ _ _ _ (λ k. 0 < count k) (λ k. count k ≡ 0) c.find.ensures.ran (λ x q k. search (rules, tests)) (λ x q k. search (rules, tests)))))
