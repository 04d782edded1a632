use Rattle.std.proofs.Common.{refl, arith, rules}
use borrow.Author.Tests.{tests}
use Rattle.std.proofs.lemmas.List.Recursion.{is_sum_by}
use Rattle.std.proofs.lemmas.Iterator.{YieldsList-from_slice, YieldsList-from_map}
use Rattle.std.proofs.lemmas.Iterator.Consumers.{sum_by_from_yields_List}
use Rattle.span.specs.Reading.{lengths}
use Rattle.span.proofs.opening.sum_of_lengths.Goals as goal

pub returns : goal.returns
returns c =
    let e =
    sum_by_from_yields_List (λ s. s.1) c.args.spans.now c.map.result _ c.sum.ensures.ran
    (YieldsList-from_map _ (λ s. s.1) (YieldsList-from_slice c.args.spans.now cc) c.map.ensures.closure (λ x r q k. search (rules, tests))) in
    let f = is_sum_by lengths (λ s. s.1) refl (λ _ _. refl) c.args.spans.now in
    omega arith
