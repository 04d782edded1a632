use Rattle.std.proofs.Common.{◌≡◌, ◌+◌, ◌-◌, ◌^◌, ◌<◌, length, take, drop, set, get_or, ◌++◌, is_some, false, pos, sym, ap, ◌∙◌, arith, w32, SFits, to_z, of_z, rules}
use Rattle.std.proofs.lemmas.Int.{to_z-of_z}
use Rattle.std.proofs.lemmas.List.{drop-set-lt, length-set, set-get_or}
use Rattle.std.proofs.lemmas.Bool.{both_ways}
use Rattle.store.specs.Pairs.{total, joined_last}
use Rattle.store.proofs.Parts.{count_in_total}
use Rattle.row.proofs.Joins.{join_meets, join_apart, beyond}
use Rattle.row.proofs.halving.join_last.Goals as goal
use Rattle.row.proofs.halving.join_last.Goals.{in_default-via-in-None-1, in_default-via-in-Some+else-last-pair}

pub overflow_add-last : goal.overflow_add-last
overflow_add-last c =
    let xs = c.split_at_mut-front.result.0.now in
    let item = c.in-Some.ensures.item in
    let most = count_in_total xs (length xs - 1) c.in-Some.last.now (omega arith) in
    let here = ap (λ q. q.1) item.1 in
    let sum = ap total c.split_at_mut-front.ensures.front in
    let small : c.in-Some.last.now.1 + c.args.pair.1 < 2 ^ 64 = omega arith in
    search rules

pub returns : goal.returns
returns c =
    let xs = c.split_at_mut-front.result.0.now in
    let split = c.split_at_mut-front.ensures in
    let item = c.in-Some.ensures.item in
    let f : SFits w32 c.in-Some.last.now.0 = search rules in
    let g : SFits w32 c.args.pair.0 = search rules in
    let e : c.in-Some.last.now.0 ≡ c.args.pair.0 =
    sym (to_z-of_z w32 _ f) ∙ ap (to_z w32) c.if-last-pair.true ∙ to_z-of_z w32 _ g in
    record {
      within = omega arith;
      joins = join_meets xs _ c.args.used c.args.pair split.front_len c.in-Some.last.now item.3.0 item.1 e ∙ ap (λ ps. joined_last ps c.args.pair) split.front;
      beyond = beyond _ _ _ c.args.used (length-set xs _ _ ∙ split.front_len) (ap (drop 1) split.back);
    }

-- the front part as it was, with another index last
pub returns-2 : goal.returns-2
returns-2 c =
    let xs = c.split_at_mut-front.result.0.now in
    let split = c.split_at_mut-front.ensures in
    let same : c.in_default.front ≡ xs = elim c.in_default.branch [
      | in_default-via-in-None-1 w ↦ w.front-is
      | in_default-via-in-Some+else-last-pair w ↦ w.front-is ∙ ap (set xs (length xs - 1)) (w.in-Some.ensures.item.3.1 (pos 0, 0)) ∙ set-get_or xs (length xs - 1) (pos 0, 0)
    ] in
    let apart : 0 < length xs → (get_or xs (length xs - 1) (pos 0, 0)).0 ≡ c.args.pair.0 → ⊥ = elim c.in_default.branch [
      | in_default-via-in-None-1 w ↦ λ h e. let z : is_some c.last_mut.result ≡ false = cc in let q = c.last_mut.ensures.item.2 h in absurd (both_ways _ z q)
      | in_default-via-in-Some+else-last-pair w ↦ λ h e. w.if-last-pair.false (ap (of_z w32) (ap (λ q. q.0) (w.in-Some.ensures.item.3.1 (pos 0, 0)) ∙ e))
    ] in
    record {
      within = omega arith;
      joins = ap (λ ps. take (c.args.used + 1) (ps ++ set c.split_at_mut-front.result.1.now 0 c.args.pair)) same ∙ join_apart xs _ c.args.used c.args.pair split.front_len (pos 0, 0) (omega arith) apart ∙ ap (λ ps. joined_last ps c.args.pair) split.front;
      beyond = beyond _ _ _ c.args.used (ap length same ∙ split.front_len) (drop-set-lt 1 c.split_at_mut-front.result.1.now 0 c.args.pair (omega arith) ∙ ap (drop 1) split.back);
    }
