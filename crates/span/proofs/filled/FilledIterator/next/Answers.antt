use Rattle.std.proofs.Common.{◌≡◌, pos, ◌+ℤ◌, sym, ◌∙◌, arith, rules}
use lib.Signed.{◌≤ℤ◌, ◌<ℤ◌}
use Rattle.std.proofs.lemmas.Int.{ints}
use Rattle.store.proofs.Order.{T_true}
use Rattle.span.proofs.Filling.{gap, pair_ranges, pair_within, few_pairs, ahead_none, gap_short, gap_none, gap_long, lists_zero, lists_pair, shorter}
use Rattle.span.proofs.filled.FilledIterator.next.Goals as goal
use Rattle.std.proofs.iter.Next.{firm}

pub returns-in_err-index-clause-steps : goal.returns-in_err-index-clause-steps
returns-in_err-index-clause-steps g c =
    let s = c.self.inside in
    let e = sym c.self.view_is ∙ ahead_none (g.S.BucketStore.pairs s.store.now) s.position s.next (sym c.in_err-index.ensures) in
    rw c.from_residual.ensures (e, e)

pub overflow_sub-gap : goal.overflow_sub-gap
overflow_sub-gap g c =
    let s = c.self.inside in
    let r = pair_ranges (g.S.BucketStore.pairs s.store.now) s.position (g.met.S.BucketStore.in_range s.store.now) c.in_ok-index.ensures in
    omega (arith, ints)

pub invariant_of-self : goal.invariant_of-self
invariant_of-self g c =
    let s = c.self.inside in
    let r = pair_ranges (g.S.BucketStore.pairs s.store.now) s.position (g.met.S.BucketStore.in_range s.store.now) c.in_ok-index.ensures in
    record { low = omega (arith, ints); high = omega (arith, ints) }

pub returns-then-gap-le-SHORT_GAP-clause-steps : goal.returns-then-gap-le-SHORT_GAP-clause-steps
returns-then-gap-le-SHORT_GAP-clause-steps g c =
    let s = c.self.inside in
    let ps = g.S.BucketStore.pairs s.store.now in
    let at = sym c.in_ok-index.ensures in
    let r = pair_ranges ps s.position (g.met.S.BucketStore.in_range s.store.now) c.in_ok-index.ensures in
    let t : gap c.in_ok-index.index s.next ≤ℤ pos 2 = omega (arith, ints) in
    let short = gap_short c.in_ok-index.index s.next r c.self.invariant.low c.self.invariant.high c.if-gap-gt0.true (T_true _ t.le) in
    sym c.self.view_is ∙ lists_zero ps s.position s.next c.self.invariant.low c.self.invariant.high _ _ r at short

pub returns-then-gap-le-SHORT_GAP-clause-goes : goal.returns-then-gap-le-SHORT_GAP-clause-goes
returns-then-gap-le-SHORT_GAP-clause-goes g c =
    firm ((tt, tt, shorter _ _ _ (returns-then-gap-le-SHORT_GAP-clause-steps g c))) (λ h. search rules)

pub overflow_add-self-2 : goal.overflow_add-self-2
overflow_add-self-2 g c =
    let s = c.self.inside in
    let ps = g.S.BucketStore.pairs s.store.now in
    let n = few_pairs ps (g.met.S.BucketStore.means s.store.now) in
    let w = pair_within ps _ _ (sym c.in_ok-index.ensures) in
    search rules

pub overflow_add-self-3 : goal.overflow_add-self-3
overflow_add-self-3 g c =
    let s = c.self.inside in
    let r = pair_ranges (g.S.BucketStore.pairs s.store.now) s.position (g.met.S.BucketStore.in_range s.store.now) c.in_ok-index.ensures in
    omega (arith, ints)

pub invariant_of-self-2 : goal.invariant_of-self-2
invariant_of-self-2 g c =
    let s = c.self.inside in
    let r = pair_ranges (g.S.BucketStore.pairs s.store.now) s.position (g.met.S.BucketStore.in_range s.store.now) c.in_ok-index.ensures in
    record { low = omega (arith, ints); high = omega (arith, ints) }

pub returns-clause-steps : goal.returns-clause-steps
returns-clause-steps g c =
    let s = c.self.inside in
    let ps = g.S.BucketStore.pairs s.store.now in
    let at = sym c.in_ok-index.ensures in
    let low = c.self.invariant.low in
    let high = c.self.invariant.high in
    let r = pair_ranges ps s.position (g.met.S.BucketStore.in_range s.store.now) c.in_ok-index.ensures in
    let i = c.in_ok-index.index in
    let apart : (i ≡ s.next +ℤ pos 1 → ⊥) × (i ≡ s.next +ℤ pos 2 → ⊥) =
    elim c.else-gap-gt0.branch [
      | goal.else-gap-gt0-via-then-gap-gt0+else-gap-le-SHORT_GAP w ↦ gap_long i s.next r low high (let t : pos 2 <ℤ gap i s.next = omega (arith, ints) in t)
      | goal.else-gap-gt0-via-else-gap-gt0 w ↦ gap_none i s.next r low high w.if-gap-gt0.false
    ] in
    sym c.self.view_is ∙ lists_pair ps s.position s.next low high i c.in_ok-index.count r at apart

pub returns-clause-goes : goal.returns-clause-goes
returns-clause-goes g c = firm ((tt, tt, shorter _ _ _ (returns-clause-steps g c))) (λ h. search rules)
