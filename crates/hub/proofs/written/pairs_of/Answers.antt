use Rattle.std.proofs.Common.{◌≡◌, ℕ, ◌+◌, ◌<◌, [], ◌∷◌, ◌++◌, length, get_or, take, ℤ, pos, is_some, Some, None, vec_items, Option, unwrap_or, sym, ap, ◌∙◌, arith}
use borrow.Author.Tests.{clash}
use Rattle.std.proofs.lemmas.List.{take_all, take_more}
use Rattle.store.specs.Pairs.{Pairs, pair_at}
use Rattle.store.proofs.Parts.{pair_at_in}
use Rattle.hub.proofs.written.pairs_of.Goals as goal
use Rattle.hub.proofs.written.pairs_of.Goals.{in-Some+in_ok-push, in_default}

-- the pair at position k comes after the k pairs before it
one_further : (ps qs : Pairs) (k : ℕ) (p : ℤ × ℕ) → k < length ps → qs ≡ take k ps → Some p ≡ pair_at ps k → qs ++ p ∷ [] ≡ take (k + 1) ps
one_further ps qs k p h e a =
    let same : p ≡ get_or ps k (pos 0, 0) = ap (λ (o : Option (ℤ × ℕ)). unwrap_or o (pos 0, 0)) (a ∙ pair_at_in ps k (pos 0, 0) h) in
    ap (λ xs. xs ++ p ∷ []) e ∙ ap (λ x. take k ps ++ x ∷ []) same ∙ sym (take_more ps k (pos 0, 0) h)

none_missing : (ps : Pairs) (k : ℕ) → k < length ps → None ≡ pair_at ps k → ⊥
none_missing ps k h a = clash (ap is_some (a ∙ pair_at_in ps k (pos 0, 0) h))

pub loop-position-preserved : goal.loop-position-preserved
loop-position-preserved g c =
    let ps = g.S.BucketStore.pairs c.args.store.now in
    let k = c.loop-position.position in
    let h : k < length ps = omega (arith, c.loop-position-test.true, c.size-position-end.ensures) in
    elim c.match-pair.branch [
      | in-Some+in_ok-push w ↦
          ap vec_items w.pairs-is ∙ w.in_ok-push.ensures.items
          ∙ one_further ps (vec_items c.loop-position.pairs) k w.in-Some.pair h c.loop-position.invariant w.in-Some.ensures
      | in_default w ↦ absurd (none_missing ps k h w.in_default.ensures)
    ]

pub returns : goal.returns
returns g c =
    c.loop-position.invariant
    ∙ take_all c.loop-position.position (g.S.BucketStore.pairs c.args.store.now) (omega (arith, c.loop-position-test.false, c.size-position-end.ensures))
