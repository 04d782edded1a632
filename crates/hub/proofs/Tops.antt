-- The highest listed index is that of the last pair.
use Rattle.std.proofs.Common.{◌≡◌, ℕ, ◌-◌, T, [], ◌∷◌, length, ℤ, Some, None, Option, MatchOption, refl, ap, ◌∙◌, subst, ⊎_elim, arith}
use Rattle.std.proofs.lemmas.Bool.{or_cases, or_right, false≢true}
use Rattle.std.proofs.lemmas.Int.{ints}
use Rattle.store.specs.Pairs.{Pairs, rising, listed, same, pair_at}
use Rattle.store.proofs.Bounds.{rising_tail, rising_above}
use Rattle.store.proofs.Order.{T_true, true_T, same_true}
use Rattle.store.proofs.Parts.{pair_at_in, listed_at}
use Rattle.hub.specs.Filing.{Highest}

first_listed : (p : ℤ × ℕ) (ps : Pairs) → T (listed p.0 (p ∷ ps))
first_listed p ps = true_T _ (listed_at (p ∷ ps) 0 p (omega arith))

lone_highest : (p : ℤ × ℕ) → Highest p.0 (p ∷ [])
lone_highest p = record {
  occupied = first_listed p [];
  above = λ j t. ⊎_elim (λ e. omega (arith, ints, same_true j p.0 e)) (λ e. absurd (false≢true e)) (or_cases (same j p.0) _ (T_true _ t));
}

-- the highest of the later pairs is the highest of all
later_highest : (i : ℤ) (p q : ℤ × ℕ) (qs : Pairs) → T (rising (p ∷ q ∷ qs)) → Highest i (q ∷ qs) → Highest i (p ∷ q ∷ qs)
later_highest i p q qs r h = record {
  occupied = true_T _ (or_right (same i p.0) _ (T_true _ h.occupied));
  above = λ j t.
      ⊎_elim
      (λ e. omega (arith, ints, same_true j p.0 e, (rising_above p (q ∷ qs) r).0, h.above q.0 (first_listed q qs)))
      (λ e. h.above j (true_T _ e))
      (or_cases (same j p.0) _ (T_true _ t));
}

last_highest : (p : ℤ × ℕ) (ps : Pairs) (x : ℤ × ℕ) → T (rising (p ∷ ps)) → Some x ≡ pair_at (p ∷ ps) (length ps) → Highest x.0 (p ∷ ps)
last_highest p [] x r e = let same : p ≡ x = cc in subst (λ y. Highest y.0 (p ∷ [])) same (lone_highest p)
last_highest p (q ∷ qs) x r e = later_highest x.0 p q qs r (last_highest q qs x (rising_tail p (q ∷ qs) r) e)

-- only of no pairs there is no last one
pub last_missing : (ps : Pairs) → None ≡ pair_at ps (length ps - 1) → ps ≡ []
last_missing [] e = refl
last_missing (p ∷ ps) e =
    let there = pair_at_in (p ∷ ps) (length ps) p (omega arith) in
    let place : pair_at (p ∷ ps) (length (p ∷ ps) - 1) ≡ pair_at (p ∷ ps) (length ps) = ap (pair_at (p ∷ ps)) (omega arith) in
    absurd (cc)

pub last_pair : (ps : Pairs) (o : Option (ℤ × ℕ)) → T (rising ps) → o ≡ pair_at ps (length ps - 1) → MatchOption o (ps ≡ []) (λ x. Highest x.0 ps)
last_pair ps None r e = last_missing ps e
last_pair [] (Some x) r e = absurd (cc)
last_pair (p ∷ ps) (Some x) r e = last_highest p ps x r (e ∙ ap (pair_at (p ∷ ps)) (omega arith))
