-- The counts tell the list.
use Rattle.std.proofs.Common.{◌≡◌, ℕ, T, [], ◌∷◌, ℤ, ◌<ℤ◌, sym, refl, inl, inr, arith}
use Rattle.std.proofs.lemmas.Int.{ints}
use Rattle.store.specs.Pairs.{Pairs, rising, counted, count_at}
use Rattle.store.specs.Laws.{CountsTell}
use Rattle.store.proofs.Order.{cases_index, same_true}
use Rattle.store.proofs.Bounds.{Above, above_less, rising_tail, rising_above, counted_first, counted_tail, uncounted_above, count_first}

-- a count of at least 1 below every index of the other list
lower_first : (p : ℤ × ℕ) (ps qs : Pairs) → Above p.0 qs → T (counted (p ∷ ps)) → count_at p.0 (p ∷ ps) ≡ count_at p.0 qs → ⊥
lower_first p ps qs a c e = omega (arith, e, count_first p ps, uncounted_above p.0 qs a, counted_first p ps c)

above_list : (p q : ℤ × ℕ) (qs : Pairs) → p.0 <ℤ q.0 → T (rising (q ∷ qs)) → Above p.0 (q ∷ qs)
above_list p q qs h r = (h, above_less p.0 q.0 qs (omega (arith, ints)) (rising_above q qs r))

-- equal counts of the lists, then of their tails
tail_counts : (p q : ℤ × ℕ) (ps qs : Pairs) → p.0 ≡ q.0 → Above p.0 ps → Above q.0 qs → ((i : ℤ) → count_at i (p ∷ ps) ≡ count_at i (q ∷ qs)) → (i : ℤ) → count_at i ps ≡ count_at i qs
tail_counts p q ps qs e a b h i =
    grind (arith, ints, same_true, h i, uncounted_above i ps, above_less i p.0 ps, uncounted_above i qs, above_less i q.0 qs)

pub counts_tell : CountsTell
counts_tell [] [] r s c d h = refl
counts_tell [] (q ∷ qs) r s c d h = absurd (lower_first q qs [] tt d (sym (h q.0)))
counts_tell (p ∷ ps) [] r s c d h = absurd (lower_first p ps [] tt c (h p.0))
counts_tell (p ∷ ps) (q ∷ qs) r s c d h =
    elim (cases_index p.0 q.0) [
      | inl l ↦ absurd (lower_first p ps (q ∷ qs) (above_list p q qs l s) c (h p.0))
      | inr (inl e) ↦
          let t = counts_tell ps qs (rising_tail p ps r) (rising_tail q qs s) (counted_tail p ps c) (counted_tail q qs d) (tail_counts p q ps qs e (rising_above p ps r) (rising_above q qs s) h) in
          grind (arith, count_first p ps, count_first q qs, h p.0)
      | inr (inr l) ↦ absurd (lower_first q qs (p ∷ ps) (above_list q p ps l r) d (sym (h q.0)))
    ]
