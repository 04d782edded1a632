-- The index of a number is that of its bucket: its units lie above the bound before, and are at most the bound.
use Rattle.std.proofs.Common.{◌≡◌, ℕ, zero, suc, ◌-◌, ◌*◌, ◌^◌, ◌<◌, ◌≤◌, T, ℤ, pos, negsuc, ◌+ℤ◌, ◌-ℤ◌, ◌*ℤ◌, ◌≤ℤ◌, sym, ap, ◌∙◌, subst, ⊎_elim, zero-le, le_trans, le_of_eq, le_refl, lt_of_lt_of_le, lt_of_le_of_lt, le_of_lt, mul-le-mul_right, arith, pow_pos}
use borrow.Author.Differences.{ints}
use lib.Ieee.{Float, binary64, fits}
use Rattle.std.proofs.lemmas.Bool.{cases_lt}
use Rattle.index.specs.Index.{quotient, remainder}
use Rattle.double.specs.Double.{units, fraction, exponent, finite_nonzero}
use Rattle.double.proofs.Fraction.{split_normal}
use Rattle.schema.specs.Tables.{table, entry, TableRules}
use Rattle.schema.specs.Bounds.{is_schema, scaled, cut, entries_below, table_index, finite_index}
use Rattle.schema.proofs.Rules.{table_rules}
use Rattle.schema.proofs.Divide.{divided, remainder_lt, next_multiple}
use Rattle.schema.proofs.Scaled.{Exactly, exactly_within, exactly_above, exactly_shift, exactly_unshift}
use Rattle.schema.proofs.Counting.{Parted, parted_entries}
use Rattle.schema.proofs.Cuts.{cut_at, cut_octave, cut_wide, fine_rises, schema_fine, climb}

-- u units lie in bucket i
pub record Lies (s : ℤ) (u : ℕ) (i : ℤ) : Type 0 where
  pub above : cut s (i -ℤ pos 1) < u
  pub within : u ≤ cut s i

-- ---- schemas from 0 up

back_one : (e : ℤ) → e -ℤ pos 1 +ℤ pos 1 ≡ e
back_one e = omega (arith, ints)

again : (e : ℤ) → e -ℤ pos 1 +ℤ pos 1 +ℤ pos 1021 ≡ e +ℤ pos 1021
again e = omega (arith, ints)

module _ (a : ℕ) (h : a ≤ 8) (e : ℤ) (u n : ℕ) (x : Exactly u n (e +ℤ pos 1021)) (low : 2 ^ 52 ≤ n) (high : n < 2 ^ 53) where
  entry_above : (j : ℕ) → j < 2 ^ a → entry a j < n → cut (pos a) ((e -ℤ pos 1) *ℤ pos (2 ^ a) +ℤ pos j) < u
  entry_above j l g = lt_of_le_of_lt (le_of_eq (cut_at a (e -ℤ pos 1) j l ∙ ap (scaled (entry a j)) (again e))) (exactly_above u n (entry a j) (e +ℤ pos 1021) x g)

  entry_within : (j : ℕ) → j < 2 ^ a → n ≤ entry a j → u ≤ cut (pos a) ((e -ℤ pos 1) *ℤ pos (2 ^ a) +ℤ pos j)
  entry_within j l g = le_trans (exactly_within u n (entry a j) (e +ℤ pos 1021) x g) (le_of_eq (sym (cut_at a (e -ℤ pos 1) j l ∙ ap (scaled (entry a j)) (again e))))

  -- above every entry: in the bucket that ends at the next power of two
  octave_within : (j : ℕ) → 2 ^ a ≤ j → j ≤ 2 ^ a → u ≤ cut (pos a) ((e -ℤ pos 1) *ℤ pos (2 ^ a) +ℤ pos j)
  octave_within j l g =
      le_trans (exactly_within u n (2 ^ 53) (e +ℤ pos 1021) x (le_of_lt high)) (le_of_eq (sym (ap (cut (pos a)) (whole e (2 ^ a) j l g) ∙ cut_octave a e h)))
    where
      whole : (e : ℤ) (d j : ℕ) → d ≤ j → j ≤ d → (e -ℤ pos 1) *ℤ pos d +ℤ pos j ≡ e *ℤ pos d
      whole e d j l g = omega (arith, ints, next_multiple (e -ℤ pos 1) d, ap (λ (k : ℤ). k *ℤ pos d) (back_one e))

  -- at the first entry: above the last one of the octave before
  octave_above : cut (pos a) ((e -ℤ pos 1) *ℤ pos (2 ^ a) -ℤ pos 1) < u
  octave_above =
      lt_of_le_of_lt (le_of_eq (ap (cut (pos a)) (before e (2 ^ a) (pow_pos a)) ∙ cut_at a (e -ℤ pos 2) (2 ^ a - 1) (last (2 ^ a) (pow_pos a)) ∙ ap (scaled (entry a (2 ^ a - 1))) (turned e)))
      (exactly_above u (n * 2 ^ 1) (entry a (2 ^ a - 1)) (e +ℤ pos 1020) (exactly_shift u n (e +ℤ pos 1020) 1 (subst (Exactly u n) (up_one e) x)) (lt_of_lt_of_le ((table_rules a h).below_one (2 ^ a - 1) (last (2 ^ a) (pow_pos a))) (mul-le-mul_right 2 low)))
    where
      last : (d : ℕ) → 0 < d → d - 1 < d
      last d g = omega arith

      up_one : (e : ℤ) → e +ℤ pos 1021 ≡ e +ℤ pos 1020 +ℤ pos 1
      up_one e = omega (arith, ints)

      turned : (e : ℤ) → e -ℤ pos 2 +ℤ pos 1 +ℤ pos 1021 ≡ e +ℤ pos 1020
      turned e = omega (arith, ints)

      before : (e : ℤ) (d : ℕ) → 0 < d → (e -ℤ pos 1) *ℤ pos d -ℤ pos 1 ≡ (e -ℤ pos 2) *ℤ pos d +ℤ pos (d - 1)
      before e d g = omega (arith, ints, next_multiple (e -ℤ pos 2) d, ap (λ (k : ℤ). k *ℤ pos d) (back e))
        where
          back : (e : ℤ) → e -ℤ pos 2 +ℤ pos 1 ≡ e -ℤ pos 1
          back e = omega (arith, ints)

  place_lies : (j : ℕ) → Parted n (table a) j → Lies (pos a) u ((e -ℤ pos 1) *ℤ pos (2 ^ a) +ℤ pos j)
  place_lies j p = record { above = above j p; within = within }
    where
      r : TableRules a
      r = table_rules a h

      within : u ≤ cut (pos a) ((e -ℤ pos 1) *ℤ pos (2 ^ a) +ℤ pos j)
      within =
          ⊎_elim (λ l. entry_within j l (p.after j (le_refl j) (lt_of_lt_of_le l (le_of_eq (sym r.long)))))
          (λ l. octave_within j l (le_trans p.within (le_of_eq r.long))) (cases_lt j (2 ^ a))

      above : (j : ℕ) → Parted n (table a) j → cut (pos a) ((e -ℤ pos 1) *ℤ pos (2 ^ a) +ℤ pos j -ℤ pos 1) < u
      above zero q = subst (λ (i : ℤ). cut (pos a) i < u) (same (e -ℤ pos 1) (2 ^ a)) octave_above
        where
          same : (k : ℤ) (d : ℕ) → k *ℤ pos d -ℤ pos 1 ≡ k *ℤ pos d +ℤ pos 0 -ℤ pos 1
          same k d = omega (arith, ints)
      above (suc k) q = subst (λ (i : ℤ). cut (pos a) i < u) (same (e -ℤ pos 1) (2 ^ a) k) (entry_above k (lt_of_lt_of_le q.within (le_of_eq r.long)) (q.before k (le_refl (suc k))))
        where
          same : (z : ℤ) (d k : ℕ) → z *ℤ pos d +ℤ pos k ≡ z *ℤ pos d +ℤ pos (suc k) -ℤ pos 1
          same z d k = omega (arith, ints)

fine_lies : (a : ℕ) (v : Float) → a ≤ 8 → T (fits binary64 v) → T (finite_nonzero v) → Lies (pos a) (units v) (table_index a v)
fine_lies a v h f g =
    let t = split_normal v f g in
    place_lies a h (exponent v) (units v) t.n (exactly_unshift (units v) t.n (exponent v) 1021 t.exact) t.normal.low t.normal.high
    (entries_below (fraction v) (table a)) (parted_entries a (fraction v) t.n h t.normal)

-- ---- schemas below 0

wide_lies : (b : ℕ) (u : ℕ) (i : ℤ) → Lies (pos 0) u i → Lies (negsuc b) u (quotient (2 ^ suc b) (i +ℤ pos (2 ^ suc b - 1)))
wide_lies b u i l = record {
  above = lt_of_le_of_lt (le_trans (le_of_eq (cut_wide b (k -ℤ pos 1))) (climb (cut (pos 0)) (λ x. fine_rises 0 x zero-le) ((k -ℤ pos 1) *ℤ pos (2 ^ suc b)) (i -ℤ pos 1) below)) l.above;
  within = le_trans l.within (le_trans (climb (cut (pos 0)) (λ x. fine_rises 0 x zero-le) i (k *ℤ pos (2 ^ suc b)) over) (le_of_eq (sym (cut_wide b k))));
}
  where
    k : ℤ
    k = quotient (2 ^ suc b) (i +ℤ pos (2 ^ suc b - 1))

    reach : (i j : ℤ) (d r : ℕ) → 0 < d → r < d → i +ℤ pos (d - 1) ≡ j *ℤ pos d +ℤ pos r → (i ≤ℤ (j *ℤ pos d)) × (((j -ℤ pos 1) *ℤ pos d) ≤ℤ (i -ℤ pos 1))
    reach i j d r p q e = (omega (arith, ints), omega (arith, ints, next_multiple (j -ℤ pos 1) d, ap (λ (z : ℤ). z *ℤ pos d) (back_one j)))

    reached : (i ≤ℤ (k *ℤ pos (2 ^ suc b))) × (((k -ℤ pos 1) *ℤ pos (2 ^ suc b)) ≤ℤ (i -ℤ pos 1))
    reached = reach i k (2 ^ suc b) (remainder (2 ^ suc b) (i +ℤ pos (2 ^ suc b - 1))) (pow_pos (suc b)) (remainder_lt (2 ^ suc b) (i +ℤ pos (2 ^ suc b - 1)) (pow_pos (suc b))) (divided (2 ^ suc b) (i +ℤ pos (2 ^ suc b - 1)) (pow_pos (suc b)))

    over : i ≤ℤ (k *ℤ pos (2 ^ suc b))
    over = reached.0

    below : ((k -ℤ pos 1) *ℤ pos (2 ^ suc b)) ≤ℤ (i -ℤ pos 1)
    below = reached.1

pub finite_lies : (s : ℤ) (v : Float) → T (is_schema s) → T (fits binary64 v) → T (finite_nonzero v) → Lies s (units v) (finite_index s v)
finite_lies (pos a) v h f g = fine_lies a v (schema_fine a h) f g
finite_lies (negsuc b) v h f g = wide_lies b (units v) (table_index 0 v) (fine_lies 0 v zero-le f g)
