-- Bounds in whole units: where one stands, that they rise, and that a coarser schema has every other one.
use Rattle.std.proofs.Common.{◌≡◌, ℕ, zero, suc, ◌+◌, ◌*◌, ◌^◌, ◌<◌, ◌≤◌, T, ℤ, pos, negsuc, ◌+ℤ◌, ◌-ℤ◌, ◌*ℤ◌, nat_abs, ◌≤ℤ◌, sym, refl, ap, ◌∙◌, subst, ap₂, ⊎_elim, zero-le, le_trans, le_of_eq, lt_of_lt_of_le, le_of_lt, add-one, arith, pow_pos}
use native.Mathlib.Nat.{pow-succ'}
use borrow.Author.Differences.{ints}
use Rattle.std.proofs.lemmas.Bool.{cases_lt}
use Rattle.index.specs.Index.{quotient, remainder}
use Rattle.schema.specs.Tables.{entry, TableRules}
use Rattle.schema.specs.Bounds.{is_schema, scaled, cut}
use Rattle.schema.proofs.Rules.{schema_range, table_rules}
use Rattle.schema.proofs.Divide.{remainder_lt, quotient_of, remainder_of, divided, next_multiple, twice_multiple, twice_product}
use Rattle.schema.proofs.Scaled.{scaled_shift, scaled_mono}

-- entry j of octave k
pub cut_at : (a : ℕ) (k : ℤ) (j : ℕ) → j < 2 ^ a → cut (pos a) (k *ℤ pos (2 ^ a) +ℤ pos j) ≡ scaled (entry a j) (k +ℤ pos 1 +ℤ pos 1021)
unfolding cut
cut_at a k j h = ap₂ (λ (r : ℕ) (q : ℤ). scaled (entry a r) (q +ℤ pos 1 +ℤ pos 1021)) (remainder_of (2 ^ a) k j h) (quotient_of (2 ^ a) k j h)

cut_power : (b : ℕ) (i : ℤ) → cut (negsuc b) i ≡ scaled (2 ^ 53) (i *ℤ pos (2 ^ suc b) +ℤ pos 1021)
unfolding cut
cut_power b i = refl

-- the first entry of an octave
pub cut_octave : (a : ℕ) (k : ℤ) → a ≤ 8 → cut (pos a) (k *ℤ pos (2 ^ a)) ≡ scaled (2 ^ 53) (k +ℤ pos 1021)
cut_octave a k h =
    ap (cut (pos a)) (omega (arith, ints)) ∙ cut_at a k 0 (pow_pos a)
    ∙ ap₂ scaled (table_rules a h).first (turned k)
    ∙ scaled_shift (2 ^ 52) (k +ℤ pos 1021) 1
  where
    turned : (k : ℤ) → k +ℤ pos 1 +ℤ pos 1021 ≡ k +ℤ pos 1021 +ℤ pos 1
    turned k = omega (arith, ints)

-- an index at schema b < 0 is one at schema 0, of which it takes every 2^-b th
pub cut_wide : (b : ℕ) (i : ℤ) → cut (negsuc b) i ≡ cut (pos 0) (i *ℤ pos (2 ^ suc b))
cut_wide b i = cut_power b i ∙ sym (ap (cut (pos 0)) (omega (arith, ints)) ∙ cut_octave 0 (i *ℤ pos (2 ^ suc b)) zero-le)

-- ---- bounds rise

rise_fine : (a : ℕ) (k : ℤ) (j : ℕ) → a ≤ 8 → j < 2 ^ a → cut (pos a) (k *ℤ pos (2 ^ a) +ℤ pos j) ≤ cut (pos a) (k *ℤ pos (2 ^ a) +ℤ pos j +ℤ pos 1)
rise_fine a k j h l = ⊎_elim inside outside (cases_lt (j + 1) (2 ^ a))
  where
    r : TableRules a
    r = table_rules a h

    step : (k : ℤ) (d j : ℕ) → k *ℤ pos d +ℤ pos j +ℤ pos 1 ≡ k *ℤ pos d +ℤ pos (j + 1)
    step k d j = omega (arith, ints)

    inside : j + 1 < 2 ^ a → cut (pos a) (k *ℤ pos (2 ^ a) +ℤ pos j) ≤ cut (pos a) (k *ℤ pos (2 ^ a) +ℤ pos j +ℤ pos 1)
    inside g =
        le_trans (le_of_eq (cut_at a k j l))
        (le_trans (scaled_mono (entry a j) (entry a (j + 1)) (k +ℤ pos 1 +ℤ pos 1021) (le_of_lt (r.rises j g)))
        (le_of_eq (sym (ap (cut (pos a)) (step k (2 ^ a) j) ∙ cut_at a k (j + 1) g))))

    wrap : (k : ℤ) (d j : ℕ) → j < d → d ≤ j + 1 → k *ℤ pos d +ℤ pos j +ℤ pos 1 ≡ (k +ℤ pos 1) *ℤ pos d
    wrap k d j p q = omega (arith, ints, next_multiple k d)

    outside : 2 ^ a ≤ j + 1 → cut (pos a) (k *ℤ pos (2 ^ a) +ℤ pos j) ≤ cut (pos a) (k *ℤ pos (2 ^ a) +ℤ pos j +ℤ pos 1)
    outside g =
        le_trans (le_of_eq (cut_at a k j l))
        (le_trans (scaled_mono (entry a j) (2 ^ 53) (k +ℤ pos 1 +ℤ pos 1021) (le_of_lt (r.below_one j l)))
        (le_of_eq (sym (ap (cut (pos a)) (wrap k (2 ^ a) j l g) ∙ cut_octave a (k +ℤ pos 1) h))))

pub fine_rises : (a : ℕ) (i : ℤ) → a ≤ 8 → cut (pos a) i ≤ cut (pos a) (i +ℤ pos 1)
fine_rises a i h =
    subst (λ (x : ℤ). cut (pos a) x ≤ cut (pos a) (x +ℤ pos 1)) (sym (divided (2 ^ a) i (pow_pos a))) (rise_fine a (quotient (2 ^ a) i) (remainder (2 ^ a) i) h (remainder_lt (2 ^ a) i (pow_pos a)))

-- from a step to any distance
climbs : (f : ℤ → ℕ) → ((i : ℤ) → f i ≤ f (i +ℤ pos 1)) → (n : ℕ) (i : ℤ) → f i ≤ f (i +ℤ pos n)
climbs f h zero i = le_of_eq (ap f (omega (arith, ints)))
climbs f h (suc n) i = le_trans (climbs f h n i) (le_trans (h (i +ℤ pos n)) (le_of_eq (ap f (omega (arith, ints)))))

distance : (i j : ℤ) → i ≤ℤ j → (n : ℕ) × (j ≡ i +ℤ pos n)
distance i j h = (nat_abs (j -ℤ i), omega (arith, ints))

pub climb : (f : ℤ → ℕ) → ((i : ℤ) → f i ≤ f (i +ℤ pos 1)) → (i j : ℤ) → i ≤ℤ j → f i ≤ f j
climb f h i j l = let d = distance i j l in le_trans (climbs f h d.0 i) (le_of_eq (ap f (sym d.1)))

pub schema_fine : (a : ℕ) → T (is_schema (pos a)) → a ≤ 8
schema_fine a h = let r = schema_range (pos a) h in omega (arith, ints)

pub rises : (s i : ℤ) → T (is_schema s) → cut s i ≤ cut s (i +ℤ pos 1)
rises (pos a) i h = fine_rises a i (schema_fine a h)
rises (negsuc b) i h =
    le_trans (le_of_eq (cut_wide b i)) (le_trans (climb (cut (pos 0)) (λ x. fine_rises 0 x zero-le) (i *ℤ pos (2 ^ suc b)) ((i +ℤ pos 1) *ℤ pos (2 ^ suc b)) (omega (arith, ints, next_multiple i (2 ^ suc b)))) (le_of_eq (sym (cut_wide b (i +ℤ pos 1)))))

pub cut_mono : (s i j : ℤ) → T (is_schema s) → i ≤ℤ j → cut s i ≤ cut s j
cut_mono s i j h l = climb (cut s) (λ x. rises s x h) i j l

-- ---- a coarser schema has every other bound

twice_in : (a : ℕ) (i : ℤ) → i +ℤ i ≡ quotient (2 ^ a) i *ℤ pos (2 ^ suc a) +ℤ pos (2 * remainder (2 ^ a) i)
twice_in a i =
    ap₂ ◌+ℤ◌ (divided (2 ^ a) i (pow_pos a)) (divided (2 ^ a) i (pow_pos a))
    ∙ paired (quotient (2 ^ a) i) (2 ^ a) (remainder (2 ^ a) i)
    ∙ ap (λ (d : ℕ). quotient (2 ^ a) i *ℤ pos d +ℤ pos (2 * remainder (2 ^ a) i)) (sym (pow-succ' 2 a))
  where
    paired : (k : ℤ) (d r : ℕ) → k *ℤ pos d +ℤ pos r +ℤ (k *ℤ pos d +ℤ pos r) ≡ k *ℤ pos (2 * d) +ℤ pos (2 * r)
    paired k d r = omega (arith, ints, twice_product k d)

pub nested_fine : (a : ℕ) (i : ℤ) → a < 8 → cut (pos a) i ≡ cut (pos (suc a)) (i +ℤ i)
nested_fine a i h =
    ap (cut (pos a)) (divided (2 ^ a) i (pow_pos a)) ∙ cut_at a q r (remainder_lt (2 ^ a) i (pow_pos a))
    ∙ ap (λ (n : ℕ). scaled n (q +ℤ pos 1 +ℤ pos 1021)) (sym (ap (λ (b : ℕ). entry b (2 * r)) (sym (add-one a)) ∙ (table_rules a (le_of_lt h)).nested h r (remainder_lt (2 ^ a) i (pow_pos a))))
    ∙ sym (ap (cut (pos (suc a))) (twice_in a i) ∙ cut_at (suc a) q (2 * r) (lt_of_lt_of_le (fewer r (2 ^ a) (remainder_lt (2 ^ a) i (pow_pos a))) (le_of_eq (sym (pow-succ' 2 a)))))
  where
    q : ℤ
    q = quotient (2 ^ a) i

    r : ℕ
    r = remainder (2 ^ a) i

    fewer : (r d : ℕ) → r < d → 2 * r < 2 * d
    fewer r d h = omega arith

pub nested : (s i : ℤ) → T (is_schema s) → T (is_schema (s -ℤ pos 1)) → cut (s -ℤ pos 1) i ≡ cut s (i +ℤ i)
nested (pos zero) i h g = cut_wide 0 i ∙ ap (cut (pos 0)) (omega (arith, ints))
nested (pos (suc a)) i h g = ap (λ (s : ℤ). cut s i) (down_one a) ∙ nested_fine a i (schema_fine (suc a) h)
  where
    down_one : (a : ℕ) → pos (suc a) -ℤ pos 1 ≡ pos a
    down_one a = omega (arith, ints)
nested (negsuc b) i h g = ap (λ (s : ℤ). cut s i) (down_one b) ∙ cut_wide (suc b) i ∙ ap (cut (pos 0)) (ap (λ (d : ℕ). i *ℤ pos d) (pow-succ' 2 (suc b)) ∙ sym (twice_multiple i (2 ^ suc b))) ∙ sym (cut_wide b (i +ℤ i))
  where
    down_one : (b : ℕ) → negsuc b -ℤ pos 1 ≡ negsuc (suc b)
    down_one b = omega (arith, ints)
