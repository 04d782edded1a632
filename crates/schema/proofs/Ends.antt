-- What is computed at each of the thirteen schemas: the ends of the range of indices.
use Rattle.std.proofs.Common.{◌≡◌, ℕ, zero, suc, ◌^◌, ◌<◌, ◌≤◌, Bool, ◌&&◌, T, eqb, ltb, leb, ℤ, pos, negsuc, ◌+ℤ◌, ◌-ℤ◌, sym, subst, inl, inr, arith, eqb→eq, ltb→lt, leb→le}
use native.Mathlib.Nat.{le-suc_iff}
use borrow.Author.Differences.{ints}
use lib.Signed.{le_z}
use lib.Ieee.{size, lt, of_bits}
use Rattle.index.specs.Index.{in_index_range}
use Rattle.schema.specs.Tables.{tables}
use Rattle.schema.specs.Bounds.{is_schema, cut, finite_index, max_double, min_double, lowest_index, highest_index}
use lib.Ieee.Fits.{and_l, and_r}

-- ---- a test of every schema

all_to : (ℕ → Bool) → ℕ → Bool
all_to f zero = f zero
all_to f (suc n) = f (suc n) && all_to f n

all_at : (f : ℕ → Bool) (n : ℕ) → T (all_to f n) → (k : ℕ) → k ≤ n → T (f k)
unfolding all_to
all_at f zero h k l = subst (λ (j : ℕ). T (f j)) (none k l) h
  where
    none : (k : ℕ) → k ≤ 0 → 0 ≡ k
    none k l = omega arith
all_at f (suc n) h k l = elim (le-suc_iff.0 l) [ inl g ↦ all_at f n (and_r (f (suc n)) (all_to f n) h) k g | inr e ↦ subst (λ (j : ℕ). T (f j)) (sym e) (and_l (f (suc n)) (all_to f n) h) ]

every_schema : (f : ℤ → Bool) → Bool
every_schema f = all_to (λ a. f (pos a)) 8 && all_to (λ b. f (negsuc b)) 3

at_schema : (f : ℤ → Bool) → T (every_schema f) → (s : ℤ) → T (is_schema s) → T (f s)
unfolding every_schema
at_schema f h (pos a) k = all_at (λ a. f (pos a)) 8 (and_l (all_to (λ a. f (pos a)) 8) (all_to (λ b. f (negsuc b)) 3) h) a (leb→le a 8 (and_r (le_z (negsuc 3) (pos a)) (le_z (pos a) (pos 8)) k))
at_schema f h (negsuc b) k = all_at (λ b. f (negsuc b)) 3 (and_r (all_to (λ a. f (pos a)) 8) (all_to (λ b. f (negsuc b)) 3) h) b (leb→le b 3 (and_l (le_z (negsuc 3) (negsuc b)) (le_z (negsuc b) (pos 8)) k))

-- ---- the ends

same : ℤ → ℤ → Bool
same i j = le_z i j && le_z j i

same_is : (i j : ℤ) → T (same i j) → i ≡ j
unfolding same
same_is i j h =
    grind (arith, ints)

pub record Ends (s : ℤ) : Type 0 where
  pub top : finite_index s max_double +ℤ pos 1 ≡ highest_index s
  pub bottom : finite_index s min_double ≡ lowest_index s
  pub under_top : cut s (highest_index s -ℤ pos 1) ≤ 2 ^ 2098
  pub over_top : 2 ^ 2098 < cut s (highest_index s)
  pub under_bottom : cut s (lowest_index s -ℤ pos 1) ≡ 0
  pub low_range : T (in_index_range (lowest_index s))
  pub high_range : T (in_index_range (highest_index s))

pub schema_ends : (s : ℤ) → T (is_schema s) → Ends s
unfolding every_schema all_to same cut tables size lt of_bits
schema_ends s h = record {
  top = same_is (finite_index s max_double +ℤ pos 1) (highest_index s) (at_schema (λ t. same (finite_index t max_double +ℤ pos 1) (highest_index t)) tt s h);
  bottom = same_is (finite_index s min_double) (lowest_index s) (at_schema (λ t. same (finite_index t min_double) (lowest_index t)) tt s h);
  under_top = leb→le _ _ (at_schema (λ t. leb (cut t (highest_index t -ℤ pos 1)) (2 ^ 2098)) tt s h);
  over_top = ltb→lt _ _ (at_schema (λ t. ltb (2 ^ 2098) (cut t (highest_index t))) tt s h);
  under_bottom = eqb→eq _ _ (at_schema (λ t. eqb (cut t (lowest_index t -ℤ pos 1)) 0) tt s h);
  low_range = at_schema (λ t. in_index_range (lowest_index t)) tt s h;
  high_range = at_schema (λ t. in_index_range (highest_index t)) tt s h;
}
