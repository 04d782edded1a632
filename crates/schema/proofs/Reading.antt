-- What the program reads of a table and of an index, as the definitions have it.
use Rattle.std.proofs.Common.{◌≡◌, ℕ, zero, suc, ◌+◌, ◌-◌, ◌*◌, ◌^◌, ◌<◌, ◌≤◌, not, T, List, get_or, ℤ, pos, negsuc, ◌+ℤ◌, ◌*ℤ◌, neg_ℤ, nat_abs, ◌≤ℤ◌, sym, refl, ap, ◌∙◌, subst, le_of_eq, lt_of_lt_of_le, div-le_self, arith, pow_mono}
use borrow.Author.Differences.{ints}
use lib.Ieee.{Float, nan, binary64, is_nan, to_bits, of_bits}
use lib.Ieee.Bits.{to_bits-of_bits}
use Rattle.std.specs.Int.{int_div_euclid, int_rem_euclid}
use Rattle.index.specs.Index.{quotient, remainder}
use Rattle.double.proofs.Fraction.{normal_bits}
use Rattle.schema.specs.Tables.{table, entry, entry_double, doubles}
use Rattle.schema.specs.Bounds.{scaled, cut, table_index, finite_index, min_double, max_double}
use Rattle.schema.proofs.Rules.{table_rules}
use Rattle.schema.proofs.Counting.{full_table}
use Rattle.schema.proofs.Scaled.{scaled_shift}
use Rattle.schema.proofs.Search.{get_or_doubles}

-- ---- an entry

pub record Read (f : Float) (n : ℕ) : Type 0 where
  pub number : T (not (is_nan f))
  pub bits : to_bits binary64 f ≡ 1021 * 2 ^ 52 + n
  pub low : 2 ^ 52 ≤ n
  pub high : n < 2 ^ 53

read_double : (n : ℕ) → 2 ^ 52 ≤ n → n < 2 ^ 53 → Read (entry_double n) n
read_double n l h =
    let k = (normal_bits n l h).number.1 in
    record { number = k; bits = to_bits-of_bits binary64 (1021 * 2 ^ 52 + n) (omega arith) k; low = l; high = h }

pub entry_full : (a k : ℕ) → a ≤ 8 → k < 2 ^ a → (2 ^ 52 ≤ entry a k) × (entry a k < 2 ^ 53)
entry_full a k h g = full_table a h k (lt_of_lt_of_le g (le_of_eq (sym (table_rules a h).long)))

pub read_entry : (a k : ℕ) (bs : List Float) → a ≤ 8 → bs ≡ doubles (table a) → k < 2 ^ a → Read (get_or bs k nan) (entry a k)
read_entry a k bs h e g =
    subst (λ (f : Float). Read f (entry a k)) (sym (ap (λ (xs : List Float). get_or xs k nan) e ∙ get_or_doubles (table a) k nan (lt_of_lt_of_le g (le_of_eq (sym (table_rules a h).long)))))
    (read_double (entry a k) (entry_full a k h g).0 (entry_full a k h g).1)

-- ---- an index, divided

pub quotient_is : (i : ℤ) (d : ℕ) → int_div_euclid i (pos d) ≡ quotient d i
quotient_is (pos n) d = refl
quotient_is (negsuc n) d = refl

-- the remainder that is never negative, as a natural number
pub remainder_is : (i : ℤ) (d : ℕ) → nat_abs (int_rem_euclid i (pos d)) ≡ remainder d i
remainder_is (pos n) d = refl
remainder_is (negsuc n) d = refl

-- the quotient stays within the bounds of what is divided
pub quotient_range : (d : ℕ) (z : ℤ) → negsuc 275199 ≤ℤ z → z ≤ℤ pos 262159 → (negsuc 275199 ≤ℤ quotient d z) × (quotient d z ≤ℤ pos 262159)
quotient_range d (pos n) l h = (omega (arith, ints), omega (arith, ints, div-le_self n d))
quotient_range d (negsuc n) l h = (omega (arith, ints, div-le_self n d), omega (arith, ints))

pub cut_table : (a : ℕ) (i : ℤ) → cut (pos a) i ≡ scaled (entry a (remainder (2 ^ a) i)) (quotient (2 ^ a) i +ℤ pos 1 +ℤ pos 1021)
unfolding cut
cut_table a i = refl

pub cut_powers : (n : ℕ) (i : ℤ) → 1 ≤ n → cut (neg_ℤ (pos n)) i ≡ scaled (2 ^ 52) (i *ℤ pos (2 ^ n) +ℤ pos 1 +ℤ pos 1021)
unfolding cut
cut_powers zero i h = absurd (omega arith)
cut_powers (suc b) i h = sym (ap (scaled (2 ^ 52)) (turned (i *ℤ pos (2 ^ suc b))) ∙ scaled_shift (2 ^ 52) (i *ℤ pos (2 ^ suc b) +ℤ pos 1021) 1)
  where
    turned : (z : ℤ) → z +ℤ pos 1 +ℤ pos 1021 ≡ z +ℤ pos 1021 +ℤ pos 1
    turned z = omega (arith, ints)

pub few_octaves : (n : ℕ) → n ≤ 4 → 2 ^ n ≤ 16
few_octaves n h = pow_mono {j = 4} h

pub finite_wide : (n : ℕ) (v : Float) → 1 ≤ n → finite_index (neg_ℤ (pos n)) v ≡ quotient (2 ^ n) (table_index 0 v +ℤ pos (2 ^ n - 1))
finite_wide zero v h = absurd (omega arith)
finite_wide (suc b) v h = refl

-- ---- the ends of the finite doubles

pub smallest_bits : of_bits binary64 1 ≡ min_double
unfolding of_bits
smallest_bits = refl

pub largest_bits : of_bits binary64 9218868437227405311 ≡ max_double
unfolding of_bits
largest_bits = refl
