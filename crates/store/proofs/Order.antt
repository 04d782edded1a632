-- Tests on indices, and what they tell.
use Rattle.std.proofs.Common.{◌≡◌, Bool, true, false, T, ◌⊎◌, ℤ, pos, negsuc, ◌≤ℤ◌, ◌<ℤ◌, arith}
use lib.Signed.{lt_z}
use Rattle.std.proofs.lemmas.Int.{ints}
use Rattle.std.proofs.lemmas.Bool.Decides.{nat_tests}
use Rattle.store.specs.Pairs.{same}

pub T_true : (b : Bool) → T b → b ≡ true
T_true b t = grind arith

pub true_T : (b : Bool) → b ≡ true → T b
true_T b e = grind arith

pub same_itself : (i : ℤ) → same i i ≡ true
same_itself (pos a) = grind (arith, nat_tests)
same_itself (negsuc a) = grind (arith, nat_tests)

pub same_from : (i j : ℤ) → i ≡ j → same i j ≡ true
same_from i j e = grind (arith, same_itself)

pub same_true : (i j : ℤ) → same i j ≡ true → i ≡ j
same_true (pos a) (pos b) e = grind (arith, nat_tests)
same_true (pos a) (negsuc b) e = cc
same_true (negsuc a) (pos b) e = cc
same_true (negsuc a) (negsuc b) e = grind (arith, nat_tests)

pub same_not : (i j : ℤ) → (i ≡ j → ⊥) → same i j ≡ false
same_not i j n = grind (arith, same_true)

pub same_false : (i j : ℤ) → same i j ≡ false → i ≡ j → ⊥
same_false i j f e = grind (arith, same_itself)

pub below_same : (i j : ℤ) → i <ℤ j → same i j ≡ false
below_same i j h = grind (arith, ints, same_true)

pub above_same : (i j : ℤ) → j <ℤ i → same i j ≡ false
above_same i j h = grind (arith, ints, same_true)

-- i is below j, at j or above j
pub cases_index : (i j : ℤ) → (i <ℤ j) ⊎ ((i ≡ j) ⊎ (j <ℤ i))
cases_index i j = grind (arith, ints)

pub below_lt_z : (i j : ℤ) → i <ℤ j → lt_z i j ≡ true
below_lt_z i j h = grind (arith, ints)

pub not_lt_z : (i j : ℤ) → j ≤ℤ i → lt_z i j ≡ false
not_lt_z i j h = grind (arith, ints)

pub lt_z_below : (i j : ℤ) → lt_z i j ≡ true → i <ℤ j
lt_z_below i j h = grind (arith, ints)
