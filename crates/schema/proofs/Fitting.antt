-- The first schema whose growth is at most a factor is the smallest such.
use Rattle.std.proofs.Common.{◌≡◌, ℕ, zero, suc, Bool, true, false, cond, not, T, ◌⊎◌, ℤ, pos, negsuc, ◌+ℤ◌, ◌-ℤ◌, nat_abs, ◌≤ℤ◌, ◌<ℤ◌, sym, refl, ap, ◌∙◌, subst, inl, inr, arith}
use borrow.Author.Differences.{ints}
use lib.Ieee.{Float, le}
use Rattle.std.proofs.lemmas.Int.{by_lt_z}
use Rattle.schema.specs.Factor.{growth, first_from, schema_for, Smallest}
use Rattle.schema.proofs.Rules.{schema_range, schema_within}

-- where the growth of s is at most f, s is found
pub fitting_here : (n : ℕ) (s : ℤ) (f : Float) → le (growth s) f ≡ true → first_from (suc n) s f ≡ s
fitting_here n s f e = ap (λ (b : Bool). cond b s (first_from n (s +ℤ pos 1) f)) e

-- where it is above f, what is found is found from the next one on
pub fitting_later : (n : ℕ) (s : ℤ) (f : Float) → le (growth s) f ≡ false → first_from (suc n) s f ≡ first_from n (s +ℤ pos 1) f
fitting_later n s f e = ap (λ (b : Bool). cond b s (first_from n (s +ℤ pos 1) f)) e

-- the schema that is found from s on
abbrev pub fitting_from : ℤ → Float → ℤ
fitting_from s f = first_from (nat_abs (pos 8 -ℤ s)) s f

fewer : (s : ℤ) → s <ℤ pos 8 → nat_abs (pos 8 -ℤ s) ≡ suc (nat_abs (pos 8 -ℤ (s +ℤ pos 1)))
fewer s l = omega (arith, ints)

pub found_here : (s : ℤ) (f : Float) → s <ℤ pos 8 → le (growth s) f ≡ true → fitting_from s f ≡ s
found_here s f l g = ap (λ (k : ℕ). first_from k s f) (fewer s l) ∙ fitting_here _ s f g

pub found_later : (s : ℤ) (f : Float) → s <ℤ pos 8 → le (growth s) f ≡ false → fitting_from s f ≡ fitting_from (s +ℤ pos 1) f
found_later s f l g = ap (λ (k : ℕ). first_from k s f) (fewer s l) ∙ fitting_later _ s f g

record First (n : ℕ) (s : ℤ) (f : Float) (r : ℤ) : Type 0 where
  pub from : s ≤ℤ r
  pub upto : r ≤ℤ (s +ℤ pos n)
  pub fitting : (r ≡ s +ℤ pos n) ⊎ T (le (growth r) f)
  pub least : (t : ℤ) → s ≤ℤ t → t <ℤ r → T (not (le (growth t) f))

first_is : (n : ℕ) (s : ℤ) (f : Float) → First n s f (first_from n s f)
first_is zero s f = record { from = omega (arith, ints); upto = omega (arith, ints); fitting = inl (omega (arith, ints)); least = λ t l g. absurd (omega (arith, ints)) }
first_is (suc n) s f = go (le (growth s) f) refl (first_from n (s +ℤ pos 1) f) (first_is n (s +ℤ pos 1) f)
  where
    go : (b : Bool) → le (growth s) f ≡ b → (x : ℤ) → First n (s +ℤ pos 1) f x → First (suc n) s f (cond b s x)
    go true e x r = record { from = omega (arith, ints); upto = omega (arith, ints); fitting = inr (subst T (sym e) tt); least = λ t l g. absurd (omega (arith, ints)) }
    go false e x r = record {
      from = omega (arith, ints);
      upto = omega (arith, ints);
      fitting = elim r.fitting [ inl q ↦ inl (omega (arith, ints)) | inr t ↦ inr t ];
      least = λ t l g. by_lt_z s t (λ h. r.least t (omega (arith, ints)) g) (λ h. let q : s ≡ t = omega (arith, ints) in subst (λ (y : ℤ). T (not (le (growth y) f))) q (subst (λ (b : Bool). T (not b)) (sym e) tt));
    }

pub schema_smallest : (f : Float) → Smallest f (schema_for f)
unfolding schema_for
schema_smallest f = record { known = schema_within (first_from 12 (negsuc 3) f) r.from r.upto; fitting = r.fitting; least = λ t h g. r.least t (schema_range t h).0 g }
  where
    r : First 12 (negsuc 3) f (first_from 12 (negsuc 3) f)
    r = first_is 12 (negsuc 3) f

pub begins : (f : Float) → schema_for f ≡ fitting_from (negsuc 3) f
unfolding schema_for
begins f = refl
