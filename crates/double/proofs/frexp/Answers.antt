use Rattle.std.proofs.Common.{◌≡◌, zero, suc, not, T, ℤ, pos, negsuc, ◌≤ℤ◌, sym, refl, ◌∙◌, subst, arith, T_not, w32, SFits, rules}
use borrow.Author.Differences.{ints}
use lib.Ieee.{Float, nan, inf, fin, binary64, fits, of_bits}
use Rattle.std.proofs.lemmas.Int.{to_z-of_z}
use Rattle.double.specs.Double.{fraction, exponent, finite_nonzero, zero_double, Splits}
use Rattle.std.proofs.lemmas.Float.{T_from_true}
use Rattle.double.proofs.Fraction.{nonzero_tested, infinite_tested, zero_tested, splits, Written, written}
use Rattle.double.proofs.frexp.Goals as goal
use Rattle.double.proofs.frexp.Goals.{then-not-is_finite-via-then-not-is_finite, then-not-is_finite-via-else-not-is_finite+then-v}

-- the contract, of the pair (f, x)
abbrev Met : Float → Float → ℤ → Type 0
Met v f x = record { value : ◌≡◌ {A = Float × ℤ} (f, x) (fraction v, exponent v); splits : T (finite_nonzero v) → Splits v f x; range : (negsuc 1073 ≤ℤ x) × (x ≤ℤ pos 1024); nothing : T (not (finite_nonzero v)) → ◌≡◌ {A = Float × ℤ} (f, x) (zero_double, pos 0) }

none : (v : Float) → T (not (finite_nonzero v)) → Met v (of_bits binary64 0) (pos 0)
unfolding of_bits
none nan h = record { value = refl; splits = λ g. absurd g; range = (record { le = tt }, record { le = tt }); nothing = λ g. refl }
none (inf s) h = record { value = refl; splits = λ g. absurd g; range = (record { le = tt }, record { le = tt }); nothing = λ g. refl }
none (fin s zero e) h = record { value = refl; splits = λ g. absurd g; range = (record { le = tt }, record { le = tt }); nothing = λ g. refl }
none (fin s (suc m) e) h = absurd h

some : (v f : Float) (x : ℤ) → T (fits binary64 v) → T (finite_nonzero v) → f ≡ fraction v → x ≡ exponent v → (negsuc 1073 ≤ℤ x) × (x ≤ℤ pos 1024) → Met v f x
some v f x h g p q r = record {
  value = λ i. (p i, q i);
  splits = λ _. subst (λ (y : Float). Splits v y x) (sym p) (subst (λ (y : ℤ). Splits v (fraction v) y) (sym q) (splits v h g));
  range = r;
  nothing = λ n. absurd (T_not (finite_nonzero v) n g);
}

pub returns-then-not-is_finite : goal.returns-then-not-is_finite
returns-then-not-is_finite c =
    none c.args.v
    (elim c.then-not-is_finite.branch [
      | then-not-is_finite-via-then-not-is_finite w ↦ infinite_tested c.args.v (sym w.if-not-is_finite.ensures.value)
      | then-not-is_finite-via-else-not-is_finite+then-v w ↦ zero_tested c.args.v w.if-v.true
    ])

pub of-parts-requires : goal.of-parts-requires
of-parts-requires c = nonzero_tested c.args.v (sym c.if-not-is_finite.ensures.value) c.if-v.false

pub returns : goal.returns
returns c =
    let v = c.args.v in
    let m = c.of-parts.result in
    let h : T (finite_nonzero v) = nonzero_tested v (sym c.if-not-is_finite.ensures.value) c.if-v.false in
    let p : Written v m.mantissa m.shift = written v m.mantissa m.shift (T_from_true _ c.well_formed.0.1) h m.nonzero m.digits c.of-parts.ensures in
    let f : SFits w32 c.exponent.result = search rules in
    let e = to_z-of_z w32 c.exponent.result f in
    let r = c.exponent.ensures.range in
    some v c.fraction.result _ (T_from_true _ c.well_formed.0.1) h (c.fraction.ensures ∙ p.bits) (e ∙ c.exponent.ensures.value ∙ sym p.power) (omega (arith, ints), omega (arith, ints))
