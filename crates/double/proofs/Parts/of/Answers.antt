use Rattle.std.proofs.Common.{◌≡◌, ℕ, false, not, T, sym, refl, ap, subst, ◌∙◌, arith}
use lib.Ieee.{Float, nan, inf, fin, binary64, is_nan, to_bits}
use Rattle.std.specs.Float.{float_with_sign}
use Rattle.double.specs.Double.{magnitude, finite_nonzero}
use Rattle.std.proofs.lemmas.Float.{T_from_true}
use Rattle.double.proofs.Shape.{Taken, shape, magnitude_low, magnitude_high}
use Rattle.double.proofs.Parts.of.Goals as goal
use Rattle.double.proofs.Parts.of.Goals.{then-field-eq0, else-field-eq0}

unsigned : (v : Float) → float_with_sign false v ≡ magnitude v
unfolding float_with_sign
unsigned nan = refl
unsigned (inf s) = refl
unsigned (fin s m e) = refl

number : (v : Float) → T (finite_nonzero v) → T (not (is_nan (magnitude v)))
unfolding is_nan
number nan h = h
number (inf s) h = tt
number (fin s m e) h = tt

pub float_to_bits-bits : goal.float_to_bits-bits
float_to_bits-bits c = subst (λ (x : Float). T (not (is_nan x))) (sym (c.abs-bits.ensures.value ∙ unsigned c.args.v)) (number c.args.v c.requires)

-- the bounds, by those of the parts of the bits
pub invariant_of-result : goal.invariant_of-result
invariant_of-result c =
    let s = shape c.args.v (T_from_true _ c.well_formed.0.1) c.requires in
    let e = ap (to_bits binary64) (c.abs-bits.ensures.value ∙ unsigned c.args.v) in
    (elim c.if-field-eq0.branch [
      | then-field-eq0 w ↦
          let m = ap (λ (r : ℕ × (ℕ × Unit {0})). r.0) w.result-is in
          let k = ap (λ (r : ℕ × (ℕ × Unit {0})). r.1.0) w.result-is in
          let b = w.if-field-eq0.true in
          record { nonzero = omega (arith, m, b, e, s.magnitude_bits, s.nonzero); digits = omega (arith, m); small = omega (arith, k) }
      | else-field-eq0 w ↦
          let m = ap (λ (r : ℕ × (ℕ × Unit {0})). r.0) w.result-is in
          let k = ap (λ (r : ℕ × (ℕ × Unit {0})). r.1.0) w.result-is in
          record { nonzero = omega (arith, m); digits = omega (arith, m); small = omega (arith, k, e, s.magnitude_bits, s.small, s.digits) }
    ])

pub returns : goal.returns
returns c =
    let s = shape c.args.v (T_from_true _ c.well_formed.0.1) c.requires in
    let e = ap (to_bits binary64) (c.abs-bits.ensures.value ∙ unsigned c.args.v) in
    let t : Taken c.args.v c.if-field-eq0.result.0 c.if-field-eq0.result.1.0 = (elim c.if-field-eq0.branch [
      | then-field-eq0 w ↦ magnitude_low c.args.v _ _ _ s e w.if-field-eq0.true (ap (λ (r : ℕ × (ℕ × Unit {0})). r.0) w.result-is) (ap (λ (r : ℕ × (ℕ × Unit {0})). r.1.0) w.result-is)
      | else-field-eq0 w ↦ magnitude_high c.args.v _ _ _ s e w.if-field-eq0.false (ap (λ (r : ℕ × (ℕ × Unit {0})). r.0) w.result-is) (ap (λ (r : ℕ × (ℕ × Unit {0})). r.1.0) w.result-is)
    ]) in
    t.whole

pub overflow_cast-result : goal.overflow_cast-result
overflow_cast-result c =
    let s = shape c.args.v (T_from_true _ c.well_formed.0.1) c.requires in
    let e = ap (to_bits binary64) (c.abs-bits.ensures.value ∙ unsigned c.args.v) in
    omega (arith, e, s.magnitude_bits, s.small, s.digits)
