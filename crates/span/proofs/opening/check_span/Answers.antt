use Rattle.std.proofs.Common.{Some, sym, ap, ◌∙◌, inl, inr, arith, w32, w64, Fits, SFits, rules}
use Rattle.std.proofs.lemmas.Int.{ints, to_z_pos}
use Rattle.span.proofs.Checks.{onward, reaches_in, reaches_out}
use Rattle.span.proofs.opening.check_span.Goals as goal
use Rattle.span.proofs.opening.check_span.Goals.{else-number-gt0-via-then-number-gt0+else-span-lt0, else-number-gt0-via-else-number-gt0, then-not-in_range-via-then-not-in_range, then-not-in_range-via-else-not-in_range+then-not-in_range-2}

pub returns-then-not-in_range : goal.returns-then-not-in_range
returns-then-not-in_range c =
    let f : SFits w32 c.args.span.0 = search rules in
    let g : Fits w32 c.args.span.1 = search rules in
    let on = onward c.args.number c.args.span.0 f
    (elim c.else-number-gt0.branch [
      | else-number-gt0-via-then-number-gt0+else-span-lt0 w ↦ inr w.if-span-lt0.false
      | else-number-gt0-via-else-number-gt0 w ↦ inl w.if-number-gt0.false
    ]) in
    reaches_out c.args.number c.args.next c.args.span c.requires.low c.requires.high f g c.from.ensures c.from-2.ensures c.if-span-eq0.false on
    (elim c.then-not-in_range.branch [
      | then-not-in_range-via-then-not-in_range w ↦ inl (sym c.in_range.ensures ∙ w.if-not-in_range.true)
      | then-not-in_range-via-else-not-in_range+then-not-in_range-2 w ↦ inr (sym w.in_range-else-not-in_range.ensures ∙ w.if-not-in_range-2.true)
    ])
    ∙ ap (λ z. Some (14, z)) (sym (to_z_pos w64 c.args.number c.requires.place))

pub returns : goal.returns
returns c =
    let f : SFits w32 c.args.span.0 = search rules in
    let g : Fits w32 c.args.span.1 = search rules in
    let on = onward c.args.number c.args.span.0 f
    (elim c.else-number-gt0.branch [
      | else-number-gt0-via-then-number-gt0+else-span-lt0 w ↦ inr w.if-span-lt0.false
      | else-number-gt0-via-else-number-gt0 w ↦ inl w.if-number-gt0.false
    ]) in
    record {
      allowed = reaches_in c.args.number c.args.next c.args.span c.requires.low c.requires.high f g c.from.ensures c.from-2.ensures c.if-span-eq0.false on
          (sym c.in_range.ensures ∙ c.if-not-in_range.false) (sym c.in_range-else-not-in_range.ensures ∙ c.if-not-in_range-2.false);
      follows = omega (arith, ints);
    }
