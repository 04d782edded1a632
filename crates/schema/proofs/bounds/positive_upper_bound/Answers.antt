use Rattle.std.proofs.Common.{◌≡◌, subst, sym, T, ℤ, pos, ◌+ℤ◌, rules}
use lib.Ieee.{Float, le}
use Rattle.schema.specs.Bounds.{bound, Largest, is_schema}
use Rattle.schema.proofs.Laws.{bound_largest, bound_rises}
use Rattle.schema.proofs.bounds.positive_upper_bound.Goals as goal

record Met (s i : ℤ) (r : Float) : Type 0 where
  pub value : r ≡ bound s i
  pub largest : Largest s i r
  pub rises : T (le r (bound s (i +ℤ pos 1)))

met : (s i : ℤ) (r : Float) → T (is_schema s) → r ≡ bound s i → Met s i r
met s i r h e = record { value = e; largest = subst (Largest s i) (sym e) (bound_largest s i); rises = subst (λ (x : Float). T (le x (bound s (i +ℤ pos 1)))) (sym e) (bound_rises s i h) }

pub returns-in-Table : goal.returns-in-Table
returns-in-Table c =
    let m = met c.args.schema.value c.args.index c.bound.result c.args.schema.known (search rules) in
    record { value = m.value; largest = m.largest; rises = m.rises }

pub returns-in-Powers : goal.returns-in-Powers
returns-in-Powers c =
    let m = met c.args.schema.value c.args.index c.bound-in-Powers.result c.args.schema.known (search rules) in
    record { value = m.value; largest = m.largest; rises = m.rises }
