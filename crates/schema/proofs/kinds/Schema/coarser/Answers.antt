use Rattle.std.proofs.Common.{◌≡◌, not, T, ℤ, pos, negsuc, ◌-ℤ◌, sym, ◌∙◌, subst, arith, Ok, Err, Result, MatchOption, MatchResult}
use borrow.Author.Differences.{ints}
use Rattle.std.specs.Result.{result_ok}
use Rattle.schema.specs.declared.kinds.Schema.{Schema}
use Rattle.schema.specs.declared.faults.SchemaFault.{SchemaFault}
use Rattle.schema.specs.Bounds.{is_schema}
use Rattle.schema.specs.Faults.{refusal}
use Rattle.schema.specs.Laws.{Coarser}
use Rattle.schema.proofs.Rules.{schema_range}
use Rattle.schema.proofs.Laws.{bound_nested, halved_index}
use Rattle.schema.proofs.kinds.Schema.coarser.Goals as goal

coarse : (s : ℤ) → T (is_schema s) → T (is_schema (s -ℤ pos 1)) → Coarser s (s -ℤ pos 1)
coarse s h g = record { next = λ i. s -ℤ pos 1; bounds = λ i. bound_nested s i h g; indices = λ v k n. halved_index s v h g k.0 n }

coarsest : (s : ℤ) → T (is_schema s) → T (not (is_schema (s -ℤ pos 1))) → s ≡ negsuc 3
coarsest s h g = grind (arith, ints)

-- of the schema that the number less one makes, or of the refusal
met : (s t : ℤ) (r : Result Schema SchemaFault) → T (is_schema s) → t ≡ s -ℤ pos 1 → MatchResult r (λ n. n.value ≡ t) (λ f. T (not (is_schema t)) × (refusal f ≡ (1, pos 0)))
    → MatchOption (result_ok r) (s ≡ negsuc 3) (λ n. Coarser s n.value)
met s t (Ok n) h e q = subst (Coarser s) (sym (q ∙ e)) (coarse s h (subst (λ (z : ℤ). T (is_schema z)) (q ∙ e) n.known))
met s t (Err f) h e q = coarsest s h (subst (λ (z : ℤ). T (not (is_schema z))) e q.0)

pub returns : goal.returns
returns c =
    let r = schema_range c.args.self.value c.args.self.known in
    rw c.ok.ensures.value (met c.args.self.value _ c.new.result c.args.self.known (omega (arith, ints)) c.new.ensures)
