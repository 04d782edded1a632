-- What a window lists, as a chain of iterators over its positions gives it.
use Rattle.std.proofs.Common.{◌≡◌, ℕ, ◌<◌, ◌≤◌, Option, None, Some, arith}
use Rattle.std.specs.Option.{MatchOption, unwrap_or}
use Rattle.run.specs.Window.{Next}

-- what `find` answers, as the next used counter
pub next_from_find : (f : ℕ → ℕ) (a e : ℕ) (r : Option ℕ) → a ≤ e → MatchOption r ((k : ℕ) → a ≤ k → k < e → f k ≡ 0) (λ i. (a ≤ i) × (i < e) × (0 < f i) × ((k : ℕ) → a ≤ k → k < i → f k ≡ 0)) → Next f a e (unwrap_or r e)
next_from_find f a e None h m = record { from = h; to = omega arith; none = m; here = λ u. absurd (omega arith) }
next_from_find f a e (Some i) h m = record { from = m.0; to = omega arith; none = m.3; here = λ u. m.2 }
