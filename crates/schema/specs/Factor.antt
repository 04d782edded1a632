-- The schema that a bucket factor asks for.
use Rattle.std.specs.Prelude.{◌≡◌, ℕ, zero, suc, Bool, cond, not, T, ◌⊎◌, ℤ, pos, negsuc, ◌+ℤ◌, ◌<ℤ◌, Float}
use Rattle.std.specs.Float.Ieee.{le, lt}
use Rattle.double.specs.Double.{one}
use Rattle.schema.specs.Bounds.{bound, is_schema}

-- How much a bound grows from one index to the next: the bound of index 1.
-- At s ≤ 0 that is 2^(2^-s), and at s > 0 twice entry 1 of the schema's table, which stands for that number.
abbrev pub growth : ℤ → Float
growth s = bound s (pos 1)

-- whether a factor is one: above 1
abbrev pub is_factor : Float → Bool
is_factor f = lt one f

-- the first of n schemas from s on whose growth is at most f, or the one after them
abbrev pub first_from : ℕ → ℤ → Float → ℤ
first_from zero s f = s
first_from (suc n) s f = cond (le (growth s) f) s (first_from n (s +ℤ pos 1) f)

-- the smallest schema from -4 on whose growth is at most f, else 8
unfoldable pub schema_for : Float → ℤ
schema_for f = first_from 12 (negsuc 3) f

-- s is that schema: its growth is at most f unless it is 8, and no smaller schema's is
pub record Smallest (f : Float) (s : ℤ) : Type 0 where
  pub known : T (is_schema s)
  pub fitting : (s ≡ pos 8) ⊎ T (le (growth s) f)
  pub least : (t : ℤ) → T (is_schema t) → t <ℤ s → T (not (le (growth t) f))
