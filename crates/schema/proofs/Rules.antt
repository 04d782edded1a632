-- The tables' rules at each entry, from the one test of all nine tables.
use Rattle.std.proofs.Common.{◌≡◌, ℕ, zero, suc, ◌+◌, ◌*◌, ◌^◌, ◌<◌, ◌≤◌, ◌&&◌, T, eqb, ltb, List, [], ◌∷◌, length, drop, length-drop, get_or, ℤ, pos, negsuc, ◌≤ℤ◌, sym, refl, ap, ◌∙◌, subst, lt_trans, le_of_eq, lt_of_lt_of_le, le_of_suc-le-suc, not-suc-le-zero, add-zero, zero-add, add-one, arith, eqb→eq, ltb→lt}
use Rattle.std.proofs.lemmas.List.{get_or-drop}
use borrow.Author.Differences.{ints}
use lib.Ieee.Fits.{and_l, and_r}
use Rattle.schema.specs.Bounds.{is_schema}
use Rattle.schema.specs.Tables.{tables, table, rising_from, proper, thins, thins_next, lawful_from, TableRules}

-- ---- a schema's number

pub schema_range : (s : ℤ) → T (is_schema s) → (negsuc 3 ≤ℤ s) × (s ≤ℤ pos 8)
schema_range s h = (grind (arith, ints), grind (arith, ints))

pub schema_within : (s : ℤ) → negsuc 3 ≤ℤ s → s ≤ℤ pos 8 → T (is_schema s)
schema_within s l h = grind (arith, ints)

-- ---- one table

rising_at : (x : ℕ) (xs : List ℕ) → T (rising_from x xs) → (j : ℕ) → j < length xs → get_or (x ∷ xs) j 0 < get_or xs j 0
rising_at x [] h j g = absurd (not-suc-le-zero g)
rising_at x (y ∷ ys) h zero g = ltb→lt x y (and_l (ltb x y) (rising_from y ys) h)
rising_at x (y ∷ ys) h (suc j) g = rising_at y ys (and_r (ltb x y) (rising_from y ys) h) j (le_of_suc-le-suc g)

rising_below : (x : ℕ) (xs : List ℕ) → T (rising_from x xs) → (j : ℕ) → j < suc (length xs) → get_or (x ∷ xs) j 0 < 2 ^ 53
rising_below x [] h zero g = ltb→lt x (2 ^ 53) h
rising_below x [] h (suc j) g = absurd (not-suc-le-zero (le_of_suc-le-suc g))
rising_below x (y ∷ ys) h zero g = lt_trans (ltb→lt x y (and_l (ltb x y) (rising_from y ys) h)) (rising_below y ys (and_r (ltb x y) (rising_from y ys) h) zero (omega arith))
rising_below x (y ∷ ys) h (suc j) g = rising_below y ys (and_r (ltb x y) (rising_from y ys) h) j (le_of_suc-le-suc g)

thins_at : (us zs : List ℕ) → T (thins us zs) → (j : ℕ) → get_or us (2 * j) 0 ≡ get_or zs j 0
thins_at [] [] h j = refl
thins_at [] (z ∷ zs) h j = absurd h
thins_at (x ∷ []) zs h j = absurd h
thins_at (x ∷ (y ∷ xs)) [] h j = absurd h
thins_at (x ∷ (y ∷ xs)) (z ∷ zs) h zero = eqb→eq x z (and_l (eqb x z) (thins xs zs) h)
thins_at (x ∷ (y ∷ xs)) (z ∷ zs) h (suc j) = ap (λ (k : ℕ). get_or (x ∷ (y ∷ xs)) k 0) (twice j) ∙ thins_at xs zs (and_r (eqb x z) (thins xs zs) h) j
  where
    twice : (j : ℕ) → 2 * suc j ≡ suc (suc (2 * j))
    twice j = omega arith

thins_first : (us : List (List ℕ)) (t : List ℕ) → T (thins_next us t) → 0 < length us → (j : ℕ) → get_or (get_or us 0 []) (2 * j) 0 ≡ get_or t j 0
thins_first [] t h g j = absurd (not-suc-le-zero g)
thins_first (u ∷ us) t h g j = thins_at u t h j

record Proper (a : ℕ) (t : List ℕ) : Type 0 where
  pub long : length t ≡ 2 ^ a
  pub first : get_or t 0 0 ≡ 2 ^ 52
  pub below_one : (j : ℕ) → j < 2 ^ a → get_or t j 0 < 2 ^ 53
  pub rises : (j : ℕ) → j + 1 < 2 ^ a → get_or t j 0 < get_or t (j + 1) 0

proper_is : (a : ℕ) (t : List ℕ) → T (proper a t) → Proper a t
proper_is a [] h = absurd h
proper_is a (x ∷ xs) h = record {
  long = long;
  first = eqb→eq x (2 ^ 52) (and_l _ _ (and_l _ _ h));
  below_one = λ j k. rising_below x xs rise j (lt_of_lt_of_le k (le_of_eq (sym long)));
  rises = λ j k. subst (λ (n : ℕ). get_or (x ∷ xs) j 0 < get_or (x ∷ xs) n 0) (sym (add-one j)) (rising_at x xs rise j (within j (length xs) (lt_of_lt_of_le k (le_of_eq (sym long)))));
}
  where
    long : length (x ∷ xs) ≡ 2 ^ a
    long = eqb→eq (length (x ∷ xs)) (2 ^ a) (and_r (eqb x (2 ^ 52) && rising_from x xs) (eqb (length (x ∷ xs)) (2 ^ a)) h)

    rise : T (rising_from x xs)
    rise = and_r (eqb x (2 ^ 52)) (rising_from x xs) (and_l (eqb x (2 ^ 52) && rising_from x xs) (eqb (length (x ∷ xs)) (2 ^ a)) h)

    within : (j n : ℕ) → j + 1 < suc n → j < n
    within j n h = omega arith

-- ---- all tables

-- what the test says of one table, after which come the rest
record Lawful (a : ℕ) (t : List ℕ) (rest : List (List ℕ)) : Type 0 where
  pub is_proper : T (proper a t)
  pub thins : T (thins_next rest t)

lawful_at : (a : ℕ) (ts : List (List ℕ)) → T (lawful_from a ts) → (k : ℕ) → k < length ts → Lawful (a + k) (get_or ts k []) (drop (suc k) ts)
lawful_at a [] h k g = absurd (not-suc-le-zero g)
lawful_at a (t ∷ ts) h zero g =
    let r = and_l (proper a t && thins_next ts t) (lawful_from (suc a) ts) h in
    record { is_proper = subst (λ (b : ℕ). T (proper b t)) (sym (add-zero a)) (and_l (proper a t) (thins_next ts t) r); thins = and_r (proper a t) (thins_next ts t) r }
lawful_at a (t ∷ ts) h (suc k) g =
    subst (λ (b : ℕ). Lawful b (get_or ts k []) (drop (suc k) ts)) (over a k) (lawful_at (suc a) ts (and_r (proper a t && thins_next ts t) (lawful_from (suc a) ts) h) k (le_of_suc-le-suc g))
  where
    over : (a k : ℕ) → suc a + k ≡ a + suc k
    over a k = omega arith

-- the test, computed
pub lawful : T (lawful_from 0 tables)
unfolding tables
lawful = tt

nine : length tables ≡ 9
unfolding tables
nine = refl

table_lawful : (a : ℕ) → a ≤ 8 → Lawful a (table a) (drop (suc a) tables)
table_lawful a h = subst (λ (b : ℕ). Lawful b (table a) (drop (suc a) tables)) (zero-add a) (lawful_at 0 tables lawful a (omega (arith, nine)))

pub proper_table : (a : ℕ) → a ≤ 8 → T (proper a (table a))
proper_table a h = (table_lawful a h).is_proper

pub table_rules : (a : ℕ) → a ≤ 8 → TableRules a
table_rules a h =
    let r = proper_is a (table a) (proper_table a h) in
    record {
      long = r.long;
      first = r.first;
      below_one = r.below_one;
      rises = r.rises;
      nested = λ l j g. ap (λ (u : List ℕ). get_or u (2 * j) 0) (after a) ∙ thins_first (drop (suc a) tables) (table a) (table_lawful a h).thins (omega (arith, nine, length-drop (suc a) tables)) j;
    }
  where
    after : (a : ℕ) → table (a + 1) ≡ get_or (drop (suc a) tables) 0 []
    after a = ap (λ (b : ℕ). get_or tables b []) (omega arith) ∙ sym (get_or-drop (suc a) tables 0 [])
