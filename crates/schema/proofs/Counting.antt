-- How many entries of a table are below a fraction: the place where the fraction's bucket is.
use Rattle.std.proofs.Common.{◌≡◌, ℕ, zero, suc, ◌+◌, ◌^◌, ◌<◌, ◌≤◌, Bool, cond, ◌&&◌, T, eqb, ltb, List, [], ◌∷◌, length, get_or, sym, refl, ◌∙◌, subst, ap₂, ⊎_elim, suc-le-suc, zero-le, le_trans, le_of_eq, le_refl, lt_of_lt_of_le, le_of_suc-le-suc, not-suc-le-zero, lt_of_le_of_lt, le_of_lt, add-one, one-add, ltb→lt, le-ltb, lt-ltb}
use Rattle.std.proofs.lemmas.Bool.{cases_lt}
use lib.Ieee.{Float}
use Rattle.double.proofs.Fraction.{Normal, normal_bits, normal_lt}
use Rattle.schema.specs.Tables.{table, entry, entry_double, rising_from, proper, TableRules}
use Rattle.schema.specs.Bounds.{entries_below}
use lib.Ieee.Fits.{and_l, and_r}
use Rattle.schema.proofs.Rules.{proper_table, table_rules}

-- how many of the numbers are below n
abbrev pub count_below : ℕ → List ℕ → ℕ
count_below n [] = 0
count_below n (x ∷ xs) = cond (ltb x n) 1 0 + count_below n xs

-- j entries come before the place, all below n, and from it on they are n at least
pub record Parted (n : ℕ) (ns : List ℕ) (j : ℕ) : Type 0 where
  pub within : j ≤ length ns
  pub before : (k : ℕ) → k < j → get_or ns k 0 < n
  pub after : (k : ℕ) → j ≤ k → k < length ns → n ≤ get_or ns k 0

from_least : (n x : ℕ) (xs : List ℕ) → T (rising_from x xs) → n ≤ x → (k : ℕ) → k < length (x ∷ xs) → n ≤ get_or (x ∷ xs) k 0
from_least n x xs h l zero g = l
from_least n x [] h l (suc k) g = absurd (not-suc-le-zero (le_of_suc-le-suc g))
from_least n x (y ∷ ys) h l (suc k) g = from_least n y ys (and_r (ltb x y) (rising_from y ys) h) (le_trans l (le_of_lt (ltb→lt x y (and_l (ltb x y) (rising_from y ys) h)))) k (le_of_suc-le-suc g)

parted_more : (n x : ℕ) (ns : List ℕ) (j : ℕ) → x < n → Parted n ns j → Parted n (x ∷ ns) (suc j)
parted_more n x ns j l p = record { within = suc-le-suc p.within; before = before; after = after }
  where
    before : (k : ℕ) → k < suc j → get_or (x ∷ ns) k 0 < n
    before zero a = l
    before (suc k) a = p.before k (le_of_suc-le-suc a)

    after : (k : ℕ) → suc j ≤ k → k < suc (length ns) → n ≤ get_or (x ∷ ns) k 0
    after zero a b = absurd (not-suc-le-zero a)
    after (suc k) a b = p.after k (le_of_suc-le-suc a) (le_of_suc-le-suc b)

-- the count is the place, whatever the order of the list
pub parted_count : (n : ℕ) (ns : List ℕ) (j : ℕ) → Parted n ns j → count_below n ns ≡ j
parted_count n [] zero p = refl
parted_count n [] (suc j) p = absurd (not-suc-le-zero p.within)
parted_count n (x ∷ xs) zero p =
    ap₂ (λ (b : Bool) (k : ℕ). cond b 1 0 + k) (le-ltb x n (p.after zero (le_refl 0) (suc-le-suc zero-le)))
    (parted_count n xs zero (record { within = zero-le; before = λ k a. absurd (not-suc-le-zero a); after = λ k a b. p.after (suc k) zero-le (suc-le-suc b) }))
parted_count n (x ∷ xs) (suc j) p =
    ap₂ (λ (b : Bool) (k : ℕ). cond b 1 0 + k) (lt-ltb x n (p.before zero (suc-le-suc zero-le)))
    (parted_count n xs j (record { within = le_of_suc-le-suc p.within; before = λ k a. p.before (suc k) (suc-le-suc a); after = λ k a b. p.after (suc k) (suc-le-suc a) (suc-le-suc b) }))
    ∙ one-add j

-- in a rising list there is such a place
place : (n x : ℕ) (xs : List ℕ) → T (rising_from x xs) → (j : ℕ) × Parted n (x ∷ xs) j
place n x [] h = ⊎_elim (λ l. (1, parted_more n x [] 0 l (record { within = zero-le; before = λ k a. absurd (not-suc-le-zero a); after = λ k a b. absurd (not-suc-le-zero b) }))) (λ l. (0, record { within = zero-le; before = λ k a. absurd (not-suc-le-zero a); after = λ k a b. from_least n x [] h l k b })) (cases_lt x n)
place n x (y ∷ ys) h =
    let r : (j : ℕ) × Parted n (y ∷ ys) j = place n y ys (and_r (ltb x y) (rising_from y ys) h) in
    ⊎_elim (λ l. (suc r.0, parted_more n x (y ∷ ys) r.0 l r.1)) (λ l. (0, record { within = zero-le; before = λ k a. absurd (not-suc-le-zero a); after = λ k a b. from_least n x (y ∷ ys) h l k b })) (cases_lt x n)

parted_table : (n a : ℕ) (t : List ℕ) → T (proper a t) → Parted n t (count_below n t)
parted_table n a [] h = absurd h
parted_table n a (x ∷ xs) h =
    let r : (j : ℕ) × Parted n (x ∷ xs) j = place n x xs (and_r (eqb x (2 ^ 52)) (rising_from x xs) (and_l (eqb x (2 ^ 52) && rising_from x xs) (eqb (length (x ∷ xs)) (2 ^ a)) h)) in
    subst (Parted n (x ∷ xs)) (sym (parted_count n (x ∷ xs) r.0 r.1)) r.1

-- ---- entries as doubles

-- each number of the list has 53 digits
abbrev pub Full : List ℕ → Type 0
Full ns = (k : ℕ) → k < length ns → (2 ^ 52 ≤ get_or ns k 0) × (get_or ns k 0 < 2 ^ 53)

pub entries_count : (f : Float) (n : ℕ) (ns : List ℕ) → Normal f n → Full ns → entries_below f ns ≡ count_below n ns
entries_count f n [] p h = refl
entries_count f n (x ∷ xs) p h =
    ap₂ (λ (b : Bool) (k : ℕ). cond b 1 0 + k) (normal_lt (entry_double x) f x n (normal_bits x (h 0 (suc-le-suc zero-le)).0 (h 0 (suc-le-suc zero-le)).1) p)
    (entries_count f n xs p (λ k l. h (suc k) (suc-le-suc l)))

pub full_table : (a : ℕ) → a ≤ 8 → Full (table a)
full_table a h k g = (low k (lt_of_lt_of_le g (le_of_eq r.long)), r.below_one k (lt_of_lt_of_le g (le_of_eq r.long)))
  where
    r : TableRules a
    r = table_rules a h

    low : (k : ℕ) → k < 2 ^ a → 2 ^ 52 ≤ entry a k
    low zero l = le_of_eq (sym r.first)
    low (suc k) l = le_trans (low k (le_of_lt l)) (le_of_lt (subst (λ (j : ℕ). entry a k < entry a j) (add-one k) (r.rises k (lt_of_le_of_lt (le_of_eq (add-one k)) l))))

pub parted_entries : (a : ℕ) (f : Float) (n : ℕ) → a ≤ 8 → Normal f n → Parted n (table a) (entries_below f (table a))
parted_entries a f n h p = subst (Parted n (table a)) (sym (entries_count f n (table a) p (full_table a h))) (parted_table n a (table a) (proper_table a h))
