-- The search of a table: which entries are below a fraction, and how many.
use Rattle.std.proofs.Common.{◌≡◌, ℕ, zero, suc, ◌+◌, ◌^◌, ◌<◌, ◌≤◌, Bool, ltb, List, [], ◌∷◌, length, get_or, sym, refl, ap, ◌∙◌, le_trans, le_of_eq, lt_of_lt_of_le, le_of_suc-le-suc, not-suc-le-zero, lt_of_le_of_lt, le_of_lt, le_antisymm, ⊎_elim, true, false, ltb-true, ltb-false, lt-ltb, true≢false, arith, pow_mono}
use lib.Ieee.{Float, nan, lt}
use Rattle.std.specs.List.Sorted.{IsPartitionedBy}
use Rattle.std.proofs.lemmas.List.Kept.{AllPairs-from_increasing}
use Rattle.std.proofs.lemmas.Bool.{cases_lt}
use Rattle.double.proofs.Fraction.{Normal, normal_bits, normal_lt}
use Rattle.schema.specs.Tables.{table, entry, entry_double, doubles, TableRules}
use Rattle.schema.specs.Bounds.{entries_below}
use Rattle.schema.proofs.Rules.{table_rules}
use Rattle.schema.proofs.Counting.{parted_count, entries_count, full_table}

pub length_doubles : (ns : List ℕ) → length (doubles ns) ≡ length ns
length_doubles [] = refl
length_doubles (n ∷ ns) = ap suc (length_doubles ns)

pub get_or_doubles : (ns : List ℕ) (k : ℕ) (d : Float) → k < length ns → get_or (doubles ns) k d ≡ entry_double (get_or ns k 0)
get_or_doubles [] k d h = absurd (not-suc-le-zero h)
get_or_doubles (n ∷ ns) zero d h = refl
get_or_doubles (n ∷ ns) (suc k) d h = get_or_doubles ns k d (le_of_suc-le-suc h)

-- ---- the order of the entries

entry_order : (a i j : ℕ) → a ≤ 8 → i ≤ j → j < 2 ^ a → entry a i ≤ entry a j
entry_order a i j known h g =
    let r : TableRules a = table_rules a known in
    ⊎_elim
    (λ l. le_of_lt (AllPairs-from_increasing (table a) (λ k l. r.rises k (lt_of_lt_of_le l (le_of_eq r.long))) i j 0 l (lt_of_lt_of_le g (le_of_eq (sym r.long)))))
    (λ l. le_of_eq (ap (entry a) (le_antisymm h l)))
    (cases_lt i j)

-- an entry beside a fraction
tested : (a : ℕ) (f : Float) (n k : ℕ) (d : Float) → a ≤ 8 → Normal f n → k < 2 ^ a → lt (get_or (doubles (table a)) k d) f ≡ ltb (entry a k) n
tested a f n k d known p h =
    let g = lt_of_lt_of_le h (le_of_eq (sym (table_rules a known).long)) in
    ap (λ (x : Float). lt x f) (get_or_doubles (table a) k d g)
    ∙ normal_lt (entry_double (entry a k)) f (entry a k) n (normal_bits (entry a k) (full_table a known k g).0 (full_table a known k g).1) p

-- the entries below a fraction come first
pub below_first : (a : ℕ) (bs : List Float) (f : Float) (n : ℕ) → bs ≡ doubles (table a) → length bs ≡ 2 ^ a → a ≤ 8 → Normal f n → IsPartitionedBy (λ x. lt x f) bs
below_first a bs f n e long known p i j d l m t =
    let within : j < 2 ^ a = lt_of_lt_of_le m (le_of_eq long) in
    ap (λ (xs : List Float). lt (get_or xs i d) f) e
    ∙ tested a f n i d known p (lt_of_le_of_lt l within)
    ∙ lt-ltb _ _ (lt_of_le_of_lt (entry_order a i j known l within) (ltb-true _ _ (sym (ap (λ (xs : List Float). lt (get_or xs j d) f) e ∙ tested a f n j d known p within) ∙ t)))

-- so there are as many as the place that the ones below end at
pub place_counts : (a : ℕ) (bs : List Float) (f : Float) (n j : ℕ) → bs ≡ doubles (table a) → length bs ≡ 2 ^ a → a ≤ 8 → Normal f n → j ≤ length bs
    → ((k : ℕ) → k < j → lt (get_or bs k nan) f ≡ true) → ((k : ℕ) → j ≤ k → k < length bs → lt (get_or bs k nan) f ≡ false) → entries_below f (table a) ≡ j
place_counts a bs f n j e long known p h below above =
    entries_count f n (table a) p (full_table a known)
    ∙ parted_count n (table a) j (record {
      within = le_trans h (le_of_eq same);
      before = λ k g. ltb-true _ _ (compared k (lt_of_lt_of_le g (le_trans h (le_of_eq long))) ∙ below k g);
      after = λ k g b. ltb-false _ _ (compared k (lt_of_lt_of_le b (le_of_eq (table_rules a known).long)) ∙ above k g (lt_of_lt_of_le b (le_of_eq (sym same))));
    })
  where
    same : length bs ≡ length (table a)
    same = long ∙ sym (table_rules a known).long

    compared : (k : ℕ) → k < 2 ^ a → ltb (entry a k) n ≡ lt (get_or bs k nan) f
    compared k l = sym (ap (λ (xs : List Float). lt (get_or xs k nan) f) e ∙ tested a f n k nan known p l)

-- a test of the entry in the middle tells of those before it, or of those after it
module _ (bs : List Float) (f : Float) (parted : IsPartitionedBy (λ x. lt x f) bs) (middle : ℕ) (inside : middle < length bs) where
  pub below_middle : lt (get_or bs middle nan) f ≡ true → (k : ℕ) → k < middle + 1 → lt (get_or bs k nan) f ≡ true
  below_middle t k h = parted k middle nan (omega arith) inside t

  pub above_middle : lt (get_or bs middle nan) f ≡ false → (k : ℕ) → middle ≤ k → k < length bs → lt (get_or bs k nan) f ≡ false
  above_middle t k h l = not_below (lt (get_or bs k nan) f) refl
    where
      not_below : (b : Bool) → lt (get_or bs k nan) f ≡ b → lt (get_or bs k nan) f ≡ false
      not_below false e = e
      not_below true e = absurd (true≢false (sym (parted middle k nan h l e) ∙ t))

pub few_entries : (a : ℕ) → a ≤ 8 → 2 ^ a ≤ 256
few_entries a h = pow_mono {j = 8} h
