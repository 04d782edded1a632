-- The pairs with short gaps filled, as they are listed one after another.
use Rattle.std.proofs.Common.{◌≡◌, ℕ, zero, suc, ◌+◌, ◌^◌, ◌<◌, ◌≤◌, true, false, T, ◌⊎◌, [], ◌∷◌, length, drop, ℤ, pos, negsuc, ◌+ℤ◌, ◌-ℤ◌, ◌≤ℤ◌, is_some, Some, None, Option, sym, refl, ap, ◌∙◌, inl, inr, arith, w32, to_z, of_z}
use lib.Signed.{le_z, lt_z, le_z_yes, ◌<ℤ◌}
use borrow.Author.Tests.{clash}
use Rattle.std.specs.Option.{MatchOption}
use Rattle.std.proofs.lemmas.Int.{ints}
use Rattle.std.proofs.lemmas.Grind.{common_steps}
use Rattle.index.specs.Index.{in_index_range}
use Rattle.store.specs.Pairs.{Pairs, Means, counted, ranged, total, pair_at}
use Rattle.store.proofs.Bounds.{and_T, counted_first, counted_tail}
use Rattle.store.proofs.Range.{ranged_tail}
use Rattle.span.specs.Spans.{filled, filled_from, ahead}

-- the two bounds of an index in range
pub record Ranges (i : ℤ) : Type 0 where
  pub low : negsuc 274943 ≤ℤ i
  pub high : i ≤ℤ pos 262145

-- an index that passes the test of the range has them
pub ranges : (i : ℤ) → T (in_index_range i) → Ranges i
ranges i t =
    let r = and_T (le_z (negsuc 274943) i) (le_z i (pos 262145)) t in
    record { low = le_z_yes r.0; high = le_z_yes r.1 }

-- a pair that stands at a position
pub pair_ranges : (ps : Pairs) (k : ℕ) {p : ℤ × ℕ} → T (ranged ps) → Some p ≡ pair_at ps k → Ranges p.0
pair_ranges [] k t e = absurd (clash (sym (ap is_some e)))
pair_ranges (q ∷ qs) zero {p} t e = record { low = grind (arith, ints); high = grind (arith, ints) }
pair_ranges (q ∷ qs) (suc k) t e = pair_ranges qs k (ranged_tail q qs t) e

pub pair_within : (ps : Pairs) (k : ℕ) (p : ℤ × ℕ) → pair_at ps k ≡ Some p → k < length ps
pair_within [] k p e = grind arith
pair_within (q ∷ qs) zero p e = omega arith
pair_within (q ∷ qs) (suc k) p e = omega (arith, pair_within qs k p e)

length_in_total : (ps : Pairs) → T (counted ps) → length ps ≤ total ps
length_in_total [] t = omega arith
length_in_total (p ∷ ps) t = omega (arith, counted_first p ps t, length_in_total ps (counted_tail p ps t))

pub few_pairs : (ps : Pairs) → Means ps → length ps < 2 ^ 64
few_pairs ps m = omega (arith, length_in_total ps m.counts, m.bounded)

-- what is listed from a position on
drop_pair : (ps : Pairs) (k : ℕ) (p : ℤ × ℕ) → pair_at ps k ≡ Some p → drop k ps ≡ p ∷ drop (k + 1) ps
drop_pair [] k p e = grind arith
drop_pair (q ∷ qs) zero p e = grind arith
drop_pair (q ∷ qs) (suc k) p e = grind (arith, common_steps, drop_pair qs k p)

drop_none : (ps : Pairs) (k : ℕ) → pair_at ps k ≡ None → drop k ps ≡ []
drop_none [] zero e = refl
drop_none [] (suc k) e = refl
drop_none (q ∷ qs) zero e = grind arith
drop_none (q ∷ qs) (suc k) e = drop_none qs k e

pub ahead_none : (ps : Pairs) (k : ℕ) (next : ℤ) → pair_at ps k ≡ None → ahead ps k next ≡ []
ahead_none ps k next e = ap (filled_from next) (drop_none ps k e)

-- where `next` is not one or two below the index of the pair, the pair is next
ahead_pair : (ps : Pairs) (k : ℕ) (next : ℤ) (p : ℤ × ℕ) → pair_at ps k ≡ Some p → (p.0 ≡ next +ℤ pos 1 → ⊥) → (p.0 ≡ next +ℤ pos 2 → ⊥) → ahead ps k next ≡ p ∷ ahead ps (k + 1) (p.0 +ℤ pos 1)
ahead_pair ps k next p e one two = rw (drop_pair ps k p e) (grind (arith, ints))

-- where it is, `next` is, with count 0
ahead_zero : (ps : Pairs) (k : ℕ) (next : ℤ) (p : ℤ × ℕ) → pair_at ps k ≡ Some p → (p.0 ≡ next +ℤ pos 1) ⊎ (p.0 ≡ next +ℤ pos 2) → ahead ps k next ≡ (next, 0) ∷ ahead ps k (next +ℤ pos 1)
ahead_zero ps k next p e short = rw (drop_pair ps k p e) (grind (arith, ints))

pub ahead_one : (ps : Pairs) (k : ℕ) (next : ℤ) (p : ℤ × ℕ) → pair_at ps k ≡ Some p → p.0 ≡ next +ℤ pos 1 → ahead ps k next ≡ (next, 0) ∷ ahead ps k (next +ℤ pos 1)
ahead_one ps k next p e one = ahead_zero ps k next p e (inl one)

pub ahead_two : (ps : Pairs) (k : ℕ) (next : ℤ) (p : ℤ × ℕ) → pair_at ps k ≡ Some p → p.0 ≡ next +ℤ pos 2 → ahead ps k next ≡ (next, 0) ∷ ahead ps k (next +ℤ pos 1)
ahead_two ps k next p e two = ahead_zero ps k next p e (inr two)

-- the start
ahead_start : (ps : Pairs) (p : ℤ × ℕ) → pair_at ps 0 ≡ Some p → ahead ps 0 p.0 ≡ filled ps
ahead_start ps p e =
    ahead_pair ps 0 p.0 p e (λ f. omega (arith, ints)) (λ f. omega (arith, ints))
    ∙ sym (ap filled (drop_pair ps 0 p e))

ahead_empty : (ps : Pairs) (next : ℤ) → pair_at ps 0 ≡ None → ahead ps 0 next ≡ filled ps
ahead_empty ps next e = ahead_none ps 0 next e ∙ sym (ap filled (drop_none ps 0 e))

-- where a walk of the pairs starts
pub record Starts (ps : Pairs) (next : ℤ) : Type 0 where
  pub low : negsuc 274943 ≤ℤ next
  pub high : next ≤ℤ pos 262146
  pub all : ahead ps 0 next ≡ filled ps

pub starts : {Is : ℤ × ℕ → Type 0} (ps : Pairs) (o : Option (ℤ × ℕ)) (next : ℤ) → T (ranged ps) → o ≡ pair_at ps 0 → MatchOption o (next ≡ pos 0) Is → ((p : ℤ × ℕ) → Is p → next ≡ p.0) → Starts ps next
starts ps None next t e z f = record { low = omega (arith, ints); high = omega (arith, ints); all = ahead_empty ps next (sym e) }
starts ps (Some p) next t e z f =
    let i = f p z in
    let r = pair_ranges ps 0 t e in
    let l = r.low in
    let h = r.high in
    record { low = omega (arith, ints); high = omega (arith, ints); all = ap (ahead ps 0) i ∙ ahead_start ps p (sym e) }

-- the gap from `next` to i, as the machine has it
abbrev pub gap : ℤ → ℤ → ℤ
gap i next = to_z w32 (of_z w32 (to_z w32 (of_z w32 i) -ℤ to_z w32 (of_z w32 next)))

module _ (i next : ℤ) (r : Ranges i) (low : negsuc 274943 ≤ℤ next) (high : next ≤ℤ pos 262146) where
  gap_is : gap i next ≡ i -ℤ next
  gap_is = let a = r.low in let b = r.high in omega (arith, ints)

  pub gap_short : lt_z (pos 0) (gap i next) ≡ true → le_z (gap i next) (pos 2) ≡ true → (i ≡ next +ℤ pos 1) ⊎ (i ≡ next +ℤ pos 2)
  gap_short s t =
      let s' : lt_z (pos 0) (i -ℤ next) ≡ true = ap (lt_z (pos 0)) (sym gap_is) ∙ s in
      let t' : le_z (i -ℤ next) (pos 2) ≡ true = ap (λ z. le_z z (pos 2)) (sym gap_is) ∙ t in
      grind (arith, ints)

  pub gap_none : lt_z (pos 0) (gap i next) ≡ false → (i ≡ next +ℤ pos 1 → ⊥) × (i ≡ next +ℤ pos 2 → ⊥)
  gap_none s = let a = r.low in let b = r.high in (λ e. grind (arith, ints), λ e. grind (arith, ints))

  pub gap_long : pos 2 <ℤ gap i next → (i ≡ next +ℤ pos 1 → ⊥) × (i ≡ next +ℤ pos 2 → ⊥)
  gap_long s = let a = r.low in let b = r.high in (λ e. omega (arith, ints), λ e. omega (arith, ints))

-- one index is listed: what is still ahead is shorter
pub shorter : (xs ys : Pairs) (p : ℤ × ℕ) → xs ≡ p ∷ ys → length ys < length xs
shorter xs ys p e = omega (arith, ap length e)

-- the same two, as the machine has the indices
module _ (ps : Pairs) (k : ℕ) (next : ℤ) (low : negsuc 274943 ≤ℤ next) (high : next ≤ℤ pos 262146) (i : ℤ) (n : ℕ) (r : Ranges i) (at : pair_at ps k ≡ Some (i, n)) where
  pub lists_zero : (i ≡ next +ℤ pos 1) ⊎ (i ≡ next +ℤ pos 2) → ahead ps k next ≡ (to_z w32 (of_z w32 next), 0) ∷ ahead ps k (to_z w32 (of_z w32 (to_z w32 (of_z w32 next) +ℤ pos 1)))
  lists_zero short =
      let a = r.low in
      let b = r.high in
      let e : next ≡ to_z w32 (of_z w32 next) = omega (arith, ints) in
      let f : next +ℤ pos 1 ≡ to_z w32 (of_z w32 (to_z w32 (of_z w32 next) +ℤ pos 1)) = elim short [ inl s ↦ omega (arith, ints) | inr s ↦ omega (arith, ints) ] in
      ahead_zero ps k next (i, n) at short
      ∙ ap (λ x. (x, 0) ∷ ahead ps k (next +ℤ pos 1)) e
      ∙ ap (λ x. (to_z w32 (of_z w32 next), 0) ∷ ahead ps k x) f

  pub lists_pair : (i ≡ next +ℤ pos 1 → ⊥) × (i ≡ next +ℤ pos 2 → ⊥) → ahead ps k next ≡ (to_z w32 (of_z w32 i), n) ∷ ahead ps (k + 1) (to_z w32 (of_z w32 (to_z w32 (of_z w32 i) +ℤ pos 1)))
  lists_pair apart =
      let a = r.low in
      let b = r.high in
      let e : i ≡ to_z w32 (of_z w32 i) = omega (arith, ints) in
      let f : i +ℤ pos 1 ≡ to_z w32 (of_z w32 (to_z w32 (of_z w32 i) +ℤ pos 1)) = omega (arith, ints) in
      ahead_pair ps k next (i, n) at apart.0 apart.1
      ∙ ap (λ x. (x, n) ∷ ahead ps (k + 1) (i +ℤ pos 1)) e
      ∙ ap (λ x. (to_z w32 (of_z w32 i), n) ∷ ahead ps (k + 1) x) f
