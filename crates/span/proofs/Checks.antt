-- What the checks of an opening tell.
use Rattle.std.proofs.Common.{◌≡◌, ℕ, ◌+◌, ◌-◌, ◌^◌, ◌<◌, ◌≤◌, Bool, true, false, cond, ◌&&◌, T, eqb, ltb, ◌⊎◌, List, [], ◌∷◌, length, get_or, drop, ℤ, pos, negsuc, ◌+ℤ◌, ◌-ℤ◌, ◌≤ℤ◌, Some, None, Option, sym, refl, ap, ◌∙◌, inl, inr, nat_abs, ltb-false, arith, w32, w64, Fits, SFits, to_z, of_z}
use lib.Signed.{le_z, lt_z, le_z_yes}
use Rattle.std.proofs.lemmas.List.{at_drop_more}
use Rattle.std.proofs.lemmas.Int.{ints, to_z-of_z}
use Rattle.std.proofs.lemmas.Bool.{cond-true, cond-false, and_parts, and_from, and_left, and_right, eqb-false, ne_eqb}
use Rattle.index.specs.Index.{in_index_range}
use Rattle.store.proofs.Order.{true_T}
use Rattle.span.specs.Faults.{either}
use Rattle.span.specs.Spans.{Spans}
use Rattle.span.specs.Readers.{Passes}
use Rattle.span.specs.Reading.{lengths_refusal, span_refusal, spans_refusal, lone, lone_or_refusal, countable, counts_refusal, inside, counts_fit, Sound}
use Rattle.span.proofs.Filling.{Ranges, ranges}

-- of two refusals there is none
pub none_both : (a b : Option (ℕ × ℤ)) → either a b ≡ None → (a ≡ None) × (b ≡ None)
none_both (Some f) b e = absurd (let z : ◌≡◌ {A = ℕ} 0 1 = cc in omega arith)
none_both None b e = (refl, e)

-- two refusals are none where each is
pub none_from : (a b : Option (ℕ × ℤ)) → a ≡ None → b ≡ None → either a b ≡ None
none_from a b e f = ap (λ x. either x b) e ∙ f

-- a `cond` that refuses unless the test passes
pub passes : (t : Bool) (f : ℕ × ℤ) (o : Option (ℕ × ℤ)) → cond t o (Some f) ≡ None → (t ≡ true) × (o ≡ None)
passes true f o e = (refl, e)
passes false f o e = absurd (let z : ◌≡◌ {A = ℕ} 0 1 = cc in omega arith)

-- one that refuses where it does
fails : (t : Bool) (f : ℕ × ℤ) (o : Option (ℕ × ℤ)) → cond t (Some f) o ≡ None → (t ≡ false) × (o ≡ None)
fails true f o e = absurd (let z : ◌≡◌ {A = ℕ} 0 1 = cc in omega arith)
fails false f o e = (refl, e)

-- a span that passes is not empty: its first and its last index are in range
pub record Spanned (next : ℤ) (s : ℤ × ℕ) : Type 0 where
  pub some : 0 < s.1
  pub first : Ranges (next +ℤ s.0)
  pub last : Ranges (next +ℤ s.0 +ℤ pos s.1 -ℤ pos 1)

-- a span that is not refused is such
pub spanned : (k : ℕ) (next : ℤ) (s : ℤ × ℕ) → span_refusal k next s ≡ None → Spanned next s
spanned k next s e =
    let a = fails (eqb s.1 0) _ _ e in
    let b = fails (ltb 0 k && lt_z s.0 (pos 0)) _ _ a.1 in
    let c = passes (in_index_range (next +ℤ s.0) && in_index_range (next +ℤ s.0 +ℤ pos s.1 -ℤ pos 1)) _ _ b.1 in
    let d = and_parts (in_index_range (next +ℤ s.0)) (in_index_range (next +ℤ s.0 +ℤ pos s.1 -ℤ pos 1)) c.0 in
    let n = eqb-false s.1 0 a.0 in
    record { some = omega arith; first = ranges _ (true_T _ d.0); last = ranges _ (true_T _ d.1) }

-- the index after such a span is in range, or right after it
pub spanned_low : (next : ℤ) (s : ℤ × ℕ) → Spanned next s → negsuc 274943 ≤ℤ (next +ℤ s.0 +ℤ pos s.1)
spanned_low next s p = let a = p.first.low in let b = p.some in omega (arith, ints)

pub spanned_high : (next : ℤ) (s : ℤ × ℕ) → Spanned next s → (next +ℤ s.0 +ℤ pos s.1) ≤ℤ pos 262146
spanned_high next s p = let a = p.last.high in omega (arith, ints)

inside_spans : (k : ℕ) (next : ℤ) (ss : Spans) → spans_refusal k next ss ≡ None → T (inside next ss)
inside_spans k next [] e = tt
inside_spans k next (s ∷ ss) e = grind (arith, ints, inside_spans (k + 1) (next +ℤ s.0 +ℤ pos s.1) ss)

inside_lone : (ss : Spans) → lone ss ≡ true → T (inside (pos 0) ss)
inside_lone [] e = tt
inside_lone (s ∷ []) e = grind (arith, ints)
inside_lone (s ∷ t ∷ ss) e = grind arith

inside_all : (ss : Spans) → lone_or_refusal ss ≡ None → T (inside (pos 0) ss)
inside_all ss e = grind (arith, inside_lone ss, inside_spans 0 (pos 0) ss)

counts_all : (k : ℕ) (before : ℤ) (ds : List ℤ) → counts_refusal k before ds ≡ None → T (counts_fit before ds)
counts_all k before [] e = tt
counts_all k before (d ∷ ds) e = grind (arith, ints, counts_all (k + 1) (before +ℤ d) ds)

-- where nothing is refused, a reader may begin
pub sound_start : (ss : Spans) (ds : List ℤ) → lengths_refusal ss ds ≡ None → lone_or_refusal ss ≡ None → counts_refusal 0 (pos 0) ds ≡ None → Sound (pos 0) 0 ss (pos 0) ds
sound_start ss ds e f g =
    record { whole = grind arith; low = omega (arith, ints); high = omega (arith, ints); ahead = inside_all ss f; counts = counts_all 0 (pos 0) ds g }

-- a span does not go back where it is the first, or its offset is not negative
pub onward : (k : ℕ) (z : ℤ) → SFits w32 z → (k ≤ 0) ⊎ (lt_z (to_z w32 (of_z w32 z)) (pos 0) ≡ false) → (ltb 0 k && lt_z z (pos 0)) ≡ false
onward k z f h = grind (arith, ints)

-- the same of a number that the machine has
pub onward_first : (k z : ℤ) → lt_z (pos 0) (to_z w64 (of_z w64 k)) ≡ false → SFits w64 k → pos 0 ≤ℤ k → (ltb 0 (nat_abs k) && lt_z z (pos 0)) ≡ false
onward_first (pos n) z e f h =
    let g : n ≡ 0 = zero n (ap (lt_z (pos 0)) (sym (to_z-of_z w64 (pos n) f)) ∙ e) in
    ap (λ m. ltb 0 m && lt_z z (pos 0)) g
  where
    zero : (n : ℕ) → ltb 0 n ≡ false → n ≡ 0
    zero n e = let l = ltb-false 0 n e in omega arith
onward_first (negsuc n) z e f h = absurd (omega (arith, ints))

pub onward_offset : (k z : ℤ) → lt_z (to_z w32 (of_z w32 z)) (pos 0) ≡ false → SFits w32 z → (ltb 0 (nat_abs k) && lt_z z (pos 0)) ≡ false
onward_offset k z e f = onward (nat_abs k) z f (inr e)

-- the index after a span, as the machine adds it up
pub after_is : (k : ℕ) (next : ℤ) (s : ℤ × ℕ) → negsuc 274943 ≤ℤ next → next ≤ℤ pos 262146 → SFits w32 s.0 → Fits w32 s.1 → to_z w64 (of_z w64 (to_z w64 (of_z w64 (to_z w64 (of_z w64 next) +ℤ to_z w64 (of_z w64 (to_z w32 (of_z w32 s.0))))) +ℤ to_z w64 s.1)) ≡ next +ℤ s.0 +ℤ pos s.1
after_is k next s low high f g = omega (arith, ints)

-- the tests of a span, as the machine has its numbers
module _ (k : ℕ) (next : ℤ) (s : ℤ × ℕ) (low : negsuc 274943 ≤ℤ next) (high : next ≤ℤ pos 262146) (f : SFits w32 s.0) (g : Fits w32 s.1) {offset len : ℤ} (e : offset ≡ to_z w32 (of_z w32 s.0)) (l : len ≡ pos s.1) where
  abbrev pub first : ℤ
  first = to_z w64 (of_z w64 (to_z w64 (of_z w64 next) +ℤ to_z w64 (of_z w64 offset)))

  abbrev pub after : ℤ
  after = to_z w64 (of_z w64 (first +ℤ to_z w64 (of_z w64 len)))

  abbrev pub last : ℤ
  last = to_z w64 (of_z w64 (after -ℤ pos 1))

  first_is : first ≡ next +ℤ s.0
  first_is = omega (arith, ints)

  last_is : last ≡ next +ℤ s.0 +ℤ pos s.1 -ℤ pos 1
  last_is = omega (arith, ints)

  -- where its length is not 0 and it does not go back
  module _ (some : s.1 ≡ 0 → ⊥) (on : (ltb 0 k && lt_z s.0 (pos 0)) ≡ false) where
    reaches : span_refusal k next s ≡ cond (in_index_range first && in_index_range last) None (Some (14, pos k))
    reaches = cond-false _ _ _ (ne_eqb s.1 0 some) ∙ cond-false _ _ _ on ∙ (λ i. cond (in_index_range (sym first_is i) && in_index_range (sym last_is i)) None (Some (14, pos k)))

    pub reaches_in : in_index_range first ≡ true → in_index_range last ≡ true → span_refusal k next s ≡ None
    reaches_in a b = reaches ∙ cond-true _ _ _ (and_from _ _ a b)

    pub reaches_out : (in_index_range first ≡ false) ⊎ (in_index_range last ≡ false) → span_refusal k next s ≡ Some (14, pos k)
    reaches_out (inl a) = reaches ∙ cond-false _ _ _ (and_left _ _ a)
    reaches_out (inr b) = reaches ∙ cond-false _ _ _ (and_right _ _ b)

-- one more span
module _ {next : ℤ} (low : negsuc 274943 ≤ℤ next) (ss : Spans) (k : ℕ) (d : ℤ × ℕ) (within : k < length ss) where
  abbrev here : ℤ × ℕ
  here = get_or ss k d

  spans_step : spans_refusal k next (drop k ss) ≡ either (span_refusal k next here) (spans_refusal (k + 1) (next +ℤ here.0 +ℤ pos here.1) (drop (k + 1) ss))
  spans_step = at_drop_more (spans_refusal k next) ss k d within

  module _ (after : ℤ) (p : Passes k next here after) where
    passed : Spanned next here
    passed = spanned k next here p.allowed

    pub passed_low : negsuc 274943 ≤ℤ to_z w64 (of_z w64 after)
    passed_low = let a = p.follows in let l = spanned_low next here passed in let h = spanned_high next here passed in omega (arith, ints)

    pub passed_high : to_z w64 (of_z w64 after) ≤ℤ pos 262146
    passed_high = let a = p.follows in let l = spanned_low next here passed in let h = spanned_high next here passed in omega (arith, ints)

    after_back : to_z w64 (of_z w64 after) ≡ next +ℤ here.0 +ℤ pos here.1
    after_back = let a = p.follows in let l = spanned_low next here passed in let h = spanned_high next here passed in omega (arith, ints)

    pub span_passed : spans_refusal (k + 1) (to_z w64 (of_z w64 after)) (drop (k + 1) ss) ≡ spans_refusal k next (drop k ss)
    span_passed =
        ap (λ z. spans_refusal (k + 1) z (drop (k + 1) ss)) after_back
        ∙ sym (ap (λ o. either o (spans_refusal (k + 1) (next +ℤ here.0 +ℤ pos here.1) (drop (k + 1) ss))) p.allowed)
        ∙ sym spans_step

-- the first count decides first
pub counts_step : (ds : List ℤ) (k : ℕ) (before d : ℤ) → k < length ds → counts_refusal k before (drop k ds) ≡ cond (countable (before +ℤ get_or ds k d)) (counts_refusal (k + 1) (before +ℤ get_or ds k d) (drop (k + 1) ds)) (Some (15, pos k))
counts_step ds k before d h = at_drop_more (counts_refusal k before) ds k d h

-- a count in range
pub count_low : (n : ℤ) → countable n ≡ true → pos 0 ≤ℤ n
count_low n e = le_z_yes (true_T _ (and_parts (le_z (pos 0) n) (le_z n (pos (2 ^ 63 - 1))) e).0)

pub count_high : (n : ℤ) → countable n ≡ true → n ≤ℤ pos (2 ^ 63 - 1)
count_high n e = le_z_yes (true_T _ (and_parts (le_z (pos 0) n) (le_z n (pos (2 ^ 63 - 1))) e).1)
