-- One more bucket: what it does to the spans, the deltas and the buffers.
use Rattle.std.proofs.Common.{◌≡◌, ℕ, suc, ◌+◌, ◌<◌, ◌≤◌, Bool, true, false, cond, List, [], ◌∷◌, ◌++◌, length, get_or, drop, set, ℤ, pos, ◌+ℤ◌, ◌-ℤ◌, is_some, Some, unwrap_or, sym, refl, ap, ◌∙◌, append_assoc, arith}
use borrow.Author.Tests.{clash}
use Rattle.std.proofs.lemmas.List.{set_at, drop_more, length_push}
use Rattle.std.proofs.lemmas.Int.{ints}
use Rattle.std.proofs.lemmas.Grind.{common_steps}
use Rattle.std.proofs.lemmas.Bool.{cond-true}
use Rattle.store.specs.Pairs.{Pairs, same}
use Rattle.store.proofs.Order.{same_from}
use Rattle.span.specs.Spans.{Spans, spans_from, runs, differences}
use Rattle.span.specs.Writing.{laid}
use Rattle.span.proofs.Climbing.{after_from, end_of, after}

-- the last span of `before` is one longer in `after`
pub record Lengthens (before after : Spans) (most : ℕ) : Type 0 where
  pub done : Spans
  pub offset : ℤ
  pub size : ℕ
  pub was : before ≡ done ++ (offset, size) ∷ []
  pub is : after ≡ done ++ (offset, size + 1) ∷ []
  pub short : size ≤ most

more_from : (o : ℤ) (n : ℕ) (next : ℤ) (ys : Pairs) (q : ℤ × ℕ) → q.0 ≡ after_from next ys → Lengthens (spans_from o n next ys) (spans_from o n next (ys ++ q ∷ [])) (n + length ys)
more_from o n next [] q e = record { done = []; offset = o; size = n; was = refl; is = cond-true (same q.0 next) _ _ (same_from q.0 next e); short = omega arith }
more_from o n next (p ∷ ys) q e = go (same p.0 next) (more_from o (n + 1) (p.0 +ℤ pos 1) ys q e) (more_from (p.0 -ℤ next) 1 (p.0 +ℤ pos 1) ys q e)
  where
    go : {a b a' b' : Spans} (t : Bool) → Lengthens a a' (n + 1 + length ys) → Lengthens b b' (1 + length ys) → Lengthens (cond t a ((o, n) ∷ b)) (cond t a' ((o, n) ∷ b')) (n + suc (length ys))
    go true r _ =
        let s = r.short in
        record { done = r.done; offset = r.offset; size = r.size; was = r.was; is = r.is; short = omega arith }
    go false _ r =
        let s = r.short in
        record { done = (o, n) ∷ r.done; offset = r.offset; size = r.size; was = ap (λ xs. (o, n) ∷ xs) r.was; is = ap (λ xs. (o, n) ∷ xs) r.is; short = omega arith }

new_from : (o : ℤ) (n : ℕ) (next : ℤ) (ys : Pairs) (q : ℤ × ℕ) → (q.0 ≡ after_from next ys → ⊥) → spans_from o n next (ys ++ q ∷ []) ≡ spans_from o n next ys ++ (q.0 -ℤ after_from next ys, 1) ∷ []
new_from o n next [] q e = grind (arith, ints)
new_from o n next (p ∷ ys) q e = grind (arith, common_steps, new_from o (n + 1) (p.0 +ℤ pos 1) ys q, new_from (p.0 -ℤ next) 1 (p.0 +ℤ pos 1) ys q)

some_from : (o : ℤ) (n : ℕ) (next : ℤ) (ys : Pairs) → 0 < length (spans_from o n next ys)
some_from o n next [] = omega arith
some_from o n next (p ∷ ys) = grind (arith, some_from o (n + 1) (p.0 +ℤ pos 1) ys)

-- an index right after the last lengthens the last span
pub runs_more : (ys : Pairs) (q : ℤ × ℕ) → end_of ys ≡ Some q.0 → Lengthens (runs ys) (runs (ys ++ q ∷ [])) (length ys)
runs_more [] q e = absurd (clash (ap is_some e))
runs_more (p ∷ ys) q e =
    let r = more_from p.0 1 (p.0 +ℤ pos 1) ys q (ap (λ o. unwrap_or o q.0) (sym e)) in
    let s = r.short in
    record { done = r.done; offset = r.offset; size = r.size; was = r.was; is = r.is; short = omega arith }

-- any other index, and the first, starts a span
pub runs_new : (ys : Pairs) (q : ℤ × ℕ) → (end_of ys ≡ Some q.0 → ⊥) → runs (ys ++ q ∷ []) ≡ runs ys ++ (q.0 -ℤ after ys, 1) ∷ []
runs_new [] q h = ap (λ i. (i, 1) ∷ []) (let e : q.0 ≡ q.0 -ℤ pos 0 = omega (arith, ints) in e)
runs_new (p ∷ ys) q h = new_from p.0 1 (p.0 +ℤ pos 1) ys q (λ e. h (ap (λ x. Some x) (sym e)))

grows_from : (o : ℤ) (n : ℕ) (next : ℤ) (ys zs : Pairs) → length (spans_from o n next ys) ≤ length (spans_from o n next (ys ++ zs))
grows_from o n next [] zs = some_from o n next zs
grows_from o n next (p ∷ ys) zs = grind (arith, grows_from o (n + 1) (p.0 +ℤ pos 1) ys zs, grows_from (p.0 -ℤ next) 1 (p.0 +ℤ pos 1) ys zs)

pub runs_grow : (ys zs : Pairs) → length (runs ys) ≤ length (runs (ys ++ zs))
runs_grow [] zs = omega arith
runs_grow (p ∷ ys) zs = grows_from p.0 1 (p.0 +ℤ pos 1) ys zs

few_from : (o : ℤ) (n : ℕ) (next : ℤ) (ys : Pairs) → length (spans_from o n next ys) ≤ suc (length ys)
few_from o n next [] = omega arith
few_from o n next (p ∷ ys) = grind (arith, few_from o (n + 1) (p.0 +ℤ pos 1) ys, few_from (p.0 -ℤ next) 1 (p.0 +ℤ pos 1) ys)

pub runs_few : (ys : Pairs) → length (runs ys) ≤ length ys
runs_few [] = omega arith
runs_few (p ∷ ys) = few_from p.0 1 (p.0 +ℤ pos 1) ys

-- the last count, which is `before` where there is none
abbrev pub last_count : ℕ → Pairs → ℕ
last_count before [] = before
last_count before (p ∷ ps) = last_count p.1 ps

pub last_more : (before : ℕ) (ys : Pairs) (q : ℤ × ℕ) → last_count before (ys ++ q ∷ []) ≡ q.1
last_more before [] q = refl
last_more before (p ∷ ys) q = last_more p.1 ys q

pub differences_more : (before : ℕ) (ys : Pairs) (q : ℤ × ℕ) → differences before (ys ++ q ∷ []) ≡ differences before ys ++ (pos q.1 -ℤ pos (last_count before ys)) ∷ []
differences_more before [] q = refl
differences_more before (p ∷ ys) q = ap (λ xs. (pos p.1 -ℤ pos before) ∷ xs) (differences_more p.1 ys q)

pub length_differences : (before : ℕ) (ys : Pairs) → length (differences before ys) ≡ length ys
length_differences before [] = refl
length_differences before (p ∷ ys) = ap suc (length_differences p.1 ys)

-- what is written at the start of a buffer
module _ {X : Type 0} (xs buffer : List X) where
  pub laid_more : (x : X) → length xs < length buffer → set (laid xs buffer) (length xs) x ≡ laid (xs ++ x ∷ []) buffer
  laid_more x h =
      ap (λ ys. set (xs ++ ys) (length xs) x) (drop_more buffer (length xs) x h)
      ∙ set_at xs _ _ x (length xs) refl
      ∙ ap (λ n. xs ++ x ∷ drop n buffer) (sym (length_push xs x))
      ∙ sym (append_assoc xs (x ∷ []) _)

  pub laid_last : (x y : X) → set (laid (xs ++ x ∷ []) buffer) (length xs) y ≡ laid (xs ++ y ∷ []) buffer
  laid_last x y =
      ap (λ ys. set ys (length xs) y) (append_assoc xs (x ∷ []) _)
      ∙ set_at xs x _ y (length xs) refl
      ∙ ap (λ n. xs ++ y ∷ drop n buffer) (length_push xs x ∙ sym (length_push xs y))
      ∙ sym (append_assoc xs (y ∷ []) _)

  pub laid_at : (x d : X) → get_or (laid (xs ++ x ∷ []) buffer) (length xs) d ≡ x
  laid_at x d = grind (arith, common_steps)
