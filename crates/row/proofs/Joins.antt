-- A pair put behind the front part of a table, or joined to the last pair there.
use Rattle.std.proofs.Common.{◌≡◌, ℕ, zero, suc, ◌+◌, ◌-◌, ◌<◌, ◌≤◌, [], ◌∷◌, ◌++◌, length, get_or, take, drop, set, ℤ, sym, refl, ap, ◌∙◌, arith}
use native.Mathlib.Numerals.{unary_clauses}
use Rattle.std.proofs.lemmas.Grind.{common_steps}
use Rattle.std.proofs.lemmas.List.{length-set, take_at, take_more, drop-drop, get_or-drop}
use Rattle.index.specs.Index.{halved}
use Rattle.store.specs.Pairs.{Pairs, total, halved_pairs, joined_last}
use Rattle.store.proofs.Parts.{joined_last_set, joined_last_push, halved_taken, total_append}

module _ (xs ys : Pairs) (n : ℕ) (a : ℤ × ℕ) (size : length xs ≡ n) where
  -- the last pair of xs is p, and takes the count of a
  pub join_meets : (p : ℤ × ℕ) → 0 < length xs → p ≡ get_or xs (length xs - 1) p → p.0 ≡ a.0 → take n (set xs (length xs - 1) (p.0, p.1 + a.1) ++ ys) ≡ joined_last xs a
  join_meets p h here e =
      take_at (set xs (length xs - 1) (p.0, p.1 + a.1)) ys n (length-set xs (length xs - 1) _ ∙ size)
      ∙ ap (λ q. set xs (length xs - 1) (q.0, q.1 + a.1)) here
      ∙ sym (joined_last_set xs (length xs - 1) p a (omega arith) (ap (λ q. q.0) (sym here) ∙ e))

  -- the last pair of xs, if there is one, has another index
  pub join_apart : (p : ℤ × ℕ) → 0 < length ys → (0 < length xs → (get_or xs (length xs - 1) p).0 ≡ a.0 → ⊥) → take (n + 1) (xs ++ set ys 0 a) ≡ joined_last xs a
  join_apart p h apart = ap (λ k. take (k + 1) (xs ++ set ys 0 a)) (sym size) ∙ pushed xs ys h ∙ sym (put xs apart)
    where
      pushed : (xs ys : Pairs) → 0 < length ys → take (length xs + 1) (xs ++ set ys 0 a) ≡ xs ++ a ∷ []
      pushed [] [] h = absurd (omega arith)
      pushed [] (y ∷ ys) h = refl
      pushed (x ∷ xs) ys h = simp unary_clauses (ap (λ zs. x ∷ zs) (simp unary_clauses at (pushed xs ys h)))

      put : (xs : Pairs) → (0 < length xs → (get_or xs (length xs - 1) p).0 ≡ a.0 → ⊥) → joined_last xs a ≡ xs ++ a ∷ []
      put [] apart = refl
      put (x ∷ xs) apart = joined_last_push (x ∷ xs) (length (x ∷ xs) - 1) p a (omega arith) (apart (omega arith))

-- the same stands behind the place n
pub beyond : (xs ys ts : Pairs) (n : ℕ) → length xs ≡ n → drop 1 ys ≡ drop 1 (drop n ts) → drop (n + 1) (xs ++ ys) ≡ drop (n + 1) ts
beyond xs ys ts n size e = grind (arith, common_steps, drop-drop 1 n (xs ++ ys), drop-drop 1 n ts)

-- tables that agree from some place on
pub drop_further : (xs ys : Pairs) (j k : ℕ) → j ≤ k → drop j xs ≡ drop j ys → drop k xs ≡ drop k ys
drop_further xs ys j k h e =
    let s : j + (k - j) ≡ k = omega arith in
    grind (arith, drop-drop (k - j) j xs, drop-drop (k - j) j ys)

pub drop_first : (xs ys : Pairs) (k : ℕ) (d : ℤ × ℕ) → drop k xs ≡ drop k ys → get_or xs k d ≡ get_or ys k d
drop_first xs ys k d e = grind (arith, get_or-drop k xs 0 d, get_or-drop k ys 0 d)

-- the total of a front part, one pair more and within a longer one
pub total_more : (xs : Pairs) (k : ℕ) (d : ℤ × ℕ) → k < length xs → total (take (k + 1) xs) ≡ total (take k xs) + (get_or xs k d).1
total_more xs k d h =
    ap total (take_more xs k d h) ∙ total_append (take k xs) (get_or xs k d ∷ []) ∙ omega arith

pub total_front : (xs : Pairs) (m n : ℕ) → m ≤ n → total (take m xs) ≤ total (take n xs)
total_front xs zero n h = omega arith
total_front [] (suc m) n h = omega arith
total_front (x ∷ xs) (suc m) zero h = absurd (omega arith)
total_front (x ∷ xs) (suc m) (suc n) h = omega (arith, total_front xs m n)

-- the first k pairs of xs are halved into the front part of a table, and its pair at k is joined to them
pub halved_step : (xs ys : Pairs) (k used : ℕ) (d : ℤ × ℕ) → k < length xs → take used ys ≡ halved_pairs (take k xs) → get_or ys k d ≡ get_or xs k d → joined_last (take used ys) (halved (get_or ys k d).0, (get_or ys k d).1) ≡ halved_pairs (take (k + 1) xs)
halved_step xs ys k used d h e f =
    ap (λ q. joined_last (take used ys) (halved q.0, q.1)) f
    ∙ ap (λ zs. joined_last zs (halved (get_or xs k d).0, (get_or xs k d).1)) e
    ∙ sym (halved_taken xs k d h)
