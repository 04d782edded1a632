-- Tables whose elements move by one place.
use Rattle.std.proofs.Common.{◌≡◌, ℕ, zero, suc, ◌+◌, ◌-◌, ◌<◌, ◌≤◌, List, [], ◌∷◌, ◌++◌, length, get_or, take, drop, set, sym, refl, ap, ◌∙◌, arith}
use lib.Seq.{take-set-lt}
use Rattle.std.specs.List.{insert, copy_within}
use Rattle.std.proofs.lemmas.List.{append_assoc, length-take-le, length-drop, set-append_left, take_at, take_more_set, take-take, drop-take}
use Rattle.std.proofs.lemmas.List.Edits.{take-paste}

module _ {X : Type 0} where
  -- the elements from k to n move up, and x goes to k
  pub inserted : (xs : List X) (n k : ℕ) (x : X) → k ≤ n → n < length xs → take (n + 1) (set (copy_within xs k n (k + 1)) k x) ≡ insert (take n xs) k x
  inserted xs n k x l h =
      let moved : List X = take (n - k) (drop k xs) in
      let rest = length-drop k xs in
      let front = length-take-le (k + 1) xs (omega arith) in
      let e : n + 1 ≡ k + 1 + (n - k) = omega arith in
      let e' : n ≡ k + (n - k) = omega arith in
      let before = take-take k n xs l in
      let behind : drop k (take n xs) ≡ moved = ap (λ j. drop k (take j xs)) e' ∙ drop-take k (n - k) xs in
      take-set-lt (n + 1) (copy_within xs k n (k + 1)) k x (omega arith)
      ∙ ap (λ j. set (take j (copy_within xs k n (k + 1))) k x) e
      ∙ ap (λ ys. set ys k x) (take-paste xs (k + 1) (drop k xs) (n - k) (omega arith) (omega arith))
      ∙ set-append_left (take (k + 1) xs) moved k x (omega arith)
      ∙ ap (λ ys. ys ++ moved) (sym (take-set-lt (k + 1) xs k x (omega arith)) ∙ take_more_set xs k x (omega arith))
      ∙ append_assoc (take k xs) (x ∷ []) moved
      ∙ (cc)

  -- a second x right after x is a second x right before it
  pub inserted_twin : (xs : List X) (k : ℕ) (d : X) → k < length xs → insert xs (suc k) (get_or xs k d) ≡ insert xs k (get_or xs k d)
  inserted_twin [] k d h = absurd (omega arith)
  inserted_twin (y ∷ ys) zero d h = refl
  inserted_twin (y ∷ ys) (suc k) d h = ap (λ zs. y ∷ zs) (inserted_twin ys k d (omega arith))

  -- the elements from 1 to n move down
  pub removed : (xs : List X) (n : ℕ) → 0 < n → n ≤ length xs → take (n - 1) (copy_within xs 1 n 0) ≡ drop 1 (take n xs)
  removed xs n l h =
      let rest = length-drop 1 xs in
      let e : 1 + (n - 1) ≡ n = omega arith in
      take_at (take (n - 1) (drop 1 xs)) (drop (0 + (n - 1)) xs) (n - 1) (length-take-le (n - 1) (drop 1 xs) (omega arith))
      ∙ sym (drop-take 1 (n - 1) xs)
      ∙ ap (λ k. drop 1 (take k xs)) e
