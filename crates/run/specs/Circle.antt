-- Counters in a circle of 512: what a write to one leaves.
use Rattle.std.specs.Prelude.{◌≡◌, ℕ, ◌+◌, ◌-◌, ◌%◌, ◌<◌, ◌≤◌, List, length, replicate, ◌≢◌, slice_index, slice_set}
use Rattle.std.proofs.Common.{ap, ◌∙◌, arith}
use Rattle.std.proofs.lemmas.Nat.{mod_below}
use Rattle.std.proofs.lemmas.List.{get_or-set_same, get_or-set_other, get_or-replicate}
use Rattle.run.specs.Window.{counter}

-- positions less than 512 apart have places of their own
pub place_apart : (a i k : ℕ) → a ≤ i → i < a + 512 → a ≤ k → k < a + 512 → k % 512 ≡ i % 512 → k ≡ i
place_apart a i k h l u v e = omega arith

pub counter_same_place : (cs : List ℕ) (j k : ℕ) → k % 512 ≡ j % 512 → counter cs k ≡ counter cs j
counter_same_place cs j k e = ap (λ p. slice_index cs p) e

-- every place has a position among the 512 from a on
pub position_from : ℕ → ℕ → ℕ
position_from a k = a + (k + (512 - a % 512)) % 512

pub position_above : (a k : ℕ) → a ≤ position_from a k
unfolding position_from
position_above a k = omega arith

pub position_below : (a k : ℕ) → position_from a k < a + 512
unfolding position_from
position_below a k = omega arith

pub position_place : (a k : ℕ) → k % 512 ≡ position_from a k % 512
unfolding position_from
position_place a k = omega arith

-- where the 512 counters from a on are 0, each is
pub counter_all_unused : (cs : List ℕ) (a : ℕ) → ((k : ℕ) → a ≤ k → k < a + 512 → counter cs k ≡ 0) → (k : ℕ) → counter cs k ≡ 0
counter_all_unused cs a z k =
    counter_same_place cs (position_from a k) k (position_place a k)
    ∙ z (position_from a k) (position_above a k) (position_below a k)

pub counter_set_same : (cs : List ℕ) (i v : ℕ) → length cs ≡ 512 → counter (slice_set cs (i % 512) v) i ≡ v
counter_set_same cs i v e = get_or-set_same cs (i % 512) v 0 (let h = mod_below i 512 (omega arith) in omega arith)

pub counter_set_other : (cs : List ℕ) (a i k v : ℕ) → a ≤ i → i < a + 512 → a ≤ k → k < a + 512 → (k ≢ i) → counter (slice_set cs (i % 512) v) k ≡ counter cs k
counter_set_other cs a i k v h l u w n =
    get_or-set_other cs (i % 512) (k % 512) v 0 (λ e. n (place_apart a i k h l u w e))

pub counter_replicate : (k : ℕ) → counter (replicate 512 0) k ≡ 0
counter_replicate k = get_or-replicate 512 (k % 512) 0 0 (mod_below k 512 (omega arith))
