-- A window: what a run keeps, and what it keeps after a call.
use Rattle.std.specs.Prelude.{◌≡◌, ℕ, suc, ◌+◌, ◌-◌, ◌^◌, ◌<◌, ◌≤◌, T, List, length, replicate, ℤ, pos, ◌+ℤ◌, ◌≤ℤ◌, int_lt, refl}
use Rattle.std.proofs.Common.{sym, ap, subst, ◌∙◌, ⊎_elim, arith, lit<}
use Rattle.std.specs.Int.{int_max, int_min}
use Rattle.std.proofs.lemmas.Int.{ints}
use Rattle.std.proofs.lemmas.Bool.{cases_eq}
use Rattle.store.specs.Pairs.{Means, total, listed, ranged}
use Rattle.store.specs.Stores.{Roomy}
use Rattle.store.proofs.Order.{true_T}
use Rattle.run.specs.declared.Run.{Run}
use Rattle.run.specs.Window.{positions, index_of, counter, listing, fits_window}
use Rattle.run.specs.Listings.{rising_listing, counted_listing, ranged_listing}
use Rattle.run.specs.Circle.{counter_replicate}
use Rattle.run.specs.Rooms.{lowest_listing, highest_listing, room_between, room_empty, listed_within}

-- the ghost fields of a run, by name
pub record Window (counters : List ℕ) (first span size sum : ℕ) : Type 0 where
  pub width : span ≤ 512
  pub reach : first + span ≤ positions
  pub low : 0 < span → 0 < counter counters first
  pub high : 0 < span → 0 < counter counters (first + span - 1)
  pub unused : (k : ℕ) → first + span ≤ k → k < first + 512 → counter counters k ≡ 0
  pub sized : size ≡ length (listing (counter counters) first span)
  pub summed : sum ≡ total (listing (counter counters) first span)
  pub bounded : sum < 2 ^ 64

-- the same, as facts
abbrev pub Kept : List ℕ → ℕ → ℕ → ℕ → ℕ → Type 0
Kept counters first span size sum =
    record {
      width : span ≤ 512;
      reach : first + span ≤ positions;
      low : 0 < span → 0 < counter counters first;
      high : 0 < span → 0 < counter counters (first + span - 1);
      unused : (k : ℕ) → first + span ≤ k → k < first + 512 → counter counters k ≡ 0;
      sized : size ≡ length (listing (counter counters) first span);
      summed : sum ≡ total (listing (counter counters) first span);
      bounded : sum < 2 ^ 64;
    }

pub kept : {counters : List ℕ} {first span size sum : ℕ} → Window counters first span size sum → Kept counters first span size sum
kept w =
    record {
      width = w.width;
      reach = w.reach;
      low = w.low;
      high = w.high;
      unused = w.unused;
      sized = w.sized;
      summed = w.summed;
      bounded = w.bounded;
    }

-- those that a run is asked for: the first two are its window's own
abbrev pub KeptByRun : List ℕ → ℕ → ℕ → ℕ → ℕ → Type 0
KeptByRun counters first span size sum =
    record {
      low : 0 < span → 0 < counter counters first;
      high : 0 < span → 0 < counter counters (first + span - 1);
      unused : (k : ℕ) → first + span ≤ k → k < first + 512 → counter counters k ≡ 0;
      sized : size ≡ length (listing (counter counters) first span);
      summed : sum ≡ total (listing (counter counters) first span);
      bounded : sum < 2 ^ 64;
    }

pub kept_by_run : {counters : List ℕ} {first span size sum : ℕ} → Window counters first span size sum → KeptByRun counters first span size sum
kept_by_run w =
    let k = kept w in
    record {
      low = k.low;
      high = k.high;
      unused = k.unused;
      sized = k.sized;
      summed = k.summed;
      bounded = k.bounded;
    }

pub window_of : (run : Run) → Window run.counters run.window.first run.window.span run.size run.total
window_of run =
    record {
      width = run.window.width;
      reach = run.window.reach;
      low = run.low;
      high = run.high;
      unused = run.unused;
      sized = run.sized;
      summed = run.summed;
      bounded = run.bounded;
    }

-- nothing listed
pub window_new : Window (replicate 512 0) 0 0 0 0
window_new =
    record {
      width = omega arith;
      reach = omega arith;
      low = λ h. omega arith;
      high = λ h. omega arith;
      unused = λ k h l. counter_replicate k;
      sized = refl;
      summed = refl;
      bounded = lit< tt;
    }

-- room, by the ends of the window
pub window_room : {cs : List ℕ} {first span size sum : ℕ} (i : ℤ) → Window cs first span size sum → 0 < span → fits_window (listing (counter cs) first span) i ≡ int_lt (int_max (index_of (first + span - 1)) i) (int_min (index_of first) i +ℤ pos 512)
window_room {cs} {first} {span} i w h =
    let q : suc (span - 1) ≡ span = omega arith in
    let r : first + (span - 1) ≡ first + span - 1 = omega arith in
    let top : 0 < counter cs (first + (span - 1)) = subst (λ k. 0 < counter cs k) (sym r) (w.high h) in
    let lo = lowest_listing (counter cs) first span i h (w.low h) in
    let hi = highest_listing (counter cs) first (span - 1) i top in
    cc

-- a store of this window keeps the laws of stores
pub window_means : {cs : List ℕ} {first span size sum : ℕ} → Window cs first span size sum → Means (listing (counter cs) first span)
window_means {cs} {first} {span} w =
    record {
      rises = rising_listing (counter cs) first span;
      counts = counted_listing (counter cs) first span;
      bounded = let e = w.summed in let h = w.bounded in omega arith;
    }

pub window_ranged : {cs : List ℕ} {first span size sum : ℕ} → Window cs first span size sum → T (ranged (listing (counter cs) first span))
window_ranged {cs} {first} {span} w = ranged_listing (counter cs) first span w.reach

pub window_roomy : {cs : List ℕ} {first span size sum : ℕ} → Window cs first span size sum → Roomy (listing (counter cs) first span) (fits_window (listing (counter cs) first span))
window_roomy {cs} {first} {span} w =
    record {
      for_listed = λ i t.
          let in_it = listed_within (counter cs) first span i t in
          let wide = w.width in
          ⊎_elim
          (λ (e : span ≡ 0). absurd (subst (λ n. T (listed i (listing (counter cs) first n))) e t))
          (λ n.
          let h : 0 < span = omega arith in
          let lo : index_of first ≤ℤ index_of (first + span - 1) = omega (arith, ints) in
          let hi : index_of (first + span - 1) ≤ℤ (index_of first +ℤ pos 511) = omega (arith, ints) in
          let near : index_of (first + span - 1) ≤ℤ (i +ℤ pos 511) = omega (arith, ints) in
          let far : i ≤ℤ (index_of first +ℤ pos 511) = omega (arith, ints) in
          true_T _ (window_room i w h ∙ room_between (index_of first) (index_of (first + span - 1)) i lo hi near far))
          (cases_eq span 0);
      when_empty = λ e i t. true_T _ (ap (λ ps. fits_window ps i) e ∙ room_empty i);
    }
