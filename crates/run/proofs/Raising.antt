-- What a window keeps when a count is raised.
use Rattle.std.proofs.Common.{◌≡◌, ℕ, ◌+◌, ◌-◌, ◌%◌, ◌^◌, ◌<◌, ◌≤◌, true, ◌⊎◌, List, length, set, ℤ, None, sym, refl, ap, ◌∙◌, subst, inl, inr, ⊎_elim, arith}
use Rattle.std.proofs.lemmas.Int.{ints}
use Rattle.std.proofs.lemmas.Bool.{cases_eq, cases_lt}
use Rattle.std.proofs.lemmas.Bool.Decides.{nat_tests}
use Rattle.index.specs.Index.{in_index_range}
use Rattle.store.specs.Pairs.{Pairs, total}
use Rattle.store.specs.Stores.{Room, add_refusal}
use Rattle.run.specs.Window.{positions, index_of, counter, listing, raised_by, fits_window, Near, Widened}
use Rattle.run.specs.Listings.{listing_none, listing_below, listing_above, listing_raised, used, used_more, total_listing, length_listing, sum_change, sum_part}
use Rattle.run.specs.Circle.{counter_same_place, counter_all_unused, counter_set_same, counter_set_other}
use Rattle.run.specs.Rooms.{room_below}
use Rattle.run.specs.Windows.{Window, window_room}

-- an index that nothing refuses
pub unrefused : (ps : Pairs) (room : Room) (i : ℤ) → add_refusal ps room i ≡ None → (in_index_range i ≡ true) × (total ps < 2 ^ 64 - 1) × (room i ≡ true)
unrefused ps room i e = grind (arith, nat_tests)

-- an index with room is near the window
pub near_room : {cs : List ℕ} {first span size sum : ℕ} (at : ℕ) (i : ℤ) → Window cs first span size sum → index_of at ≡ i → fits_window (listing (counter cs) first span) i ≡ true → Near first span at
near_room {cs} {first} {span} at i w e t h =
    let both = room_below (index_of first) (index_of (first + span - 1)) i (sym (window_room i w h) ∙ t) in
    (omega (arith, ints), omega (arith, ints))

module _ {cs : List ℕ} {first span size sum at first' span' : ℕ} (w : Window cs first span size sum) (v : Widened first span at first' span') where
  -- around the old window all counters are 0
  around : (k : ℕ) → first' ≤ k → k < first' + 512 → (k < first) ⊎ (first + span ≤ k) → counter cs k ≡ 0
  around k h l o =
      ⊎_elim
      (λ (e : span ≡ 0). counter_all_unused cs first (λ j a b. w.unused j (omega arith) b) k)
      (λ n.
      let some : 0 < span = omega arith in
      let lo = v.lower some in
      let up = v.upper some in
      let wide = v.wide in
      ⊎_elim
      (λ below. counter_same_place cs (k + 512) k (omega arith) ∙ w.unused (k + 512) (omega arith) (omega arith))
      (λ above. w.unused k above (omega arith))
      o)
      (cases_eq span 0)

  -- so the wider window lists the same
  listing_widened : listing (counter cs) first' span' ≡ listing (counter cs) first span
  listing_widened =
      let wide = v.wide in
      ⊎_elim
      (λ (e : span ≡ 0).
      listing_none (counter cs) first' span' (λ k a b. counter_all_unused cs first (λ j x y. w.unused j (omega arith) y) k)
      ∙ ap (listing (counter cs) first) (sym e))
      (λ n.
      let some : 0 < span = omega arith in
      let lo = v.lower some in
      let up = v.upper some in
      let p : span' ≡ (first - first') + (span + (first' + span' - (first + span))) = omega arith in
      let q : first' + (first - first') ≡ first = omega arith in
      ap (listing (counter cs) first') p
      ∙ listing_below (counter cs) first' (first - first') (span + (first' + span' - (first + span))) (λ k a b. around k a (omega arith) (inl (omega arith)))
      ∙ ap (λ a. listing (counter cs) a (span + (first' + span' - (first + span)))) q
      ∙ listing_above (counter cs) first span (first' + span' - (first + span)) (λ k a b. around k (omega arith) (omega arith) (inr a)))
      (cases_eq span 0)

  -- no counter passes the sum
  pub counter_part : counter cs at ≤ sum
  counter_part =
      let x = total_listing (counter cs) first' span' in
      let z = ap total listing_widened in
      let s = w.summed in
      let t = sum_part (counter cs) first' span' at v.from v.to in
      omega arith

  module _ (long : length cs ≡ 512) (by : ℕ) (more : 0 < by) where
    -- the counters after
    abbrev after : ℕ → ℕ
    after = counter (set cs (at % 512) (counter cs at + by))

    raised_counter : after at ≡ counter cs at + by
    raised_counter = counter_set_same cs at (counter cs at + by) long

    other_counter : (k : ℕ) → first' ≤ k → k < first' + 512 → (k ≡ at → ⊥) → after k ≡ counter cs k
    other_counter k h l n =
        let a = v.from in
        let b = v.to in
        let c = v.wide in
        counter_set_other cs first' at k (counter cs at + by) a (omega arith) h l n

    -- a counter that was used still is
    still_used : (k : ℕ) → first' ≤ k → k < first' + 512 → (k ≡ at) ⊎ (0 < counter cs k) → 0 < after k
    still_used k h l o =
        ⊎_elim
        (λ e. let x : after k ≡ counter cs at + by = ap after e ∙ raised_counter in omega arith)
        (λ n.
        let x = other_counter k h l n in
        ⊎_elim (λ e. absurd (n e)) (λ u. omega arith) o)
        (cases_eq k at)

    pub raises : listing after first' span' ≡ raised_by (index_of at) by (listing (counter cs) first span)
    raises =
        let c = v.wide in
        listing_raised (counter cs) after first' span' at by v.from v.to more raised_counter
        (λ k h l n. other_counter k h (omega arith) n)
        ∙ ap (raised_by (index_of at) by) listing_widened

    pub raises_window : (size' : ℕ) → at < positions → size' + used (counter cs at) ≡ size + 1 → sum + by < 2 ^ 64 → Window (set cs (at % 512) (counter cs at + by)) first' span' size' (sum + by)
    raises_window size' small counts full =
        let f = counter cs in
        let from = v.from in
        let to = v.to in
        let wide = v.wide in
        let reach = w.reach in
        record {
          width = wide;
          reach = ⊎_elim (λ e. omega arith) (λ e. omega arith) v.high_end;
          low = λ h. still_used first' (omega arith) (omega arith)
              (⊎_elim inl (λ e. inr (subst (λ k. 0 < f k) (sym e.1) (w.low e.0))) v.low_end);
          high = λ h. still_used (first' + span' - 1) (omega arith) (omega arith)
              (⊎_elim (λ e. inl (omega arith))
              (λ e. inr (subst (λ k. 0 < f (k - 1)) (sym e.1) (w.high e.0)))
              v.high_end);
          unused = λ k h l.
              other_counter k (omega arith) l (λ e. omega arith)
              ∙ around k (omega arith) l (⊎_elim (λ (e : span ≡ 0). ⊎_elim inl (λ x. inr (omega arith)) (cases_lt k first)) (λ n. let up = v.upper (omega arith) in inr (omega arith)) (cases_eq span 0));
          sized =
              let x = length_listing f first' span' in
              let y = length_listing after first' span' in
              let z = ap length listing_widened in
              let s = w.sized in
              let one : used (after at) ≡ 1 = used_more (after at) (still_used at from (omega arith) (inl refl)) in
              let t = sum_change (λ k. used (f k)) (λ k. used (after k)) first' span' at from to
              (λ k a b n. ap used (other_counter k a (omega arith) n)) in
              omega arith;
          summed =
              let x = total_listing f first' span' in
              let y = total_listing after first' span' in
              let z = ap total listing_widened in
              let s = w.summed in
              let one = raised_counter in
              let t = sum_change f after first' span' at from to (λ k a b n. other_counter k a (omega arith) n) in
              omega arith;
          bounded = full;
        }
