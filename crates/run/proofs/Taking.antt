-- What a window keeps when its lowest index is taken.
use Rattle.std.proofs.Common.{◌≡◌, ℕ, suc, ◌+◌, ◌-◌, ◌%◌, ◌<◌, ◌≤◌, List, length, set, ℤ, Some, sym, ap, ◌∙◌, ⊎_elim, arith}
use Rattle.std.proofs.lemmas.Bool.{cases_eq, cases_lt}
use Rattle.store.specs.Pairs.{total, lowest, without_lowest}
use Rattle.run.specs.Window.{index_of, counter, put_count, listing, Next}
use Rattle.run.specs.Listings.{listing_same, listing_below, lowest_here, without_here, used_more, total_counted, length_counted}
use Rattle.run.specs.Circle.{counter_same_place, counter_set_same, counter_set_other}
use Rattle.run.specs.Windows.{Window}

-- the window's ends, and the lowest pair
module _ {cs : List ℕ} {first span size sum at top : ℕ} {p : ℤ × ℕ} (w : Window cs first span size sum) (ends : (0 < span) × (at ≡ first) × (top ≡ first + span - 1)) (here : p ≡ (index_of at, counter cs at)) where
  lowest_pair : p ≡ (index_of first, counter cs first)
  lowest_pair = here ∙ ap (λ a. (index_of a, counter cs a)) ends.1

  first_listed : listing (counter cs) first span ≡ put_count (index_of first) (counter cs first) (listing (counter cs) (first + 1) (span - 1))
  first_listed = let q : span ≡ suc (span - 1) = omega arith in ap (listing (counter cs) first) q

  -- the size and the sum are those of the lowest pair and of the others
  size_parts : size ≡ 1 + length (listing (counter cs) (first + 1) (span - 1))
  size_parts =
      let a = w.sized in
      let b = ap length first_listed in
      let d = length_counted (index_of first) (counter cs first) (listing (counter cs) (first + 1) (span - 1)) in
      let one = used_more (counter cs first) (w.low ends.0) in
      omega arith

  sum_parts : sum ≡ counter cs first + total (listing (counter cs) (first + 1) (span - 1))
  sum_parts =
      w.summed
      ∙ ap total first_listed
      ∙ total_counted (index_of first) (counter cs first) (listing (counter cs) (first + 1) (span - 1))

  pub takes_lowest : Some p ≡ lowest (listing (counter cs) first span)
  takes_lowest =
      ap Some lowest_pair
      ∙ sym
      (ap lowest first_listed
      ∙ lowest_here (index_of first) (counter cs first) (listing (counter cs) (first + 1) (span - 1)) (w.low ends.0))

  pub takes_size : 1 ≤ size
  takes_size = let parts = size_parts in omega arith

  pub takes_sum : (0 < p.1) × (p.1 ≤ sum)
  takes_sum =
      let parts = sum_parts in
      let c = ap (λ q. q.1) lowest_pair in
      let used = w.low ends.0 in
      (omega arith, omega arith)

  -- the window is left from the next used counter on
  module _ (long : length cs ≡ 512) {next first' span' : ℕ} (n : Next (counter cs) (at + 1) (first + span) next) (f : first' ≡ next) (s : span' ≡ first + span - next) where
    -- the counters after
    abbrev after : ℕ → ℕ
    after = counter (set cs (at % 512) 0)

    cleared : after at ≡ 0
    cleared = counter_set_same cs at 0 long

    other_counter : (k : ℕ) → first < k → k < first + 512 → after k ≡ counter cs k
    other_counter k h l = counter_set_other cs first at k 0 (omega arith) (omega arith) (omega arith) l (λ q. omega arith)

    rest_kept : listing after first' span' ≡ listing (counter cs) (first + 1) (span - 1)
    rest_kept =
        let from = n.from in
        let to = n.to in
        let wide = w.width in
        let p : span - 1 ≡ (first' - (first + 1)) + span' = omega arith in
        let q : first + 1 + (first' - (first + 1)) ≡ first' = omega arith in
        sym
        (ap (listing (counter cs) (first + 1)) p
        ∙ listing_below (counter cs) (first + 1) (first' - (first + 1)) span' (λ k h l. n.none k (omega arith) (omega arith))
        ∙ ap (λ a. listing (counter cs) a span') q
        ∙ listing_same (counter cs) after first' span' (λ k h l. sym (other_counter k (omega arith) (omega arith))))

    pub takes_rest : listing after first' span' ≡ without_lowest (listing (counter cs) first span)
    takes_rest =
        rest_kept
        ∙ sym
        (ap without_lowest first_listed
        ∙ without_here (index_of first) (counter cs first) (listing (counter cs) (first + 1) (span - 1)) (w.low ends.0))

    pub takes_window : Window (set cs (at % 512) 0) first' span' (size - 1) (sum - p.1)
    takes_window =
        let from = n.from in
        let to = n.to in
        let wide = w.width in
        let reach = w.reach in
        record {
          width = omega arith;
          reach = omega arith;
          low = λ h. let x = other_counter first' (omega arith) (omega arith) in let y = n.here (omega arith) in let z = ap (counter cs) f in omega arith;
          high = λ h.
              let q : first' + span' - 1 ≡ first + span - 1 = omega arith in
              let x = other_counter (first + span - 1) (omega arith) (omega arith) in
              let y = w.high ends.0 in
              let z = ap after q in
              omega arith;
          unused = λ k h l.
              ⊎_elim
              (λ near. other_counter k (omega arith) near ∙ w.unused k (omega arith) near)
              (λ far.
              counter_same_place (set cs (at % 512) 0) (k - 512) k (omega arith)
              ∙ ⊎_elim
              (λ e. ap after e ∙ cleared)
              (λ ne. other_counter (k - 512) (omega arith) (omega arith) ∙ n.none (k - 512) (omega arith) (omega arith))
              (cases_eq (k - 512) at))
              (cases_lt k (first + 512));
          sized = let a = size_parts in let b = ap length rest_kept in omega arith;
          summed = let a = sum_parts in let b = ap total rest_kept in let d = ap (λ q. q.1) lowest_pair in omega arith;
          bounded = let a = w.bounded in omega arith;
        }
