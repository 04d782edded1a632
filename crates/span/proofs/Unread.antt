-- The buckets still to be read, one step at a time.
use Rattle.std.proofs.Common.{◌≡◌, ℕ, zero, suc, ◌-◌, ◌^◌, ◌<◌, T, List, [], ◌∷◌, ◌++◌, length, ℤ, pos, negsuc, ◌+ℤ◌, nat_abs, ◌≤ℤ◌, sym, refl, ap, arith, w32, w64, SFits, to_z, of_z}
use lib.Signed.{le_z, le_z_yes}
use Rattle.std.proofs.lemmas.List.{nil_from_length}
use Rattle.std.proofs.lemmas.Int.{ints}
use Rattle.store.proofs.Bounds.{and_T}
use Rattle.span.specs.declared.reader.BucketReader.{BucketReader}
use Rattle.span.specs.Spans.{Spans}
use Rattle.span.specs.Readers.{reader_buckets}
use Rattle.span.specs.Reading.{consecutive, indices, listing, inside, countable, counts_fit, unread, Sound}

listing_none : (is : List ℤ) (before : ℤ) → listing is before [] ≡ []
listing_none [] before = refl
listing_none (i ∷ is) before = refl

-- with no delta left nothing is to come
pub nothing_left : (r : BucketReader) → length r.deltas.now ≡ 0 → reader_buckets r ≡ []
nothing_left r e = rw (nil_from_length r.deltas.now e) (listing_none (consecutive r.index r.left ++ indices (r.index +ℤ pos r.left) r.spans.now) r.count)

same_place : (index : ℤ) → index +ℤ pos 0 ≡ index
same_place index = omega (arith, ints)

-- a span is begun
unread_begin : (index : ℤ) (s : ℤ × ℕ) (ss : Spans) (before : ℤ) (ds : List ℤ) → unread index 0 (s ∷ ss) before ds ≡ unread (index +ℤ s.0) s.1 ss before ds
unread_begin index s ss before ds = ap (λ i. listing (indices i (s ∷ ss)) before ds) (same_place index)

-- a bucket is read
unread_next : (index : ℤ) (left : ℕ) (ss : Spans) (before d : ℤ) (ds : List ℤ) → 0 < left → unread index left ss before (d ∷ ds) ≡ (index, nat_abs (before +ℤ d)) ∷ unread (index +ℤ pos 1) (left - 1) ss (before +ℤ d) ds
unread_next index zero ss before d ds h = absurd (omega arith)
unread_next index (suc n) ss before d ds h =
    let e : suc n - 1 ≡ n = omega arith in
    let f : index +ℤ pos (suc n) ≡ index +ℤ pos 1 +ℤ pos n = omega (arith, ints) in
    rw (f, e) refl

-- what is asked of the span that is next, and of those after it
pub record Fitting (index : ℤ) (s : ℤ × ℕ) (ss : Spans) : Type 0 where
  pub low : negsuc 274943 ≤ℤ (index +ℤ s.0)
  pub high : (index +ℤ s.0 +ℤ pos s.1) ≤ℤ pos 262146
  pub ahead : T (inside (index +ℤ s.0 +ℤ pos s.1) ss)

-- indices that stay in range, the span s first
pub fitting : (index : ℤ) (s : ℤ × ℕ) (ss : Spans) → T (inside index (s ∷ ss)) → Fitting index s ss
fitting index s ss t =
    let a = and_T (le_z (negsuc 274943) (index +ℤ s.0)) _ t in
    let b = and_T (le_z (index +ℤ s.0 +ℤ pos s.1) (pos 262146)) _ a.1 in
    record { low = le_z_yes a.0; high = le_z_yes b.0; ahead = b.1 }

-- what is asked of the count that is next, and of those after it
pub record Counted (before d : ℤ) (ds : List ℤ) : Type 0 where
  pub low : pos 0 ≤ℤ (before +ℤ d)
  pub high : (before +ℤ d) ≤ℤ pos (2 ^ 63 - 1)
  pub counts : T (counts_fit (before +ℤ d) ds)

-- counts that fit, that of the delta d first
pub counted_next : (before d : ℤ) (ds : List ℤ) → T (counts_fit before (d ∷ ds)) → Counted before d ds
counted_next before d ds t =
    let a = and_T (countable (before +ℤ d)) _ t in
    let b = and_T (le_z (pos 0) (before +ℤ d)) (le_z (before +ℤ d) (pos (2 ^ 63 - 1))) a.0 in
    record { low = le_z_yes b.0; high = le_z_yes b.1; counts = a.1 }

-- where the span s is begun, what a reader keeps holds on, and the index is as the machine has it
module _ (index : ℤ) (s : ℤ × ℕ) (ss : Spans) (before : ℤ) (ds : List ℤ) (k : Sound index 0 (s ∷ ss) before ds) where
  fits : Fitting index s ss
  fits = fitting index s ss (rw (same_place index) at k.ahead)

  begun_index : SFits w32 s.0 → index +ℤ s.0 ≡ to_z w32 (of_z w32 (to_z w32 (of_z w32 index) +ℤ to_z w32 (of_z w32 s.0)))
  begun_index f = let a = k.low in let b = k.high in let l = fits.low in let h = fits.high in omega (arith, ints)

  sound_begin : Sound (index +ℤ s.0) s.1 ss before ds
  sound_begin =
      let w = k.whole in
      record { whole = omega arith; low = fits.low; high = fits.high; ahead = fits.ahead; counts = k.counts }

-- the reader r begins the span s
module _ (r : BucketReader) (s : ℤ × ℕ) (ss : Spans) (none : r.left ≡ 0) (next : r.spans.now ≡ s ∷ ss) (f : SFits w32 s.0) where
  begins : Sound r.index 0 (s ∷ ss) r.count r.deltas.now
  begins = rw (sym none, sym next) r.sound

  index_is : r.index +ℤ s.0 ≡ to_z w32 (of_z w32 (to_z w32 (of_z w32 r.index) +ℤ to_z w32 (of_z w32 s.0)))
  index_is = begun_index _ _ _ _ _ begins f

  pub begun : Sound (to_z w32 (of_z w32 (to_z w32 (of_z w32 r.index) +ℤ to_z w32 (of_z w32 s.0)))) s.1 ss r.count r.deltas.now
  begun = rw (sym index_is) (sound_begin _ _ _ _ _ begins)

  pub begun_buckets : unread (to_z w32 (of_z w32 (to_z w32 (of_z w32 r.index) +ℤ to_z w32 (of_z w32 s.0)))) s.1 ss r.count r.deltas.now ≡ reader_buckets r
  begun_buckets = rw (sym index_is, none, next) (sym (unread_begin r.index s ss r.count r.deltas.now))

-- where the delta d is read
module _ (index : ℤ) (left : ℕ) (ss : Spans) (before d : ℤ) (ds : List ℤ) (some : 0 < left) (k : Sound index left ss before (d ∷ ds)) where
  counted : Counted before d ds
  counted = counted_next before d ds k.counts

  sound_next : Sound (index +ℤ pos 1) (left - 1) ss (before +ℤ d) ds
  sound_next =
      let w = k.whole in
      let l = k.low in
      let t = k.high in
      let e : index +ℤ pos left ≡ index +ℤ pos 1 +ℤ pos (left - 1) = omega (arith, ints) in
      record { whole = omega arith; low = omega (arith, ints); high = omega (arith, ints); ahead = rw e at k.ahead; counts = counted.counts }

  yielded_index : index ≡ to_z w32 (of_z w32 index)
  yielded_index = let l = k.low in let t = k.high in omega (arith, ints)

  next_index : index +ℤ pos 1 ≡ to_z w32 (of_z w32 (to_z w32 (of_z w32 index) +ℤ pos 1))
  next_index = let l = k.low in let t = k.high in omega (arith, ints)

  next_count : SFits w64 before → SFits w64 d → before +ℤ d ≡ to_z w64 (of_z w64 (to_z w64 (of_z w64 before) +ℤ to_z w64 (of_z w64 d)))
  next_count f g = let a = counted.low in let b = counted.high in omega (arith, ints)

  -- the count is shown without a sign
  yielded_count : before +ℤ d ≡ to_z w64 (of_z w64 (before +ℤ d))
  yielded_count = let a = counted.low in let b = counted.high in omega (arith, ints)

-- the reader r reads the delta d
module _ (r : BucketReader) (d : ℤ) (ds : List ℤ) (some : 0 < r.left) (next : r.deltas.now ≡ d ∷ ds) (f : SFits w64 d) (g : SFits w64 r.count) where
  abbrev read_index : ℤ
  read_index = to_z w32 (of_z w32 (to_z w32 (of_z w32 r.index) +ℤ pos 1))

  abbrev read_count : ℤ
  read_count = to_z w64 (of_z w64 (to_z w64 (of_z w64 r.count) +ℤ to_z w64 (of_z w64 d)))

  reads : Sound r.index r.left r.spans.now r.count (d ∷ ds)
  reads = rw (sym next) r.sound

  pub has_read : Sound read_index (r.left - 1) r.spans.now read_count ds
  has_read = rw (sym (next_index _ _ _ _ _ _ some reads), sym (next_count _ _ _ _ _ _ some reads g f)) (sound_next _ _ _ _ _ _ some reads)

  pub read_buckets : reader_buckets r ≡ (to_z w32 (of_z w32 r.index), nat_abs (to_z w64 (of_z w64 read_count))) ∷ unread read_index (r.left - 1) r.spans.now read_count ds
  read_buckets =
      rw (next, sym (next_index _ _ _ _ _ _ some reads), sym (next_count _ _ _ _ _ _ some reads g f), sym (yielded_count _ _ _ _ _ _ some reads), sym (yielded_index _ _ _ _ _ _ some reads))
      (unread_next r.index r.left r.spans.now r.count d ds some)
