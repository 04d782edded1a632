-- What filing a reading does to a plug.
use Rattle.std.specs.Prelude.{◌≡◌, ℕ, ◌+◌, ◌-◌, ◌^◌, cond, not, T, [], ℤ, ◌≤ℤ◌, Some, None, Ok, Err, Option, Result, is_nan, Float}
use Rattle.std.specs.Float.Ieee.{lt}
use Rattle.double.specs.Double.{zero_double}
use Rattle.schema.specs.Bounds.{bound, index_of, nonzero}
use Rattle.schema.specs.declared.kinds.Schema.{Schema}
use Rattle.store.specs.Faults.{refusal}
use Rattle.store.specs.Pairs.{Pairs, raised, listed}
use Rattle.store.specs.Stores.{add_refusal}
use Rattle.store.specs.declared.faults.StoreFault.{StoreFault}
use Rattle.store.specs.declared.faults.StoreFault.TheVariants.{Full}
use Rattle.hub.specs.declared.chosen.StoreKind.{StoreKind}
use Rattle.hub.specs.declared.chosen.Buckets.{Buckets}
use Rattle.hub.specs.declared.filing.Filed.{Filed}
use Rattle.hub.specs.declared.filing.Filed.TheVariants.{Bucket, Zero, NotANumber}
use Rattle.hub.specs.declared.filing.Side.{Side}
use Rattle.hub.specs.declared.filing.Side.TheVariants.{Positive, Negative}
use Rattle.hub.specs.declared.plugs.Plug.{Plug}
use Rattle.hub.specs.Chosen.{pairs_in, room_in, kind_of}

-- the side of a number other than zero
abbrev pub side_of : Float → Side
side_of v = cond (lt v zero_double) Negative Positive

abbrev pub opposite : Side → Side
opposite Positive = Negative
opposite Negative = Positive

-- the store of a side
abbrev pub store_of : Side → Plug → Buckets
store_of Positive p = p.positive
store_of Negative p = p.negative

-- a plug with no readings, whose stores are of the kind
pub record Empty (kind : StoreKind) (schema : Schema) (p : Plug) : Type 0 where
  pub schema_is : p.schema ≡ schema
  pub kinds : (side : Side) → kind_of (store_of side p) ≡ kind
  pub none : (side : Side) → pairs_in (store_of side p) ≡ []
  pub no_zeros : p.zeros ≡ 0
  pub no_readings : p.readings ≡ 0

-- q is p, in all that is kept
pub record Unchanged (p q : Plug) : Type 0 where
  pub schema : q.schema ≡ p.schema
  pub stores : (side : Side) → store_of side q ≡ store_of side p
  pub zeros : q.zeros ≡ p.zeros
  pub readings : q.readings ≡ p.readings

-- q is p with one reading more, in bucket i of a side: nothing else is changed
pub record Raises (p : Plug) (side : Side) (i : ℤ) (q : Plug) : Type 0 where
  pub schema : q.schema ≡ p.schema
  pub count : pairs_in (store_of side q) ≡ raised i (pairs_in (store_of side p))
  pub other : store_of (opposite side) q ≡ store_of (opposite side) p
  pub zeros : q.zeros ≡ p.zeros
  pub readings : q.readings ≡ p.readings + 1

-- q is p with one zero more
pub record ZeroMore (p q : Plug) : Type 0 where
  pub schema : q.schema ≡ p.schema
  pub stores : (side : Side) → store_of side q ≡ store_of side p
  pub zeros : q.zeros ≡ p.zeros + 1
  pub readings : q.readings ≡ p.readings + 1

-- why bucket i of a side is not raised, if it is not
abbrev pub side_refusal : Plug → Side → ℤ → Option (ℕ × ℤ)
side_refusal p side i = add_refusal (pairs_in (store_of side p)) (room_in (store_of side p)) i

-- what raising bucket i of a side answers and leaves
abbrev pub Adds : Plug → Side → ℤ → Result Unit StoreFault → Plug → Type 0
Adds p side i (Ok u) q = (side_refusal p side i ≡ None) × Raises p side i q
Adds p side i (Err f) q = (side_refusal p side i ≡ Some (refusal f)) × Unchanged p q

-- what counting a zero answers and leaves
abbrev pub Zeroed : Plug → Result Unit StoreFault → Plug → Type 0
Zeroed p (Ok u) q = ZeroMore p q
Zeroed p (Err f) q = (f ≡ Full) × (p.zeros ≡ 2 ^ 64 - 1) × Unchanged p q

-- the reading v lies in bucket i of a side, whose bound is b, and was filed there
pub record InBucket (p : Plug) (v : Float) (side : Side) (i : ℤ) (b : Float) (q : Plug) : Type 0 where
  pub index_is : index_of p.schema.value v ≡ Some i
  pub side_is : side ≡ side_of v
  pub bound_is : b ≡ bound p.schema.value i
  pub allowed : side_refusal p side i ≡ None
  pub raises : Raises p side i q

-- the reading v is zero, and was counted
pub record AsZero (p : Plug) (v : Float) (q : Plug) : Type 0 where
  pub number : T (not (is_nan v))
  pub zero : T (not (nonzero v))
  pub counts : ZeroMore p q

-- why a reading was turned away with the fault f: by the store of its side, or since no more zeros can be counted
abbrev pub TurnedAway : Plug → Float → StoreFault → Option ℤ → Type 0
TurnedAway p v f (Some i) = side_refusal p (side_of v) i ≡ Some (refusal f)
TurnedAway p v f None = (f ≡ Full) × (p.zeros ≡ 2 ^ 64 - 1)

-- what filing the reading v answers and leaves
abbrev pub Files : Plug → Float → Result Filed StoreFault → Plug → Type 0
Files p v (Ok (Bucket side i b)) q = InBucket p v side i b q
Files p v (Ok Zero) q = AsZero p v q
Files p v (Ok NotANumber) q = T (is_nan v) × Unchanged p q
Files p v (Err f) q = TurnedAway p v f (index_of p.schema.value v) × Unchanged p q

-- i is the highest listed index
pub record Highest (i : ℤ) (ps : Pairs) : Type 0 where
  pub occupied : T (listed i ps)
  pub above : (j : ℤ) → T (listed j ps) → j ≤ℤ i

-- b is the bound of the highest occupied bucket above zero
pub record Load (p : Plug) (b : Float) : Type 0 where
  pub top : ℤ
  pub highest : Highest top (pairs_in p.positive)
  pub bound_is : b ≡ bound p.schema.value top
