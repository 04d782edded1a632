use Rattle.std.proofs.Common.{◌≡◌, Ordering, ◌<◌, ◌+◌, ◌-◌, Bool, true, false, cond, ◌&&◌, pos, ℤ, ◌+ℤ◌, ◌≤ℤ◌, ◌<ℤ◌, sym, ap, ◌∙◌, ⊎_elim, arith, w32, to_z, of_z}
use lib.Signed.{le_z, lt_z}
use Rattle.std.specs.Cmp.{int_ranks}
use Rattle.std.specs.Int.{int_max, int_min}
use Rattle.std.specs.Ordering.{MatchOrdering, is_le, is_lt, int_cmp}
use Rattle.std.specs.declared.cmp.Ordering.TheVariants.{Less, Equal, Greater}
use Rattle.std.specs.Range.{range_inclusive_start, range_inclusive_end}
use Rattle.std.proofs.lemmas.Bool.{cases_Bool}
use Rattle.std.proofs.lemmas.Int.{ints}
use Rattle.run.specs.Runs.{room_of}
use Rattle.run.specs.Window.{index_of}
use Rattle.run.specs.Rooms.{le_z_true, le_z_false, room_up_to, room_too_low}
use Rattle.run.specs.Windows.{window_of, window_room}
use Rattle.run.proofs.bucket_store.RunBucketStore.has_room.Goals as goal

is_le-int_cmp : (r : Ordering) (a b : ℤ) → MatchOrdering r (a <ℤ b) (a ≡ b) (b <ℤ a) → is_le r ≡ le_z a b
is_le-int_cmp Less a b h = grind (arith, ints)
is_le-int_cmp Equal a b h = grind (arith, ints)
is_le-int_cmp Greater a b h = grind (arith, ints)

-- the range from s to e, which are 511 below hi and 511 above lo
contains-room : (s e x lo hi : ℤ) (exhausted : Bool) → exhausted ≡ false → s +ℤ pos 511 ≡ hi → e ≡ lo +ℤ pos 511 → lo ≤ℤ hi → hi ≤ℤ (lo +ℤ pos 511) → (is_le (int_cmp s x) && cond exhausted (is_lt (int_cmp x e)) (is_le (int_cmp x e))) ≡ lt_z (int_max hi x) (int_min lo x +ℤ pos 512)
contains-room s e x lo hi true n p q o w = absurd (cc)
contains-room s e x lo hi false n p q o w =
    let low = is_le-int_cmp (int_cmp s x) s x (int_ranks s x) in
    let high = is_le-int_cmp (int_cmp x e) x e (int_ranks x e) in
    ⊎_elim
    (λ t.
    let near = le_z_true s x t in
    let up = room_up_to lo hi x o w (omega (arith, ints)) in
    cc)
    (λ f.
    let far = le_z_false s x f in
    let none = room_too_low lo hi x (omega (arith, ints)) in
    cc)
    (cases_Bool (le_z s x))

pub returns : goal.returns
returns c =
    let run = c.args.self.now in
    let ends = c.in-Some.ensures in
    let wide = run.window.width in
    let far = run.window.reach in
    let some : 0 < run.window.span = omega arith in
    let lo = index_of run.window.first in
    let hi = index_of (run.window.first + run.window.span - 1) in
    let start : range_inclusive_start c.new.result +ℤ pos 511 ≡ hi = omega (arith, ints) in
    let end : range_inclusive_end c.new.result ≡ lo +ℤ pos 511 = omega (arith, ints) in
    let x : to_z w32 (of_z w32 c.args.index) ≡ c.args.index = omega (arith, ints) in
    c.contains.ensures.value
    ∙ contains-room _ _ (to_z w32 (of_z w32 c.args.index)) lo hi _ c.new.ensures.exhausted start end (omega (arith, ints)) (omega (arith, ints))
    ∙ sym (window_room (to_z w32 (of_z w32 c.args.index)) (window_of run) some)
    ∙ ap (room_of run) x
