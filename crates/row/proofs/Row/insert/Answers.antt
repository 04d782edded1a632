use Rattle.std.proofs.Common.{◌≡◌, ℕ, ◌<◌, ◌≤◌, ◌+◌, take, set, ℤ, Err, sym, ap, ◌∙◌, arith, rules, w32, SFits, to_z, of_z}
use Rattle.std.specs.List.{insert, copy_within}
use Rattle.std.proofs.lemmas.Int.{to_z-of_z}
use Rattle.std.proofs.lemmas.List.{length-set}
use Rattle.store.specs.Pairs.{Pairs, raised}
use Rattle.store.proofs.Range.{ranged_raised}
use Rattle.store.proofs.Raising.{means_raised, total_raised}
use Rattle.row.specs.declared.Row.{Row}
use Rattle.row.specs.Rows.{row_pairs, sought}
use Rattle.row.proofs.Places.{place_within, sought_err}
use Rattle.row.specs.Laws.{row_means}
use Rattle.row.proofs.Kept.{kept, row_length}
use Rattle.row.proofs.Moves.{inserted}
use Rattle.row.proofs.Raising.{raised_new}
use Rattle.row.proofs.Row.insert.Goals as goal

-- a place to insert is one of the row's, or the one after them
within : (r : Row) (i : ℤ) (k : ℕ) → sought i (row_pairs r) ≡ Err k → k ≤ r.size
within r i k e = omega (arith, row_length r, place_within i (row_pairs r), (sought_err i (row_pairs r) k (sym e)).1)

pub overflow_add-position : goal.overflow_add-position
overflow_add-position c = let w = within c.args.self.now c.args.index c.args.position c.requires.place in let f = c.args.self.now.fits in search rules

pub copy_within-requires-clause-start_le_end : goal.copy_within-requires-clause-start_le_end
copy_within-requires-clause-start_le_end c =
    let w = within c.args.self.now c.args.index c.args.position c.requires.place in
    omega arith

pub copy_within-requires-clause-dest_in_bounds : goal.copy_within-requires-clause-dest_in_bounds
copy_within-requires-clause-dest_in_bounds c =
    let w = within c.args.self.now c.args.index c.args.position c.requires.place in
    let n = c.args.self.now.whole in
    omega arith

pub offset_bounds-self-position : goal.offset_bounds-self-position
offset_bounds-self-position c = let w = within c.args.self.now c.args.index c.args.position c.requires.place in search rules

pub bounds-self-position : goal.bounds-self-position
bounds-self-position c = let w = within c.args.self.now c.args.index c.args.position c.requires.place in omega arith

-- what the table lists with the new index
lists : (r : Row) (i : ℤ) (k : ℕ) (t : Pairs) → SFits w32 i → r.size < 320 → sought i (row_pairs r) ≡ Err k → t ≡ copy_within r.pairs k r.size (k + 1) → take (r.size + 1) (set t k (to_z w32 (of_z w32 i), 1)) ≡ raised i (row_pairs r)
lists r i k t f room place moved =
    ap (λ t. take (r.size + 1) (set t k (to_z w32 (of_z w32 i), 1))) moved
    ∙ inserted r.pairs r.size k (to_z w32 (of_z w32 i), 1) (within r i k place) (let w = r.whole in omega arith)
    ∙ ap (λ j. insert (row_pairs r) k (j, 1)) (to_z-of_z w32 i f) ∙ sym (raised_new i (row_pairs r) k (sym place))

pub invariant_of-self : goal.invariant_of-self
invariant_of-self c =
    let r = c.args.self.now in
    let i = c.args.index in
    let sum = c.args.self.now.sums in
    kept _ _ _ (raised i (row_pairs r)) (length-set c.copy_within.new.self c.args.position _ ∙ c.copy_within.ensures.len ∙ r.whole) (omega arith)
    (lists r i c.args.position _ c.ranges.index (omega arith) c.requires.place c.copy_within.ensures.after)
    (means_raised i (row_pairs r) (omega arith) (row_means r))
    (ranged_raised i (row_pairs r) c.requires.range r.ranges)
    (let e = total_raised i (row_pairs r) in omega arith)

pub returns : goal.returns
returns c = lists c.args.self.now c.args.index c.args.position _ c.ranges.index (omega arith) c.requires.place c.copy_within.ensures.after
