use Rattle.std.proofs.Common.{◌≡◌, sym, ap, ◌∙◌, arith, w32, to_z, of_z}
use Rattle.std.proofs.lemmas.Int.{ints}
use Rattle.store.specs.Pairs.{raised}
use Rattle.store.specs.Stores.{add_refusal}
use Rattle.run.specs.Runs.{pairs_of, room_of}
use Rattle.run.specs.Window.{index_of}
use Rattle.run.specs.Listings.{raised_one}
use Rattle.run.specs.Windows.{window_of}
use Rattle.run.proofs.Raising.{unrefused, near_room}
use Rattle.run.proofs.bucket_store.RunBucketStore.add.Goals as goal

pub raise-requires-clause-near : goal.raise-requires-clause-near
raise-requires-clause-near c =
    let run = c.args.self.now in
    let free = unrefused (pairs_of run) (room_of run) (to_z w32 (of_z w32 c.args.index)) (sym c.in_ok-check.ensures) in
    near_room c.of.result.at (to_z w32 (of_z w32 c.args.index)) (window_of run) c.of.ensures free.2

pub returns : goal.returns
returns c =
    let run = c.args.self.now in
    let x : to_z w32 (of_z w32 c.args.index) ≡ c.args.index = omega (arith, ints) in
    record {
      allowed = ap (add_refusal (pairs_of run) (room_of run)) (sym x) ∙ sym c.in_ok-check.ensures;
      raises =
          c.raise.ensures.pairs
          ∙ raised_one (index_of c.of.result.at) (pairs_of run)
          ∙ ap (λ i. raised i (pairs_of run)) (c.of.ensures ∙ x);
    }
