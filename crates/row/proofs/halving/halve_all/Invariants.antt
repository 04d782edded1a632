use Rattle.std.proofs.Common.{◌≡◌, ◌≤◌, take, drop}
use Rattle.store.specs.Pairs.{halved_pairs}
use Rattle.row.proofs.halving.halve_all.Given as goal

-- the first `k` pairs are halved into the first `used`, and those from `k` on are as they were
abbrev pub invariant-loop-k : goal.invariant-loop-k
invariant-loop-k l = record {
  within : l.used ≤ l.k;
  halves : take l.used l.pairs ≡ halved_pairs (take l.k l.initial.pairs);
  rest : drop l.k l.pairs ≡ drop l.k l.initial.pairs;
}
