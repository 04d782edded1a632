-- What a store's fault says.
use Rattle.std.specs.Prelude.{ℕ, List, ◌++◌, ℤ, pos, codes, decimal}
use Rattle.std.specs.Fmt.{signed_decimal}
use Rattle.store.specs.declared.faults.StoreFault.{StoreFault}
use Rattle.store.specs.declared.faults.StoreFault.TheVariants.{OutOfRange, Full, NoRoom}

-- the number of the refusal, and its place
abbrev pub refusal : StoreFault → ℕ × ℤ
refusal (OutOfRange i) = (8, i)
refusal Full = (6, pos 0)
refusal (NoRoom i) = (7, i)

-- what is wrong, in words
abbrev pub reason : StoreFault → List ℕ
reason (OutOfRange i) = codes ": index " ++ (signed_decimal i ++ codes " is out of range")
reason Full = codes ": the store's total is 2^64 - 1"
reason (NoRoom i) = codes ": the store has no room for index " ++ signed_decimal i

-- the text that is shown
abbrev pub message : StoreFault → List ℕ
message f = codes "refusal " ++ (decimal (refusal f).0 ++ reason f)
