-- Bucket indices: whole numbers, their range over all schemas, and half of one, rounded up.
use Rattle.std.specs.Prelude.{◌≡◌, ◌⊎◌, Bool, ◌&&◌, ℕ, ◌+◌, ◌-◌, ◌/◌, ◌%◌, ℤ, pos, negsuc, neg_ℤ, ◌+ℤ◌}
use Rattle.std.specs.Int.Signed.{le_z}

-- from −274,944 to 262,145
abbrev pub in_index_range : ℤ → Bool
in_index_range i = le_z (negsuc 274943) i && le_z i (pos 262145)

-- i / d rounded down
abbrev pub quotient : ℕ → ℤ → ℤ
quotient d (pos n) = pos (n / d)
quotient d (negsuc n) = negsuc (n / d)

-- what i is above d times that quotient: from 0 to d − 1
abbrev pub remainder : ℕ → ℤ → ℕ
remainder d (pos n) = n % d
remainder d (negsuc n) = d - 1 - n % d

-- i / 2 rounded up
abbrev pub halved : ℤ → ℤ
halved (pos n) = pos ((n + 1) / 2)
halved (negsuc n) = neg_ℤ (pos ((n + 1) / 2))

-- h is i / 2 rounded up: twice h is i, or i + 1
abbrev pub Halves : ℤ → ℤ → Type 0
Halves i h = (h +ℤ h ≡ i) ⊎ (h +ℤ h ≡ i +ℤ pos 1)
