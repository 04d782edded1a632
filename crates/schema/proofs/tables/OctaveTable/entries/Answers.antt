-- The nine tables of the program are those of the definition, one after the other.
use Rattle.std.proofs.Common.{◌≡◌, refl, ℕ, suc, ◌≤◌, ◌⊎◌, inl, inr, arith}
use native.Mathlib.Nat.{le-suc_iff}
use Rattle.schema.specs.Tables.{tables}
use Rattle.schema.proofs.tables.OctaveTable.entries.Goals as goal

down : (n : ℕ) {a : ℕ} → a ≤ suc n → (a ≡ suc n) ⊎ (a ≤ n)
down n h = elim (le-suc_iff.0 h) [ inl g ↦ inr g | inr e ↦ inl e ]

pub returns-clause-value : goal.returns-clause-value
unfolding tables
returns-clause-value c = elim (down 7 c.args.self.known) [ inl e ↦ rw c.from.ensures (rw e refl) | inr h8 ↦ elim (down 6 h8) [ inl e ↦ rw c.from.ensures (rw e refl) | inr h7 ↦ elim (down 5 h7) [ inl e ↦ rw c.from.ensures (rw e refl) | inr h6 ↦ elim (down 4 h6) [ inl e ↦ rw c.from.ensures (rw e refl) | inr h5 ↦ elim (down 3 h5) [ inl e ↦ rw c.from.ensures (rw e refl) | inr h4 ↦ elim (down 2 h4) [ inl e ↦ rw c.from.ensures (rw e refl) | inr h3 ↦ elim (down 1 h3) [ inl e ↦ rw c.from.ensures (rw e refl) | inr h2 ↦ elim (down 0 h2) [ inl e ↦ rw c.from.ensures (rw e refl) | inr h1 ↦ let e : c.args.self.schema ≡ 0 = omega arith in rw c.from.ensures (rw e refl) ] ] ] ] ] ] ] ]
