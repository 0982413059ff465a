-- The size test. Assumes nothing.
use Rattle.std.specs.Prelude.{◌≡◌, ℕ, ◌≤◌, Bool, true, false, ◌&&◌, Ok, Err, Result, nat_le, refl}
use Rattle.std.proofs.lemmas.Bool.{leb-true, and_parts}
use Rattle.host.specs.declared.refusal.Refusal.{Refusal}
use Rattle.host.specs.declared.refusal.Refusal.TheVariants.{BadSize}
use Rattle.host.specs.declared.size.Size.{Size}

abbrev pub side : ℕ → Bool
side n = nat_le 1 n && nat_le n 64

-- both sides are 1 to 64
abbrev pub fits : ℕ → ℕ → Bool
fits rows columns = side rows && side columns

pub bounds : (rows columns : ℕ) → fits rows columns ≡ true → (1 ≤ rows) × (rows ≤ 64) × (1 ≤ columns) × (columns ≤ 64)
bounds rows columns e =
    let both = and_parts (side rows) (side columns) e in
    let r = and_parts (nat_le 1 rows) (nat_le rows 64) both.0 in
    let c = and_parts (nat_le 1 columns) (nat_le columns 64) both.1 in
    (leb-true 1 rows r.0, leb-true rows 64 r.1, leb-true 1 columns c.0, leb-true columns 64 c.1)

abbrev pub size_if : (rows columns : ℕ) (fit : Bool) → fits rows columns ≡ fit → Result Size Refusal
size_if rows columns true e = Ok (record { rows = rows; columns = columns; sized = bounds rows columns e })
size_if rows columns false e = Err BadSize

-- what the size test answers
abbrev pub tested : ℕ → ℕ → Result Size Refusal
tested rows columns = size_if rows columns (fits rows columns) refl
