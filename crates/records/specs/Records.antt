-- Records as bytes, in any format. Assumes nothing.
use Rattle.std.specs.Prelude.{ℕ, cond, List, [], ◌∷◌, length, take, Some, None, Ok, Err, Option, Result, nat_lt}
use Rattle.std.specs.Borrow.{Bor}
use Rattle.records.specs.declared.RecordFault.{RecordFault}
use Rattle.records.specs.declared.RecordFault.TheVariants.{UnknownKind, CutShort}

abbrev pub number : RecordFault → ℕ
number (UnknownKind at) = 7
number (CutShort at) = 8

abbrev pub place : RecordFault → ℕ
place (UnknownKind at) = at
place (CutShort at) = at

-- the record of a kind, if it is one, that the bytes behind the kind begin with, at a place
abbrev pub with_body : {K : Type 0} → (K → ℕ) → ℕ → List ℕ → Option K → Result (K × List ℕ) RecordFault
with_body length_of at bs None = Err (UnknownKind at)
with_body length_of at bs (Some kind) = cond (nat_lt (length bs) (length_of kind)) (Err (CutShort at)) (Ok (kind, take (length_of kind) bs))

-- the record that bytes begin with, at a place: its kind and its body
abbrev pub record_from : {K : Type 0} → (ℕ → Option K) → (K → ℕ) → ℕ → List ℕ → Result (K × List ℕ) RecordFault
record_from kind_of length_of at [] = Err (CutShort at)
record_from kind_of length_of at (b ∷ bs) = with_body length_of at bs (kind_of b)

-- an answer with what the part of the bytes holds, in place of the part
abbrev pub bare : {K : Type 0} → Result (K × Bor (List ℕ)) RecordFault → Result (K × List ℕ) RecordFault
bare (Ok p) = Ok (p.0, p.1.now)
bare (Err x) = Err x
