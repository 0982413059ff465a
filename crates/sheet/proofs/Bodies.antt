-- Kinds and bodies. Assumes nothing.
use Rattle.std.proofs.Common.{◌≡◌, ℕ, ◌<◌, List, [], ◌∷◌, length, get_or, Some, refl, ap, suc, zero, arith}
use Rattle.std.proofs.lemmas.Bool.Decides.{nat_tests}
use Rattle.std.proofs.lemmas.Nat.{be_bytes_4, be_bytes_8, from_be_bytes-to_be_bytes_4, from_be_bytes-to_be_bytes_8}
use Rattle.std.specs.List.{AllByRecursion}
use Rattle.sheet.specs.declared.record.Kind.{Kind}
use Rattle.sheet.specs.declared.record.Kind.TheVariants as k
use Rattle.sheet.specs.declared.record.Record.{Record}
use Rattle.sheet.specs.Records.{code, kind_of, body_length, made, kind_in, size, body, bytes}
use Rattle.sheet.specs.Runs.{Fits}

abbrev pub Bytes : List ℕ → Type 0
Bytes bs = AllByRecursion (λ b. b < 256) bs

-- the byte of a kind is the only one that is read as it
pub kind-code : (b : ℕ) (kind : Kind) → kind_of b ≡ Some kind → code kind ≡ b
kind-code b kind e = grind (arith, nat_tests)

pub code_known : (kind : Kind) → kind_of (code kind) ≡ Some kind
code_known kind = grind arith

pub kind-made : (kind : Kind) (bs : List ℕ) → kind_in (made kind bs) ≡ kind
kind-made kind bs = grind arith

pub length_body : (x : Record) → length (body x) ≡ body_length (kind_in x)
length_body x = grind arith

pub length_bytes : (x : Record) → length (bytes x) ≡ size x
length_bytes x = omega (arith, length_body x)

small : (bs : List ℕ) → Bytes bs → (i : ℕ) → get_or bs i 0 < 256
small [] u i = omega arith
small (b ∷ bs) u zero = u.0
small (b ∷ bs) u (suc i) = small bs u.1 i

-- a body that is read is written again as it was
pub body-made : (kind : Kind) (bs : List ℕ) → length bs ≡ body_length kind → Bytes bs → body (made kind bs) ≡ bs
body-made k.Head (a ∷ b ∷ m) l u = ap (λ (xs : List ℕ). a ∷ b ∷ xs) (be_bytes_8 m _ (omega arith) (small m u.1.1) refl)
body-made k.Start (a ∷ []) l u = refl
body-made k.Left [] l u = refl
body-made k.Straight [] l u = refl
body-made k.Right [] l u = refl
body-made k.Toll (a ∷ b ∷ m) l u = ap (λ (xs : List ℕ). a ∷ b ∷ xs) (be_bytes_4 m _ (omega arith) (small m u.1.1) refl)
body-made k.End [] l u = refl
body-made _ _ l u = absurd (omega arith)

-- a record that is written is made again as it was
pub made-body : (x : Record) → Fits x → made (kind_in x) (body x) ≡ x
made-body x f = grind (arith, from_be_bytes-to_be_bytes_4, from_be_bytes-to_be_bytes_8)

code_under : (kind : Kind) → code kind < 256
code_under kind = grind arith

body_under : (x : Record) → Fits x → Bytes (body x)
body_under x f = grind arith

pub bytes_under : (x : Record) → Fits x → Bytes (bytes x)
bytes_under x f = (code_under (kind_in x), body_under x f)
