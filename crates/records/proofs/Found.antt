-- What a record that was found says of the bytes. Assumes nothing.
use Rattle.std.proofs.Common.{◌≡◌, ℕ, ◌≤◌, List, ◌∷◌, length, take, Some, Ok, Option, arith}
use Rattle.std.proofs.lemmas.Grind.{common_steps}
use Rattle.records.specs.Records.{record_from}

module _ {K : Type 0} (kind_of : ℕ → Option K) (length_of : K → ℕ) where
  -- a kind and a body that were found in a byte and the bytes behind it
  pub record Found (first : ℕ) (rest : List ℕ) (p : K × List ℕ) : Type 0 where
    pub known : kind_of first ≡ Some p.0
    pub room : length_of p.0 ≤ length rest
    pub cut : p.1 ≡ take (length_of p.0) rest
    pub long : length p.1 ≡ length_of p.0

  pub found : (at first : ℕ) (rest : List ℕ) (p : K × List ℕ) → record_from kind_of length_of at (first ∷ rest) ≡ Ok p → Found first rest p
  found at first rest p e = grind (arith, common_steps)
