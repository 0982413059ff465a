-- Text laid over a page of bytes. Assumes nothing.
use Rattle.std.specs.Prelude.{◌≡◌, ℕ, ◌+◌, List, ◌++◌, length, take, drop}
use Rattle.greedy.specs.Answers.{at_front}

-- a page with text over it from a place on; what does not fit is left out
unfoldable pub overlaid : List ℕ → ℕ → List ℕ → List ℕ
overlaid page at text = take (length page) (take at page ++ at_front text (drop at page))

-- text was laid over a page from a place on, and next is the place behind it
pub record Laid (page : List ℕ) (at : ℕ) (text : List ℕ) (after : List ℕ) (next : ℕ) : Type 0 where
  pub over : after ≡ overlaid page at text
  pub behind : next ≡ at + length text
