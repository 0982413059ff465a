-- A drawing as its lines. Assumes nothing.
use Rattle.std.specs.Prelude.{ℕ, ◌-◌, List, length, take, if◌then◌else◌, Result, ◌==◌, slice_index, slice_get, nat_lt}
use Rattle.std.specs.Borrow.{Bor}
use Rattle.std.specs.List.{slice_split}
use Rattle.std.specs.Option.{option_map_or}
use Rattle.host.specs.declared.refusal.Refusal.{Refusal}
use Rattle.host.specs.declared.size.Size.{Size}
use Rattle.host.specs.Sizes.{tested}

-- a text without the newline that it may end with
abbrev pub unended : List ℕ → List ℕ
unended text = if slice_index text (length text - 1) == 10 then take (length text - 1) text else text

-- its lines, parted by newlines
abbrev pub lines_of : List ℕ → List (List ℕ)
lines_of text = slice_split (λ b. b == 10) (unended text)

-- a number of rows or columns; 0, which no card has, in place of one that no byte holds
abbrev pub side : ℕ → ℕ
side number = if nat_lt number 256 then number else 0

-- how many characters the first line has, if there is one
abbrev pub first_length : List (Bor (List ℕ)) → ℕ
first_length lines = option_map_or (λ line. length line.now) (slice_get lines 0) 0

-- a row for each line, and a column for each character of the first
abbrev pub size_of : List (Bor (List ℕ)) → Result Size Refusal
size_of lines = tested (side (length lines)) (side (first_length lines))
