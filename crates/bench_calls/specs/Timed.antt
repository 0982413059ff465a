-- What the timed calls answer. Assumes nothing.
use Rattle.std.specs.Prelude.{ℕ, Bool, cond, ◌||◌, List, length, ℤ, pos, neg_ℤ, Ok, Err, Result, nat_lt}
use Rattle.host.specs.declared.refusal.Refusal.{Refusal}
use Rattle.host.specs.declared.size.Size.{Size}
use Rattle.host.specs.Refusals.{number as card_number}
use Rattle.host.specs.Changes.{opened}
use Rattle.tariff.specs.Kinds.{links}
use Rattle.verdict.specs.declared.fault.JudgeFault.{JudgeFault}
use Rattle.verdict.specs.Faults.{number}
use Rattle.judge.specs.Judge.{judge_answer}
use Rattle.greedy.specs.Search.{greedy}
use Rattle.greedy.specs.Answers.{one_after_another, at_front}

-- too many rows, or too little room
abbrev pub unfit : List ℕ → ℕ → Bool
unfit rows room = nat_lt 64 (length rows) || nat_lt room 4096

abbrev pub columns_of : List ℕ → ℕ → ℕ
columns_of rows room = cond (unfit rows room) 0 (length (greedy rows).columns)

abbrev pub bytes_of : List ℕ → List ℕ → List ℕ
bytes_of rows out = cond (unfit rows (length out)) out (at_front (one_after_another (greedy rows).columns) out)

-- the number of columns of a sheet that is accepted, or minus the number of the fault
abbrev pub number_or_fault : Result (ℕ × ℕ) JudgeFault → ℤ
number_or_fault (Ok p) = pos p.0
number_or_fault (Err x) = neg_ℤ (pos (number x))

-- for a card on which all is healthy, if there is one of this size
abbrev pub judged_columns : Result Size Refusal → List ℕ → ℤ
judged_columns (Err x) sheet = neg_ℤ (pos (card_number x))
judged_columns (Ok z) sheet = number_or_fault (judge_answer (opened z) links sheet)
