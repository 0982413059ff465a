-- What the writer of a plan's sheet answers, and what it leaves in the buffer. Assumes nothing.
use Rattle.std.specs.Prelude.{ℕ, min, List, length, None, Option, Result, nat_lt}
use Rattle.host.specs.declared.Host.{Host}
use Rattle.host.specs.Refusals.{refuse, answered, unless}
use Rattle.plans.specs.declared.held.HeldPlan.{HeldPlan}
use Rattle.sheet.specs.Writers.{laid}
use Rattle.plan_sheet.specs.declared.ShortBuffer.{ShortBuffer}
use Rattle.plan_sheet.specs.Parts.{held_sheet}

abbrev pub number : ShortBuffer → ℕ
number x = 21

-- there are 64 columns at most
abbrev pub plan_sheet : Host → HeldPlan → ℕ → List ℕ
plan_sheet h p columns = held_sheet h p (min columns 64)

abbrev pub refusal : Host → HeldPlan → ℕ → ℕ → Option ShortBuffer
refusal h p columns room = refuse (nat_lt room (length (plan_sheet h p columns))) (record {}) None

-- the length of the sheet
abbrev pub answer : Host → HeldPlan → ℕ → ℕ → Result ℕ ShortBuffer
answer h p columns room = answered (refusal h p columns room) (length (plan_sheet h p columns))

abbrev pub buffer : Host → HeldPlan → ℕ → List ℕ → List ℕ
buffer h p columns out = unless (refusal h p columns (length out)) out (laid 0 (plan_sheet h p columns) out)
