-- Refusals: their numbers, in which order they are looked for, and what they leave. Assumes nothing.
use Rattle.std.specs.Prelude.{ℕ, Bool, cond, Some, None, Ok, Err, Option, Result}
use Rattle.host.specs.declared.refusal.Refusal.{Refusal}
use Rattle.host.specs.declared.refusal.Refusal.TheVariants.{BadSize, Outside, BadState, BadLength, BadCharacter}

abbrev pub number : Refusal → ℕ
number BadSize = 1
number Outside = 2
number BadState = 3
number BadLength = 4
number BadCharacter = 5

-- a refusal where a test passes, and else what comes after it
abbrev pub refuse : {X : Type 0} → Bool → X → Option X → Option X
refuse test x later = cond test (Some x) later

-- a call answers the refusal that it meets, or its answer where it meets none
abbrev pub answered : {X A : Type 0} → Option X → A → Result A X
answered (Some x) a = Err x
answered None a = Ok a

-- a refused call leaves what was there
abbrev pub unless : {X A : Type 0} → Option X → A → A → A
unless (Some x) before done = before
unless None before done = done
