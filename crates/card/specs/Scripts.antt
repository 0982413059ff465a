-- Calls that are made one after another. Assumes nothing.
use Rattle.std.specs.Prelude.{ℕ, List, map, take}
use Rattle.std.specs.Borrow.{Bor}
use Rattle.std.specs.List.{enumerate_from}
use Rattle.promise.specs.declared.call.Call.{Call}
use Rattle.promise.specs.declared.call.Call.TheVariants.{Picture}
use Rattle.card.specs.declared.script.Script.{Script}

-- the calls of a script
abbrev pub calls : Script → List Call
calls s = take s.number s.calls

-- a picture for each line
abbrev pub pictures : List (Bor (List ℕ)) → List Call
pictures lines = map (λ p. Picture p.0 p.1) (enumerate_from 0 lines)
