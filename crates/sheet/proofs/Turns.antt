-- In a reading of bytes each record is in turn. Assumes nothing.
use Rattle.std.proofs.Common.{◌≡◌, ℕ, zero, suc, ◌+◌, ◌<◌, false, List, length, drop, Some, Ok, Err, Result, sym, refl, ap, ◌∙◌, subst, inl, inr, arith}
use Rattle.std.proofs.lemmas.Bool.{cases_Bool, cond-true, cond-false}
use Rattle.sheet.specs.declared.fault.SheetFault.{SheetFault}
use Rattle.sheet.specs.declared.record.Record.{Record}
use Rattle.sheet.specs.declared.record.Record.TheVariants.{End}
use Rattle.sheet.specs.declared.state.State.{State}
use Rattle.sheet.specs.declared.state.State.TheVariants.{Ended}
use Rattle.sheet.specs.Records.{size, is_end}
use Rattle.sheet.specs.Readings.{next, Reading, stops, ends, then, reading_from}
use Rattle.sheet.specs.Turns.{turn}
use Rattle.sheet.proofs.Nexts.{took}
use Rattle.sheet.proofs.Readings.{fewer, reading_stops, reading_took}
use Rattle.sheet.proofs.Runs.{only_end, end_ends}

-- the records of a reading are in turn from a state on, and stand one behind the other from a place on
abbrev pub InTurn : State → ℕ → Reading → Type 0
InTurn s at (stops x) = Unit {0}
InTurn s at (ends p) = (p ≡ at) × (turn s End ≡ Some Ended)
InTurn s at (then p x more) = (p ≡ at) × (is_end x ≡ false) × ((s' : State) × (turn s x ≡ Some s') × InTurn s' (at + size x) more)

by_turns : (n : ℕ) (s : State) (at : ℕ) (bs : List ℕ) → length bs < n → InTurn s at (reading_from s at bs)
by_turns zero s at bs l = absurd (omega arith)
by_turns (suc n) s at bs l = go (next s at bs) refl (λ s' at' rest. by_turns n s' at' rest)
  where
    go : (o : Result (Record × State) SheetFault) → next s at bs ≡ o →
        ((s' : State) (at' : ℕ) (rest : List ℕ) → length rest < n → InTurn s' at' (reading_from s' at' rest)) →
        InTurn s at (reading_from s at bs)
    go (Err x) e more = subst (InTurn s at) (sym (reading_stops s at bs x e)) tt
    go (Ok p) e more =
        let t = took s at bs p e in
        elim (cases_Bool (is_end p.0)) [
          | inl end ↦
              let is : turn s End ≡ Some Ended = ap (turn s) (sym (only_end p.0 end)) ∙ t.turned ∙ ap Some (end_ends s p.1 p.0 end t.turned) in
              subst (InTurn s at) (sym (reading_took s at bs p e ∙ cond-true _ _ _ end)) (refl, is)
          | inr on ↦
              let rest = more p.1 (at + size p.0) (drop (size p.0) bs) (omega (arith, fewer s at bs p e)) in
              subst (InTurn s at) (sym (reading_took s at bs p e ∙ cond-false _ _ _ on)) (refl, on, (p.1, t.turned, rest))
        ]

pub turns : (s : State) (at : ℕ) (bs : List ℕ) → InTurn s at (reading_from s at bs)
turns s at bs = by_turns (suc (length bs)) s at bs (omega arith)
