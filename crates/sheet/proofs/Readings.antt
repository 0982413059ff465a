-- A sheet read record by record. Assumes nothing.
use Rattle.std.proofs.Common.{◌≡◌, ℕ, zero, suc, ◌+◌, ◌<◌, cond, List, length, drop, Ok, Err, Result, refl, ap, ◌∙◌, arith, length-drop}
use Rattle.sheet.specs.declared.fault.SheetFault.{SheetFault}
use Rattle.sheet.specs.declared.record.Record.{Record}
use Rattle.sheet.specs.declared.state.State.{State}
use Rattle.sheet.specs.Records.{size, is_end}
use Rattle.sheet.specs.Readings.{next, Reading, stops, ends, then, read_on, reading_by, reading_from}
use Rattle.sheet.proofs.Nexts.{took}

-- behind a record there are fewer bytes
pub fewer : (s : State) (at : ℕ) (bs : List ℕ) (p : Record × State) → next s at bs ≡ Ok p → length (drop (size p.0) bs) < length bs
fewer s at bs p e = omega (arith, length-drop (size p.0) bs, (took s at bs p e).room)

-- any number of turns above the number of bytes will do
enough : (n m : ℕ) (s : State) (at : ℕ) (bs : List ℕ) → length bs < n → length bs < m → reading_by n s at bs ≡ reading_by m s at bs
unfolding reading_by
enough zero m s at bs l k = absurd (omega arith)
enough (suc n) zero s at bs l k = absurd (omega arith)
enough (suc n) (suc m) s at bs l k = go (next s at bs) refl (λ s' at' rest. enough n m s' at' rest)
  where
    go : (o : Result (Record × State) SheetFault) → next s at bs ≡ o →
        ((s' : State) (at' : ℕ) (rest : List ℕ) → length rest < n → length rest < m → reading_by n s' at' rest ≡ reading_by m s' at' rest) →
        read_on at (reading_by n) bs o ≡ read_on at (reading_by m) bs o
    go (Err x) e more = refl
    go (Ok p) e more =
        let less = fewer s at bs p e in
        ap (λ (q : Reading). cond (is_end p.0) (ends at) (then at p.0 q)) (more p.1 (at + size p.0) (drop (size p.0) bs) (omega arith) (omega arith))

module _ (s : State) (at : ℕ) (bs : List ℕ) where
  pub reading_stops : (x : SheetFault) → next s at bs ≡ Err x → reading_from s at bs ≡ stops x
  unfolding reading_by
  reading_stops x e = ap (read_on at (reading_by (length bs)) bs) e

  pub reading_took : (p : Record × State) → next s at bs ≡ Ok p →
      reading_from s at bs ≡ cond (is_end p.0) (ends at) (then at p.0 (reading_from p.1 (at + size p.0) (drop (size p.0) bs)))
  unfolding reading_by
  reading_took p e =
      ap (read_on at (reading_by (length bs)) bs) e
      ∙ ap (λ (q : Reading). cond (is_end p.0) (ends at) (then at p.0 q))
      (enough (length bs) (suc (length (drop (size p.0) bs))) p.1 (at + size p.0) (drop (size p.0) bs) (fewer s at bs p e) (omega arith))
