-- One record of a sheet: what was taken, and what is taken from what was written. Assumes nothing.
use Rattle.std.proofs.Common.{◌≡◌, ℕ, ◌+◌, ◌<◌, ◌≤◌, true, List, [], ◌∷◌, ◌++◌, length, take, drop, Some, Ok, Err, Result, sym, refl, ap, ◌∙◌, subst, one-add, arith}
use Rattle.std.proofs.ByRecursion.{All-take}
use Rattle.std.proofs.lemmas.List.{take-append-drop, drop_all}
use Rattle.std.proofs.lemmas.Bool.Decides.{nat_tests}
use Rattle.std.proofs.lemmas.Grind.{common_steps}
use Rattle.records.specs.declared.RecordFault.{RecordFault}
use Rattle.records.proofs.Found as f
use Rattle.sheet.specs.declared.fault.SheetFault.TheVariants.{Record as InRecord}
use Rattle.sheet.specs.declared.record.Kind.{Kind}
use Rattle.sheet.specs.declared.record.Record.{Record}
use Rattle.sheet.specs.declared.state.State.{State}
use Rattle.sheet.specs.Records.{code, kind_of, body_length, record_from, made, kind_in, body, bytes, size, is_end}
use Rattle.sheet.specs.Readings.{found, next}
use Rattle.sheet.specs.Runs.{Fits}
use Rattle.sheet.specs.Turns.{turn}
use Rattle.sheet.proofs.Bodies.{Bytes, kind-code, code_known, kind-made, length_body, body-made, made-body}

-- what was taken in a state, and the state behind it
pub record Taken (s : State) (bs : List ℕ) (p : Record × State) : Type 0 where
  pub room : size p.0 ≤ length bs
  pub turned : turn s p.0 ≡ Some p.1
  pub ended : is_end p.0 ≡ true → drop (size p.0) bs ≡ []
  pub wrote : Bytes bs → bs ≡ bytes p.0 ++ drop (size p.0) bs

-- what was found is written again as it was
back : (b : ℕ) (bs : List ℕ) (q : Kind × List ℕ) → f.Found kind_of body_length b bs q → Bytes (b ∷ bs) →
    b ∷ bs ≡ bytes (made q.0 q.1) ++ drop (size (made q.0 q.1)) (b ∷ bs)
back b bs q f u =
    let n = body_length q.0 in
    let c : code (kind_in (made q.0 q.1)) ≡ b = ap code (kind-made q.0 q.1) ∙ kind-code b q.0 f.known in
    let d : body (made q.0 q.1) ≡ take n bs = body-made q.0 q.1 f.long (subst Bytes (sym f.cut) (All-take (λ b. b < 256) n bs u.1)) ∙ f.cut in
    let e : drop (size (made q.0 q.1)) (b ∷ bs) ≡ drop n bs = ap (λ k. drop (1 + body_length k) (b ∷ bs)) (kind-made q.0 q.1) ∙ ap (λ m. drop m (b ∷ bs)) (one-add n) in
    sym (ap (λ (ys : List ℕ). b ∷ ys) (take-append-drop n bs)) ∙ sym (λ i. c i ∷ (d i ++ e i))

same-made : (s : State) (at : ℕ) (bs : List ℕ) (p : Record × State) (q : Kind × List ℕ) → next s at bs ≡ Ok p → record_from at bs ≡ Ok q → p.0 ≡ made q.0 q.1
same-made s at bs p q e r = grind (arith, nat_tests)

wrote : (s : State) (at : ℕ) (bs : List ℕ) (p : Record × State) → next s at bs ≡ Ok p → Bytes bs → bs ≡ bytes p.0 ++ drop (size p.0) bs
wrote s at [] p e u = absurd (cc)
wrote s at (b ∷ bs) p e u = go (record_from at (b ∷ bs)) refl
  where
    go : (o : Result (Kind × List ℕ) RecordFault) → record_from at (b ∷ bs) ≡ o → b ∷ bs ≡ bytes p.0 ++ drop (size p.0) (b ∷ bs)
    go (Err x) r = let wrong : Err (InRecord x) ≡ Ok p = ap (found s at (length (b ∷ bs))) (sym r) ∙ e in absurd (cc)
    go (Ok q) r =
        subst (λ (x : Record). b ∷ bs ≡ bytes x ++ drop (size x) (b ∷ bs)) (sym (same-made s at (b ∷ bs) p q e r)) (back b bs q (f.found kind_of body_length at b bs q r) u)

pub took : (s : State) (at : ℕ) (bs : List ℕ) (p : Record × State) → next s at bs ≡ Ok p → Taken s bs p
took s at bs p e = record {
  room = grind (arith, nat_tests, kind-made);
  turned = grind (arith, nat_tests);
  ended = λ end. grind (arith, nat_tests, drop_all, kind-made);
  wrote = wrote s at bs p e;
}

-- a record's bytes are taken as that record, where it is in turn and nothing comes behind the end
pub takes : (s : State) (at : ℕ) (x : Record) (s' : State) (rest : List ℕ) → Fits x → turn s x ≡ Some s' → (is_end x ≡ true → rest ≡ []) →
    next s at (bytes x ++ rest) ≡ Ok (x, s')
takes s at x s' rest fits t last = grind (arith, common_steps, nat_tests, code_known, made-body, length_body)
