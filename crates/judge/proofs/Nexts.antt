-- The next record of a sheet, as the code takes it in. Assumes nothing.
use Rattle.std.proofs.Common.{◌≡◌, ℕ, Option, Ok, Err, Result, sym, refl, ap, ◌∙◌, subst, ◌⊎◌, inl, inr}
use Rattle.host.specs.declared.Host.{Host}
use Rattle.sheet.specs.declared.fault.SheetFault.{SheetFault}
use Rattle.sheet.specs.declared.record.Record.{Record}
use Rattle.sheet.specs.declared.state.State.{State}
use Rattle.sheet.specs.Readings.{answer_of}
use Rattle.verdict.specs.declared.fault.CardFault.{CardFault}
use Rattle.verdict.specs.declared.fault.JudgeFault.{JudgeFault}
use Rattle.verdict.specs.declared.fault.JudgeFault.TheVariants.{Sheet, Card}
use Rattle.verdict.specs.Judging.{Gathered, checked, at_place}
use Rattle.judge.specs.Gathering.{AnswersAs, with_next, next_gathered, end_at}

module _ (h : Host) (g : Gathered) (at : ℕ) (P : Gathered → Type 0) where
  -- a record that was taken from the sheet, and was taken in or was at fault
  pub next_in : (t : Result (Record × State) SheetFault) (x : Record) (u : Unit {0}) (place : ℕ) (end : Option ℕ) → answer_of t ≡ Ok x → place ≡ at → end ≡ end_at place x →
      AnswersAs (λ g'. tt {0}) P (Ok u) (checked h g x) → AnswersAs (λ p. end_at at p.0) (λ p. P p.1) (Ok end) (next_gathered h g at t)
  next_in (Err y) x u place end e l q a = absurd (cc)
  next_in (Ok p) x u place end e l q a = go (checked h g p.0) (subst (λ (y : Record). AnswersAs (λ g'. tt {0}) P (Ok u) (checked h g y)) (sym same) a)
    where
      same : p.0 ≡ x
      same = cc

      go : (d : Result Gathered CardFault) → AnswersAs (λ g'. tt {0}) P (Ok u) d → AnswersAs (λ q. end_at at q.0) (λ q. P q.1) (Ok end) (with_next p.0 (at_place at d))
      go (Err f) b = absurd (cc)
      go (Ok g') b = (ap Ok q ∙ (λ i. Ok (end_at (l i) (sym same i))), b.1)

  pub next_at_fault : (t : Result (Record × State) SheetFault) (x : Record) (f : CardFault) (place : ℕ) → answer_of t ≡ Ok x → place ≡ at →
      AnswersAs (λ g'. tt {0}) P (Err f) (checked h g x) → AnswersAs (λ p. end_at at p.0) (λ p. P p.1) (Err (Card f place)) (next_gathered h g at t)
  next_at_fault (Err y) x f place e l a = absurd (cc)
  next_at_fault (Ok p) x f place e l a = go (checked h g p.0) (subst (λ (y : Record). AnswersAs (λ g'. tt {0}) P (Err f) (checked h g y)) (sym same) a)
    where
      same : p.0 ≡ x
      same = cc

      go : (d : Result Gathered CardFault) → AnswersAs (λ g'. tt {0}) P (Err f) d → AnswersAs (λ q. end_at at q.0) (λ q. P q.1) (Err (Card f place)) (with_next p.0 (at_place at d))
      go (Err f') b = let one : f ≡ f' = cc in λ i. Err (Card (one i) (l i))
      go (Ok g') b = absurd (cc)

  -- and what its answer tells
  pub record TakenIn (t : Result (Record × State) SheetFault) (end : Option ℕ) : Type 0 where
    pub taken : Record
    pub state : State
    pub after : Gathered
    pub took : t ≡ Ok (taken, state)
    pub passed : checked h g taken ≡ Ok after
    pub holds : P after
    pub told : end ≡ end_at at taken

  pub taken_in : (t : Result (Record × State) SheetFault) (end : Option ℕ) → AnswersAs (λ p. end_at at p.0) (λ p. P p.1) (Ok end) (next_gathered h g at t) → TakenIn t end
  taken_in (Err y) end a = absurd (cc)
  taken_in (Ok p) end a = go (checked h g p.0) refl a
    where
      go : (d : Result Gathered CardFault) → checked h g p.0 ≡ d → AnswersAs (λ q. end_at at q.0) (λ q. P q.1) (Ok end) (with_next p.0 (at_place at d)) → TakenIn (Ok p) end
      go (Err f) e b = absurd (cc)
      go (Ok g') e b = record { taken = p.0; state = p.1; after = g'; took = refl; passed = e; holds = b.1; told = cc }

  -- what stopped the reading
  abbrev pub Stopped : Result (Record × State) SheetFault → JudgeFault → Type 0
  Stopped t y =
      ((x : SheetFault) × (t ≡ Err x) × (y ≡ Sheet x)) ⊎ ((p : Record × State) × (f : CardFault) × (t ≡ Ok p) × (checked h g p.0 ≡ Err f) × (y ≡ Card f at))

  pub stopped : (t : Result (Record × State) SheetFault) (y : JudgeFault) → AnswersAs (λ p. end_at at p.0) (λ p. P p.1) (Err y) (next_gathered h g at t) → Stopped t y
  stopped (Err x) y a = let same : y ≡ Sheet x = cc in inl (x, refl, same)
  stopped (Ok p) y a = go (checked h g p.0) refl a
    where
      go : (d : Result Gathered CardFault) → checked h g p.0 ≡ d → AnswersAs (λ q. end_at at q.0) (λ q. P q.1) (Err y) (with_next p.0 (at_place at d)) → Stopped (Ok p) y
      go (Err f) e b = let same : y ≡ Card f at = cc in inr (p, f, refl, e, same)
      go (Ok g') e b = absurd (cc)
