-- The records of a sheet, taken in one after another. Assumes nothing.
use Rattle.std.proofs.Common.{◌≡◌, ℕ, ◌+◌, ◌<◌, false, List, [], length, drop, Some, None, Option, Ok, Err, sym, refl, ap, ◌∙◌, subst, inl, inr, ⊎_elim, arith}
use Rattle.std.proofs.lemmas.Bool.{cases_Bool, cond-false}
use Rattle.std.proofs.lemmas.List.{drop-drop}
use Rattle.host.specs.declared.Host.{Host}
use Rattle.tariff.specs.Meaning.{Meaning}
use Rattle.sheet.specs.declared.fault.SheetFault.{SheetFault}
use Rattle.sheet.specs.declared.reader.Reader.{Reader}
use Rattle.sheet.specs.declared.record.Record.{Record}
use Rattle.sheet.specs.declared.record.Record.TheVariants as r
use Rattle.sheet.specs.declared.state.State.{State}
use Rattle.sheet.specs.Records.{size, is_end}
use Rattle.sheet.specs.Readings.{new_reader, taken, reader_after, reading_from, reading}
use Rattle.sheet.proofs.Nexts.{took}
use Rattle.sheet.proofs.Runs.{only_end}
use Rattle.sheet.proofs.Readings.{fewer, reading_stops, reading_took}
use Rattle.verdict.specs.declared.fault.CardFault.{CardFault}
use Rattle.verdict.specs.declared.fault.JudgeFault.{JudgeFault}
use Rattle.verdict.specs.declared.fault.JudgeFault.TheVariants.{Sheet, Card}
use Rattle.verdict.specs.Judging.{Gathered, blank, checked, at_place, onward, gathered}
use Rattle.verdict.proofs.Advancing.{Linked, linked_valid, advance, finish}
use Rattle.judge.specs.declared.gathering.Gathering.{Gathering}
use Rattle.judge.specs.Gathering.{gathering_of, Holds, AnswersAs, next_gathered, end_at}
use Rattle.judge.proofs.Outcomes.{answers_ok}
use Rattle.judge.proofs.Nexts.{TakenIn, taken_in, stopped}

at_end : (at place : ℕ) (x : Record) → Some place ≡ end_at at x → (x ≡ r.End) × (place ≡ at)
at_end at place r.End e = (refl, cc)
at_end at place _ e = absurd (cc)

not_at_end : (at : ℕ) (x : Record) → None ≡ end_at at x → is_end x ≡ false
not_at_end at r.End e = absurd (cc)
not_at_end at _ e = refl

-- a sheet that has been read up to a place
pub record Underway (h : Host) (m : Meaning) (sheet : List ℕ) (reader : Reader) (s : Gathering) : Type 0 where
  pub so_far : Gathered
  pub linked : Linked h reader.state so_far
  pub is : s ≡ gathering_of h m so_far
  pub rest : gathered h blank (reading sheet) ≡ gathered h so_far (reading_from reader.state reader.at (drop reader.at sheet))

module _ (h : Host) (m : Meaning) (sheet : List ℕ) where
  pub underway-first : (reader : Reader) (s : Gathering) → reader ≡ new_reader → s ≡ gathering_of h m blank → Underway h m sheet reader s
  underway-first reader s e is =
      subst (λ (x : Reader). Underway h m sheet x s) (sym e) (record { so_far = blank; linked = refl; is = is; rest = refl })

  module _ (reader : Reader) (s : Gathering) (u : Underway h m sheet reader s) where
    abbrev left : List ℕ
    left = drop reader.at sheet

    pub holds : Holds h m s u.so_far
    holds = record { valid = linked_valid h reader.state u.so_far u.linked; is = u.is }

    -- a fault of the code is the fault of the sheet
    pub faulty : (P : Gathered → Type 0) (y : JudgeFault) → AnswersAs (λ p. end_at reader.at p.0) (λ p. P p.1) (Err y) (next_gathered h u.so_far reader.at (taken reader sheet)) →
        gathered h blank (reading sheet) ≡ Err y
    faulty P y a = u.rest ∙ ⊎_elim (λ x. in_sheet x.0 x.1 ∙ ap Err (sym x.2)) (λ x. in_card x.0 x.1 x.2 x.3 ∙ ap Err (sym x.4)) (stopped h u.so_far reader.at P (taken reader sheet) y a)
      where
        in_sheet : (x : SheetFault) → taken reader sheet ≡ Err x → gathered h u.so_far (reading_from reader.state reader.at left) ≡ Err (Sheet x)
        in_sheet x e = ap (gathered h u.so_far) (reading_stops reader.state reader.at left x e)

        in_card : (p : Record × State) (f : CardFault) → taken reader sheet ≡ Ok p → checked h u.so_far p.0 ≡ Err f →
            gathered h u.so_far (reading_from reader.state reader.at left) ≡ Err (Card f reader.at)
        in_card p f e bad = elim (cases_Bool (is_end p.0)) [
          | inl end ↦ let good : checked h u.so_far p.0 ≡ Ok u.so_far = ap (checked h u.so_far) (only_end p.0 end) in absurd (cc)
          | inr on ↦
              let more = reading_from p.1 (reader.at + size p.0) (drop (size p.0) left) in
              ap (gathered h u.so_far) (reading_took reader.state reader.at left p e ∙ cond-false _ _ _ on)
              ∙ ap (λ o. onward (λ g'. gathered h g' more) (at_place reader.at o)) bad
        ]

    -- the end record ends the sheet, and no column has begun then
    pub finished : (s' : Gathering) (place : ℕ) (end : Option ℕ) → end ≡ Some place →
        AnswersAs (λ p. end_at reader.at p.0) (λ p. s' ≡ gathering_of h m p.1) (Ok end) (next_gathered h u.so_far reader.at (taken reader sheet)) →
        AnswersAs (λ p. p.1) (λ p. Holds h m s' p.0 × (p.0.column ≡ [])) (Ok place) (gathered h blank (reading sheet))
    finished s' place end some a =
        let i = taken_in h u.so_far reader.at (λ g'. s' ≡ gathering_of h m g') (taken reader sheet) end a in
        let last = at_end reader.at place i.taken (sym some ∙ i.told) in
        let took_end : taken reader sheet ≡ Ok (r.End, i.state) = i.took ∙ (λ k. Ok (last.0 k, i.state)) in
        let same : u.so_far ≡ i.after = let passed = ap (checked h u.so_far) (sym last.0) ∙ i.passed in cc in
        let all : gathered h blank (reading sheet) ≡ Ok (u.so_far, reader.at) =
        u.rest ∙ ap (gathered h u.so_far) (reading_took reader.state reader.at left (r.End, i.state) took_end) in
        let whole = finish h reader.state i.state u.so_far u.linked (took reader.state reader.at left (r.End, i.state) took_end).turned in
        answers_ok _ _ _ _ (u.so_far, reader.at) all (ap Ok last.1) (record { valid = holds.valid; is = i.holds ∙ ap (gathering_of h m) (sym same) }, whole.full)

    -- any other record is followed by the rest
    module _ (reader' : Reader) (s' : Gathering) (end : Option ℕ) (none : end ≡ None) (moved : reader' ≡ reader_after reader (taken reader sheet))
        (a : AnswersAs (λ p. end_at reader.at p.0) (λ p. s' ≡ gathering_of h m p.1) (Ok end) (next_gathered h u.so_far reader.at (taken reader sheet))) where
      i : TakenIn h u.so_far reader.at (λ g'. s' ≡ gathering_of h m g') (taken reader sheet) end
      i = taken_in h u.so_far reader.at (λ g'. s' ≡ gathering_of h m g') (taken reader sheet) end a

      abbrev x : Record
      x = i.taken

      on : is_end x ≡ false
      on = not_at_end reader.at x (sym none ∙ i.told)

      there : reader' ≡ record { state = i.state; at = reader.at + size x }
      there = moved ∙ ap (reader_after reader) i.took

      behind : drop (reader.at + size x) sheet ≡ drop (size x) left
      behind = sym (drop-drop (size x) reader.at sheet)

      pub fewer_left : length (drop reader'.at sheet) < length left
      fewer_left =
          omega (arith, ap (λ (y : Reader). length (drop y.at sheet)) there, ap (length {A = ℕ}) behind, fewer reader.state reader.at left (x, i.state) i.took)

      pub underway-next : Underway h m sheet reader' s'
      underway-next =
          let more = reading_from i.state (reader.at + size x) (drop (size x) left) in
          let adv = advance h reader.state u.so_far x i.state i.after on u.linked (took reader.state reader.at left (x, i.state) i.took).turned i.passed in
          subst (λ (y : Reader). Underway h m sheet y s') (sym there) (record {
            so_far = i.after;
            linked = adv.linked;
            is = i.holds;
            rest = u.rest ∙ ap (gathered h u.so_far) (reading_took reader.state reader.at left (x, i.state) i.took ∙ cond-false _ _ _ on)
                ∙ ap (λ o. onward (λ g'. gathered h g' more) (at_place reader.at o)) i.passed
                ∙ ap (λ (bs : List ℕ). gathered h i.after (reading_from i.state (reader.at + size x) bs)) (sym behind);
          })
