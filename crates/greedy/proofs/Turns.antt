-- One start more: what it leaves for those that follow. Assumes nothing.
use Rattle.std.proofs.Common.{◌≡◌, ℕ, zero, suc, ◌-◌, Bool, true, false, List, [], ◌∷◌, length, get_or, Some, None, Option, sym, refl, ap, ◌∙◌, ap₂, arith, pow_pos}
use Rattle.std.proofs.lemmas.Bool.{true≢false, false≢true}
use Rattle.masks.specs.Masks.{bit, how_many, least}
use Rattle.masks.specs.Members.{members}
use Rattle.masks.proofs.Members.{passing-empty, members-none, members_first}
use Rattle.masks.proofs.Bits.{bit_low}
use Rattle.greedy.specs.Search.{Outcome, PE, without, reach, ended, before, and_then, starts, usable_starts, greedy}
use Rattle.greedy.specs.Answers.{seen, told}
use Rattle.greedy.proofs.Columns.{reach_is}
use Rattle.greedy.proofs.Rows.{how_many-without}

-- the starts of a row, where j is the next one
module _ (row j : ℕ) (later : List ℕ) (next : members (bit row) ≡ j ∷ later) where
  next_is : (o : Option ℕ) → least (bit row) ≡ o → (o ≡ Some j) × (members (bit (without row j)) ≡ later)
  next_is None e = absurd (omega (arith, ap length (sym (members-none row e) ∙ next)))
  next_is (Some i) e =
      let both : i ∷ members (bit (without row i)) ≡ j ∷ later = sym (members_first row i (without row i) e refl) ∙ next in
      let same : i ≡ j = cc in
      (ap Some same, ap (λ k. members (bit (without row k))) (sym same) ∙ cc)

  pub start_is : (least (bit row) ≡ Some j) × (members (bit (without row j)) ≡ later)
  start_is = next_is (least (bit row)) refl

-- no starts are left
pub no_start : (row : ℕ) → members (bit row) ≡ [] → least (bit row) ≡ None
no_start row none = none_of (least (bit row)) refl
  where
    none_of : (o : Option ℕ) → least (bit row) ≡ o → o ≡ None
    none_of None e = refl
    none_of (Some i) e = absurd (omega (arith, ap length (sym (members_first row i (without row i) e refl) ∙ none)))

-- with no rows there is no start
pub rows_are : (j : ℕ) (later : List ℕ) → members (bit 0) ≡ j ∷ later → ⊥
rows_are j later next = omega (arith, ap length (sym (passing-empty (bit 0) 64 (λ i l. bit_low 0 i (pow_pos i))) ∙ next))

starts-after : (n j row : ℕ) (rows : List ℕ) → usable_starts (reach n j (row ∷ rows)).untried ≡ how_many (bit (without row j))
starts-after n j row rows = ap (λ o. usable_starts o.untried) (reach_is n j row rows)

-- one start, and none
starts_some : (n j row : ℕ) (rows : List ℕ) → least (bit row) ≡ Some j → starts (suc n) (row ∷ rows) ≡ and_then (reach (length rows) j (row ∷ rows)) (starts n)
unfolding starts
starts_some n j row rows e = ap (λ o. elim o [ Some k ↦ and_then (reach (length rows) k (row ∷ rows)) (starts n) | None ↦ ended (row ∷ rows) ]) e

starts-none : (n row : ℕ) (rows : List ℕ) → least (bit row) ≡ None → starts n (row ∷ rows) ≡ ended (row ∷ rows)
unfolding starts
starts-none zero row rows e = refl
starts-none (suc n) row rows e = ap (λ o. elim o [ Some k ↦ and_then (reach (length rows) k (row ∷ rows)) (starts n) | None ↦ ended (row ∷ rows) ]) e

greedy_start : (j row : ℕ) (rows : List ℕ) → least (bit row) ≡ Some j →
    greedy (row ∷ rows) ≡ and_then (reach (length rows) j (row ∷ rows)) greedy
greedy_start j row rows e =
    let o = reach (length rows) j (row ∷ rows) in
    let left : ℕ = how_many (bit (without row j)) in
    ap (λ n. starts n (row ∷ rows)) (how_many-without row j e) ∙ starts_some left j row rows e
    ∙ ap (λ n. and_then o (starts n)) (sym (starts-after (length rows) j row rows))

pub greedy_end : (u : List ℕ) → least (bit (get_or u 0 0)) ≡ None → greedy u ≡ ended u
unfolding starts
greedy_end [] e = refl
greedy_end (row ∷ rows) e = starts-none (how_many (bit row)) row rows e

pub fewer_starts : (j row : ℕ) (rows : List ℕ) → least (bit row) ≡ Some j →
    usable_starts (row ∷ rows) ≡ suc (usable_starts (reach (length rows) j (row ∷ rows)).untried)
fewer_starts j row rows e = how_many-without row j e ∙ ap suc (sym (starts-after (length rows) j row rows))

-- what a call of `reach` tells of its outcome
module _ (p q u untried : List ℕ) (tried : List PE) where
  abbrev outcome : Option (List ℕ) → Outcome
  outcome found = record { found = found; untried = untried; tried = tried }

  when_found : (f : Option (List ℕ)) → seen true p u ≡ told q (outcome f) → (f ≡ Some p) × (untried ≡ u)
  when_found (Some a) e = (ap Some (sym (ap (λ s. s.path) e)), sym (ap (λ s. s.untried) e))
  when_found None e = absurd (true≢false (ap (λ s. s.answer) e))

  when_missed : (f : Option (List ℕ)) → seen false p u ≡ told q (outcome f) → (f ≡ None) × (untried ≡ u) × (p ≡ q)
  when_missed None e = (refl, sym (ap (λ s. s.untried) e), ap (λ s. s.path) e)
  when_missed (Some a) e = absurd (false≢true (ap (λ s. s.answer) e))

-- what is left after a start, where a column was found and where none was
module _ (j row : ℕ) (rows p q u : List ℕ) (start : least (bit row) ≡ Some j) where
  abbrev outcome_at : Outcome
  outcome_at = reach (length rows) j (row ∷ rows)

  pub record Turned (columns : List (List ℕ)) : Type 0 where
    pub columns_are : (greedy (row ∷ rows)).columns ≡ columns
    pub untried_is : (greedy (row ∷ rows)).untried ≡ (greedy u).untried
    pub fewer_are : usable_starts (row ∷ rows) ≡ suc (usable_starts u)
    pub first_is : get_or u 0 0 ≡ without row j

  turned : (f : Option (List ℕ)) → outcome_at.found ≡ f → outcome_at.untried ≡ u → Turned (before f (greedy u).columns)
  turned f is left = record {
    columns_are =
        ap (λ e. e.columns) (greedy_start j row rows start)
        ∙ ap₂ (λ g v. before g (greedy v).columns) is left;
    untried_is = ap (λ e. e.untried) (greedy_start j row rows start) ∙ ap (λ v. (greedy v).untried) left;
    fewer_are = fewer_starts j row rows start ∙ ap (λ v. suc (usable_starts v)) left;
    first_is = ap (λ v. get_or v 0 0) (sym left) ∙ ap (λ o. get_or o.untried 0 0) (reach_is (length rows) j row rows);
  }

  at_length : (r : Bool) → seen r p u ≡ told q (reach (length (row ∷ rows) - 1) j (row ∷ rows)) → seen r p u ≡ told q outcome_at
  at_length r e = let n : length (row ∷ rows) - 1 ≡ length rows = omega arith in e ∙ ap (λ m. told q (reach m j (row ∷ rows))) n

  pub turned_found : seen true p u ≡ told q (reach (length (row ∷ rows) - 1) j (row ∷ rows)) → Turned (p ∷ (greedy u).columns)
  turned_found e =
      let w = when_found p q u outcome_at.untried outcome_at.tried outcome_at.found (at_length true e) in
      turned (Some p) w.0 w.1

  pub turned_missed : seen false p u ≡ told q (reach (length (row ∷ rows) - 1) j (row ∷ rows)) → Turned (greedy u).columns × (p ≡ q)
  turned_missed e =
      let w = when_missed p q u outcome_at.untried outcome_at.tried outcome_at.found (at_length false e) in
      (turned None w.0 w.1, w.2)
