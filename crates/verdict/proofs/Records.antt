-- The records of columns and tolls: they are in turn, their numbers fit, and they tell the columns. Assumes nothing.
use Rattle.std.proofs.Common.{◌≡◌, ℕ, ◌-◌, ◌<◌, List, [], ◌∷◌, ◌++◌, map, length, Some, Option, sym, refl, ap, ◌∙◌, subst, ap₂, arith}
use Rattle.std.specs.List.{flat_map, AllByRecursion}
use Rattle.std.proofs.ByRecursion.{All-append}
use Rattle.std.proofs.lemmas.List.{append_assoc}
use Rattle.std.proofs.lemmas.Bool.{cond-true, lt-ltb}
use Rattle.std.proofs.lemmas.Bool.Decides.{nat_tests}
use Rattle.masks.proofs.Masks.{mask_lt}
use Rattle.host.specs.declared.Host.{Host}
use Rattle.host.specs.Maps.{stands}
use Rattle.plans.specs.Columns.{Card, Near, Column, ColumnAlong, GoesOn, standing}
use Rattle.plans.proofs.Places as Places
use Rattle.routable.specs.Cards.{card_of}
use Rattle.sheet.specs.declared.record.Record.{Record}
use Rattle.sheet.specs.declared.record.Record.TheVariants as r
use Rattle.sheet.specs.declared.record.Step.{Step}
use Rattle.sheet.specs.declared.record.Toll.{Toll}
use Rattle.sheet.specs.declared.state.State.{State}
use Rattle.sheet.specs.declared.state.State.TheVariants as s
use Rattle.sheet.specs.Runs.{run_from, run, Fits}
use Rattle.sheet.specs.Turns.{turn, with_left}
use Rattle.sheet.proofs.Runs.{run_append}
use Rattle.verdict.specs.Judging.{stepped}
use Rattle.verdict.specs.Sheets.{step_to, steps, column_records, records}
use Rattle.verdict.proofs.Hosts.{counted, low_rows, narrow}
use Rattle.verdict.proofs.Lists.{all_in}
use Rattle.verdict.proofs.TollLists.{Payable}

-- a step between neighbours
pub stepped_to : (j k : ℕ) → Near j k → stepped (step_to j k) j ≡ Some k
stepped_to j k near = grind (arith, nat_tests)

-- in turn: a column is a start and as many steps as rows are left
steps_legal : (n j : ℕ) (ks : List ℕ) → run (with_left n (length ks)) (steps j ks) ≡ Some (s.Between n)
steps_legal n j [] = refl
steps_legal n j (k ∷ ks) =
    let left : with_left n (length (k ∷ ks)) ≡ s.Column n (length (k ∷ ks)) = cond-true _ _ _ (lt-ltb 0 (length (k ∷ ks)) (omega arith)) in
    let less : length (k ∷ ks) - 1 ≡ length ks = omega arith in
    ap (λ (a : State). run a (steps j (k ∷ ks))) left ∙ ap (λ (m : ℕ). run (with_left n m) (steps k ks)) less ∙ steps_legal n k ks

column_legal : (n : ℕ) (a : List ℕ) → length a ≡ n → 0 < n → run (s.Between n) (column_records a) ≡ Some (s.Between n)
column_legal n [] e some = refl
column_legal n (j ∷ ks) e some =
    let left : n - 1 ≡ length ks = omega arith in
    ap (λ (m : ℕ). run (with_left n m) (steps j ks)) left ∙ steps_legal n j ks

columns_legal : (c : Card) (f : List (List ℕ)) → AllByRecursion (Column c) f → run (s.Between (standing c)) (flat_map column_records f) ≡ Some (s.Between (standing c))
columns_legal c [] ws = refl
columns_legal c (a ∷ f) ws =
    let pl = (Places.column c a).0 ws.0 in
    run_append (Some (s.Between (standing c))) (column_records a) (flat_map column_records f)
    ∙ ap (λ (o : Option State). run_from o (flat_map column_records f)) (column_legal (standing c) a pl.1 pl.0) ∙ columns_legal c f ws.1

tolls_legal : (ts : List Toll) (a : State) → ((t : Toll) → turn a (r.Toll t) ≡ Some s.Tolls) → turn a r.End ≡ Some s.Ended → run a (map r.Toll ts ++ r.End ∷ []) ≡ Some s.Ended
tolls_legal [] a takes ends = ends
tolls_legal (t ∷ ts) a takes ends = ap (λ (o : Option State). run_from o (map r.Toll ts ++ r.End ∷ [])) (takes t) ∙ tolls_legal ts s.Tolls (λ d. refl) refl

pub records_legal : (h : Host) (f : List (List ℕ)) (ts : List Toll) → AllByRecursion (Column (card_of h)) f → run s.Opening (records h f ts) ≡ Some s.Ended
records_legal h f ts ws =
    let rest = map r.Toll ts ++ r.End ∷ [] in
    ap (λ (n : ℕ). run (s.Between n) (flat_map column_records f ++ rest)) (counted h)
    ∙ run_append (Some (s.Between (standing (card_of h)))) (flat_map column_records f) rest
    ∙ ap (λ (o : Option State). run_from o rest) (columns_legal (card_of h) f ws) ∙ tolls_legal ts (s.Between (standing (card_of h))) (λ d. refl) refl

-- their numbers fit
module _ (h : Host) where
  steps_fit : (j : ℕ) (ks : List ℕ) → AllByRecursion Fits (steps j ks)
  steps_fit j [] = tt
  steps_fit j (k ∷ ks) = (tt, steps_fit k ks)

  along_fits : (rows a : List ℕ) → ColumnAlong (card_of h) rows a → AllByRecursion Fits (column_records a)
  along_fits [] a w = absurd w
  along_fits (q ∷ rows) [] w = absurd w
  along_fits (q ∷ rows) (j ∷ ks) w = (omega (arith, narrow h q j w.0), steps_fit j ks)

  columns_fit : (f : List (List ℕ)) → AllByRecursion (Column (card_of h)) f → AllByRecursion Fits (flat_map column_records f)
  columns_fit [] ws = tt
  columns_fit (a ∷ f) ws = All-append Fits (column_records a) (flat_map column_records f) (along_fits (card_of h).rows a ws.0) (columns_fit f ws.1)

  tolls_fit : (ts : List Toll) → AllByRecursion (Payable (card_of h)) ts → AllByRecursion Fits (map r.Toll ts)
  tolls_fit [] ps = tt
  tolls_fit (t ∷ ts) ps = (
    (omega (arith, all_in (λ q. q < 64) t.row (card_of h).rows (low_rows h) ps.0.in_row), omega (arith, narrow h t.row t.column ps.0.usable), omega (arith, ps.0.limit)),
    tolls_fit ts ps.1,
  )

  pub records_fit : (f : List (List ℕ)) (ts : List Toll) → AllByRecursion (Column (card_of h)) f → AllByRecursion (Payable (card_of h)) ts → AllByRecursion Fits (records h f ts)
  records_fit f ts ws ps = (
    (omega (arith, h.size.sized.1), omega (arith, h.size.sized.3), mask_lt (stands h) 64),
    All-append Fits (flat_map column_records f) (map r.Toll ts ++ r.End ∷ []) (columns_fit f ws) (All-append Fits (map r.Toll ts) (r.End ∷ []) (tolls_fit ts ps) (tt, tt)),
  )

-- and they tell the columns
steps-same : (c : Card) (j : ℕ) (rows ks ls : List ℕ) (xs ys : List Record) → GoesOn c j rows ks → GoesOn c j rows ls →
    steps j ks ++ xs ≡ steps j ls ++ ys → (ks ≡ ls) × (xs ≡ ys)
steps-same c j [] [] [] xs ys v w e = (refl, e)
steps-same c j [] [] (l ∷ ls) xs ys v w e = absurd w
steps-same c j [] (k ∷ ks) ls xs ys v w e = absurd v
steps-same c j (q ∷ rows) [] ls xs ys v w e = absurd v
steps-same c j (q ∷ rows) (k ∷ ks) [] xs ys v w e = absurd w
steps-same c j (q ∷ rows) (k ∷ ks) (l ∷ ls) xs ys v w e =
    let same_step : step_to j k ≡ step_to j l = cc in
    let rest : steps k ks ++ xs ≡ steps l ls ++ ys = cc in
    let some : Some k ≡ Some l = sym (stepped_to j k v.0) ∙ ap (λ (x : Step). stepped x j) same_step ∙ stepped_to j l w.0 in
    let same : k ≡ l = cc in
    let more = steps-same c l rows ks ls xs ys (subst (λ (x : ℕ). GoesOn c x rows ks) same v.2) w.2 (ap (λ (x : ℕ). steps x ks ++ xs) (sym same) ∙ rest) in
    (ap₂ (λ (x : ℕ) (z : List ℕ). x ∷ z) same more.0, more.1)

column_same : (c : Card) (rows a b : List ℕ) (xs ys : List Record) → ColumnAlong c rows a → ColumnAlong c rows b →
    column_records a ++ xs ≡ column_records b ++ ys → (a ≡ b) × (xs ≡ ys)
column_same c [] a b xs ys v w e = absurd v
column_same c (q ∷ rows) [] b xs ys v w e = absurd v
column_same c (q ∷ rows) (j ∷ ks) [] xs ys v w e = absurd w
column_same c (q ∷ rows) (j ∷ ks) (l ∷ ls) xs ys v w e =
    let same : j ≡ l = cc in
    let rest : steps j ks ++ xs ≡ steps l ls ++ ys = cc in
    let more = steps-same c l rows ks ls xs ys (subst (λ (x : ℕ). GoesOn c x rows ks) same v.1) w.1 (ap (λ (x : ℕ). steps x ks ++ xs) (sym same) ∙ rest) in
    (ap₂ (λ (x : ℕ) (z : List ℕ). x ∷ z) same more.0, more.1)

-- a list that does not go on with a column
abbrev NoStart : List Record → Type 0
NoStart (r.Start j ∷ xs) = ⊥
NoStart _ = Unit {0}

begins : (c : Card) (rows a : List ℕ) (xs : List Record) → ColumnAlong c rows a → NoStart (column_records a ++ xs) → ⊥
begins c [] a xs w n = w
begins c (q ∷ rows) [] xs w n = w
begins c (q ∷ rows) (j ∷ ks) xs w n = n

columns_same : (c : Card) (f g : List (List ℕ)) (xs ys : List Record) → AllByRecursion (Column c) f → AllByRecursion (Column c) g → NoStart xs → NoStart ys →
    flat_map column_records f ++ xs ≡ flat_map column_records g ++ ys → f ≡ g
columns_same c [] [] xs ys vs ws m n e = refl
columns_same c [] (b ∷ g) xs ys vs ws m n e =
    absurd (begins c c.rows b (flat_map column_records g ++ ys) ws.0 (subst NoStart (e ∙ append_assoc (column_records b) (flat_map column_records g) ys) m))
columns_same c (a ∷ f) [] xs ys vs ws m n e =
    absurd (begins c c.rows a (flat_map column_records f ++ xs) vs.0 (subst NoStart (sym e ∙ append_assoc (column_records a) (flat_map column_records f) xs) n))
columns_same c (a ∷ f) (b ∷ g) xs ys vs ws m n e =
    let one = column_same c c.rows a b (flat_map column_records f ++ xs) (flat_map column_records g ++ ys) vs.0 ws.0
    (sym (append_assoc (column_records a) (flat_map column_records f) xs) ∙ e ∙ append_assoc (column_records b) (flat_map column_records g) ys) in
    ap₂ (λ (x : List ℕ) (z : List (List ℕ)). x ∷ z) one.0 (columns_same c f g xs ys vs.1 ws.1 m n one.1)

tolls_no_start : (ts : List Toll) → NoStart (map r.Toll ts ++ r.End ∷ [])
tolls_no_start [] = tt
tolls_no_start (t ∷ ts) = tt

pub same_columns : (h : Host) (f g : List (List ℕ)) (ds ts : List Toll) → AllByRecursion (Column (card_of h)) f → AllByRecursion (Column (card_of h)) g → records h f ds ≡ records h g ts → f ≡ g
same_columns h f g ds ts vs ws e =
    let rest : flat_map column_records f ++ (map r.Toll ds ++ r.End ∷ []) ≡ flat_map column_records g ++ (map r.Toll ts ++ r.End ∷ []) = cc in
    columns_same (card_of h) f g (map r.Toll ds ++ r.End ∷ []) (map r.Toll ts ++ r.End ∷ []) vs ws (tolls_no_start ds) (tolls_no_start ts) rest
