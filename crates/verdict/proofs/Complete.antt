-- The sheet of a plan is accepted. Assumes nothing.
use Rattle.std.proofs.Common.{◌≡◌, ℕ, ◌+◌, ◌-◌, ◌*◌, ◌<◌, Bool, true, false, cond, not, eqb, ltb, List, [], ◌∷◌, ◌++◌, map, length, get_or, Some, None, Ok, Option, sym, refl, ap, ◌∙◌, subst, arith}
use Rattle.std.specs.List.{flat_map, AllByRecursion}
use Rattle.std.proofs.ByRecursion.{All-push}
use Rattle.std.proofs.lemmas.List.{append_assoc, append-nil, length_push, length-append, get_or_at, get_or_append_left}
use Rattle.std.proofs.lemmas.Bool.{cond-true, cond-false, eq-eqb, ne_eqb, lt-ltb, not_from_true}
use Rattle.std.proofs.lemmas.Bool.Decides.{nat_tests}
use Rattle.host.specs.declared.Host.{Host}
use Rattle.host.specs.Maps.{stands}
use Rattle.host.specs.Refusals.{refuse, answered}
use Rattle.tariff.specs.Meaning.{Meaning}
use Rattle.plans.specs.Columns.{Usable, Near, Column, standing, row}
use Rattle.plans.specs.Families.{LeftOf, Pairwise, total, total_charge}
use Rattle.plans.specs.Least.{last}
use Rattle.plans.specs.Tolls.{Tolls, Plan, worth}
use Rattle.plans.proofs.Places as Places
use Rattle.plans.proofs.Passing.{passing_each}
use Rattle.routable.specs.Cards.{card_of}
use Rattle.routable.proofs.Cards.{within}
use Rattle.sheet.specs.declared.record.Record.{Record}
use Rattle.sheet.specs.declared.record.Record.TheVariants as r
use Rattle.sheet.specs.declared.record.Toll.{Toll}
use Rattle.sheet.specs.declared.state.State.TheVariants as s
use Rattle.sheet.specs.Records.{size, is_end}
use Rattle.sheet.specs.Readings.{reading, then, ends}
use Rattle.sheet.specs.Runs.{placed}
use Rattle.sheet.proofs.Runs.{reads_from}
use Rattle.verdict.specs.declared.fault.CardFault.{CardFault}
use Rattle.verdict.specs.declared.fault.CardFault.TheVariants.{WrongSum}
use Rattle.verdict.specs.Judging.{Gathered, blank, with_pe, pe_checked, step_checked, before, with_toll, toll_fault, checked, at_place, onward, gathered, toll_of, adds_up, settled, judged}
use Rattle.verdict.specs.Sheets.{step_to, steps, column_records, head_of, records, toll_list, sheet_of}
use Rattle.verdict.specs.Theorems.{LeftToRight}
use Rattle.verdict.proofs.Hosts.{ascending, inside, narrow}
use Rattle.verdict.proofs.Lists.{In, After, true_after, after_all, all_in, pairwise_before}
use Rattle.verdict.proofs.Placing.{RightIn, column_right, last_at, last_push}
use Rattle.verdict.proofs.TollLists.{Before, true_before, Payable, Listed, list_listed, list_at, down_sum, supports_same}
use Rattle.verdict.proofs.Records.{stepped_to, records_legal, records_fit}
use Rattle.verdict.proofs.Verdicts.{all_dear}

-- full columns and tolls
abbrev pub having : List (List ℕ) → List Toll → Gathered
having f ts = record { columns = f; column = []; tolls = ts }

-- a test that does not refuse
passes : {A : Type 0} (t : Bool) (x : CardFault) (later : Option CardFault) (a : A) → t ≡ true → answered (refuse (not t) x later) a ≡ answered later a
passes t x later a e = ap (λ (o : Option CardFault). answered o a) (cond-false (not t) (Some x) later (not_from_true t e))

module _ (h : Host) where
  -- these records lead a judge from what it has to something else
  abbrev Leads : Gathered → List Record → Gathered → Type 0
  Leads g xs g' = (at : ℕ) (rest : List Record) → (at' : ℕ) × (gathered h g (placed at (xs ++ rest)) ≡ gathered h g' (placed at' rest))

  leads_none : (g : Gathered) → Leads g [] g
  leads_none g at rest = (at, refl)

  leads_one : (g : Gathered) (x : Record) (g' : Gathered) → is_end x ≡ false → checked h g x ≡ Ok g' → Leads g (x ∷ []) g'
  leads_one g x g' on c at rest = (
    at + size x,
    ap (gathered h g) (cond-false (is_end x) (ends at) (then at x (placed (at + size x) rest)) on)
        ∙ ap (λ o. onward (λ y. gathered h y (placed (at + size x) rest)) (at_place at o)) c,
  )

  leads_append : (g : Gathered) (xs : List Record) (g₁ : Gathered) (ys : List Record) (g₂ : Gathered) → Leads g xs g₁ → Leads g₁ ys g₂ → Leads g (xs ++ ys) g₂
  leads_append g xs g₁ ys g₂ l m at rest =
      let one = l at (ys ++ rest) in
      let two = m one.0 rest in
      (two.0, ap (λ (zs : List Record). gathered h g (placed at zs)) (append_assoc xs ys rest) ∙ one.1 ∙ two.1)

  pe_passes : (g : Gathered) (j : ℕ) → length g.column < standing (card_of h) → Usable (card_of h) (row (card_of h) (length g.column)) j →
      After (RightIn (length g.column)) g.columns j → pe_checked h g j ≡ Ok (with_pe h g j)
  pe_passes g j room use' right =
      let k = length g.column in
      let within = inside h (row (card_of h) k) j use' in
      let last = true_after (λ a i. ltb (get_or a k 0) i) (RightIn k) (λ a i. lt-ltb (get_or a k 0) i) g.columns j right in
      grind (arith, nat_tests)

  -- a column
  module _ (done : List (List ℕ)) (a : List ℕ) (cs : AllByRecursion (Column (card_of h)) done) (w : Column (card_of h) a) (left : After LeftOf done a) where
    abbrev n : ℕ
    n = standing (card_of h)

    abbrev begun : List ℕ → Gathered
    begun cur = record { columns = done; column = cur; tolls = [] }

    -- with some of its PEs
    abbrev with' : List ℕ → Gathered
    with' cur = cond (eqb (length cur) n) (having (done ++ cur ∷ []) []) (begun cur)

    one_more : (cur : List ℕ) (k : ℕ) (ks : List ℕ) → cur ++ k ∷ ks ≡ a → pe_checked h (begun cur) k ≡ Ok (with' (cur ++ k ∷ []))
    one_more cur k ks e =
        let c = card_of h in
        let i = length cur in
        let pl = (Places.column c a).0 w in
        let here : get_or a i 0 ≡ k = ap (λ (z : List ℕ). get_or z i 0) (sym e) ∙ get_or_at cur k ks 0 i refl in
        let room : i < n = omega (arith, pl.1, ap length e, length-append cur (k ∷ ks)) in
        pe_passes (begun cur) k room (subst (Usable c (row c i)) here (pl.2 i room))
        (subst (After (RightIn i) done) here (column_right c done a left cs w i room))

    near_next : (cur : List ℕ) (k : ℕ) (ks : List ℕ) → cur ++ k ∷ ks ≡ a → 0 < length cur → Near (last cur) k
    near_next cur k ks e some =
        let i = length cur - 1 in
        let up : i + 1 ≡ length cur = omega arith in
        let pl = (Places.column (card_of h) a).0 w in
        let here : get_or a (i + 1) 0 ≡ k = ap (λ (z : List ℕ). get_or z (i + 1) 0) (sym e) ∙ get_or_at cur k ks 0 (i + 1) (sym up) in
        let there : get_or a i 0 ≡ get_or cur i 0 = ap (λ (z : List ℕ). get_or z i 0) (sym e) ∙ get_or_append_left cur (k ∷ ks) 0 i (omega arith) in
        let near = pl.3 i (omega (arith, pl.1, ap length e, length-append cur (k ∷ ks))) in
        omega (arith, here, there, last_at cur i up, near.0, near.1)

    -- the rest of the column, after some of its PEs
    grows : (ks cur : List ℕ) → cur ++ ks ≡ a → 0 < length cur → Leads (with' cur) (steps (last cur) ks) (having (done ++ a ∷ []) [])
    grows [] cur e some =
        let is : cur ≡ a = sym (append-nil cur) ∙ e in
        let len : length cur ≡ n = ap length is ∙ ((Places.column (card_of h) a).0 w).1 in
        let g : with' cur ≡ having (done ++ a ∷ []) [] =
        cond-true (eqb (length cur) n) (having (done ++ cur ∷ []) []) (begun cur) (eq-eqb (length cur) n len) ∙ ap (λ (z : List ℕ). having (done ++ z ∷ []) []) is in
        subst (λ (y : Gathered). Leads y [] (having (done ++ a ∷ []) [])) (sym g) (leads_none (having (done ++ a ∷ []) []))
    grows (k ∷ ks) cur e some =
        let i = length cur in
        let pl = (Places.column (card_of h) a).0 w in
        let room : i < n = omega (arith, pl.1, ap length e, length-append cur (k ∷ ks)) in
        let g : with' cur ≡ begun cur = cond-false (eqb i n) (having (done ++ cur ∷ []) []) (begun cur) (ne_eqb i n (omega arith)) in
        let x = r.Step (step_to (last cur) k) in
        let head = leads_one (begun cur) x (with' (cur ++ k ∷ [])) refl
        (ap (step_checked h (begun cur)) (stepped_to (last cur) k (near_next cur k ks e some)) ∙ one_more cur k ks e) in
        let tail = grows ks (cur ++ k ∷ []) (append_assoc cur (k ∷ []) ks ∙ e) (omega (arith, length_push cur k)) in
        let tail' : Leads (with' (cur ++ k ∷ [])) (steps k ks) (having (done ++ a ∷ []) []) =
        subst (λ (y : ℕ). Leads (with' (cur ++ k ∷ [])) (steps y ks) (having (done ++ a ∷ []) [])) (last_push cur k) tail in
        subst (λ (z : Gathered). Leads z (x ∷ steps k ks) (having (done ++ a ∷ []) [])) (sym g)
        (leads_append (begun cur) (x ∷ []) (with' (cur ++ k ∷ [])) (steps k ks) (having (done ++ a ∷ []) []) head tail')

    column_leads : (z : List ℕ) → z ≡ a → Leads (begun []) (column_records z) (having (done ++ a ∷ []) [])
    column_leads [] e = let pl = (Places.column (card_of h) a).0 w in absurd (omega (arith, ap length e, pl.0, pl.1))
    column_leads (j ∷ ks) e =
        leads_append (begun []) (r.Start j ∷ []) (with' (j ∷ [])) (steps j ks) (having (done ++ a ∷ []) [])
        (leads_one (begun []) (r.Start j) (with' (j ∷ [])) refl (one_more [] j ks e)) (grows ks (j ∷ []) e (omega arith))

  columns_lead : (f done : List (List ℕ)) → AllByRecursion (Column (card_of h)) done → AllByRecursion (Column (card_of h)) f → Pairwise LeftOf (done ++ f) →
      Leads (having done []) (flat_map column_records f) (having (done ++ f) [])
  columns_lead [] done cs ws p =
      subst (λ (x : List (List ℕ)). Leads (having done []) [] (having x [])) (sym (append-nil done)) (leads_none (having done []))
  columns_lead (a ∷ f) done cs ws p =
      let regroup : (done ++ a ∷ []) ++ f ≡ done ++ a ∷ f = append_assoc done (a ∷ []) f in
      let head = column_leads done a cs ws.0 (after_all LeftOf done a (pairwise_before LeftOf done a f p)) a refl in
      let tail = columns_lead f (done ++ a ∷ []) (All-push (Column (card_of h)) done a cs ws.0) ws.1 (subst (Pairwise LeftOf) (sym regroup) p) in
      leads_append (having done []) (column_records a) (having (done ++ a ∷ []) []) (flat_map column_records f) (having (done ++ a ∷ f) []) head
      (subst (λ (x : List (List ℕ)). Leads (having (done ++ a ∷ []) []) (flat_map column_records f) (having x [])) regroup tail)

  -- tolls
  stands_in : (q : ℕ) → In q (card_of h).rows → stands h q ≡ true
  stands_in q i = (all_in _ q (card_of h).rows (passing_each (stands h) 64) i).1

  toll_passes : (g : Gathered) (t : Toll) → Payable (card_of h) t → After Before g.tolls t →
      answered (toll_fault h g t) (with_toll g t) ≡ Ok (with_toll g t)
  toll_passes g t p after =
      let stands = stands_in t.row p.in_row in
      let last = true_after before Before true_before g.tolls t after in
      grind (arith, nat_tests)

  tolls_lead : (f : List (List ℕ)) (ts ds : List Toll) → AllByRecursion (Payable (card_of h)) ts → Pairwise Before (ds ++ ts) →
      Leads (having f ds) (map r.Toll ts) (having f (ds ++ ts))
  tolls_lead f [] ds ps q = subst (λ (x : List Toll). Leads (having f ds) [] (having f x)) (sym (append-nil ds)) (leads_none (having f ds))
  tolls_lead f (t ∷ ts) ds ps q =
      let regroup : (ds ++ t ∷ []) ++ ts ≡ ds ++ t ∷ ts = append_assoc ds (t ∷ []) ts in
      let head = leads_one (having f ds) (r.Toll t) (having f (ds ++ t ∷ [])) refl
      (toll_passes (having f ds) t ps.0 (after_all Before ds t (pairwise_before Before ds t ts q))) in
      let tail = tolls_lead f ts (ds ++ t ∷ []) ps.1 (subst (Pairwise Before) (sym regroup) q) in
      leads_append (having f ds) (r.Toll t ∷ []) (having f (ds ++ t ∷ [])) (map r.Toll ts) (having f (ds ++ t ∷ ts)) head
      (subst (λ (x : List Toll). Leads (having f (ds ++ t ∷ [])) (map r.Toll ts) (having f x)) regroup tail)

  head_passes : checked h blank (head_of h) ≡ Ok blank
  head_passes = grind (arith, nat_tests)

  -- columns and tolls are gathered from their records
  reaches : (f : List (List ℕ)) (ts : List Toll) → AllByRecursion (Column (card_of h)) f → LeftToRight f → Listed (card_of h) ts →
      (at : ℕ) × (gathered h blank (placed 0 (records h f ts)) ≡ Ok (having f ts, at))
  reaches f ts ws ordered listed =
      let head = leads_one blank (head_of h) blank refl head_passes in
      let cols = columns_lead f [] tt ws ordered in
      let tolls = tolls_lead f ts [] listed.each listed.sorted in
      let all = leads_append blank (head_of h ∷ []) blank (flat_map column_records f ++ map r.Toll ts) (having f ts) head
      (leads_append blank (flat_map column_records f) (having f []) (map r.Toll ts) (having f ts) cols tolls) in
      let split : records h f ts ≡ (head_of h ∷ (flat_map column_records f ++ map r.Toll ts)) ++ r.End ∷ [] =
      ap (λ (xs : List Record). head_of h ∷ xs) (sym (append_assoc (flat_map column_records f) (map r.Toll ts) (r.End ∷ []))) in
      let step = all 0 (r.End ∷ []) in
      (step.0, ap (λ (xs : List Record). gathered h blank (placed 0 xs)) split ∙ step.1)

pub complete : (h : Host) (m : Meaning) (toll : Tolls) (f : List (List ℕ)) → Plan (card_of h) m toll f → LeftToRight f →
    judged h m (sheet_of h f toll) ≡ Ok (record { columns = f; tolls = toll_list h toll })
complete h m toll f plan ordered =
    let c = card_of h in
    let ts = toll_list h toll in
    let listed = list_listed c (ascending h) (narrow h) toll plan.allowed in
    let here = reaches h f ts plan.family.each ordered listed in
    let back : reading (sheet_of h f toll) ≡ placed 0 (records h f ts) =
    reads_from (records h f ts) s.Opening 0 s.Ended (records_fit h f ts plan.family.each listed.each) (records_legal h f ts plan.family.each) in
    let sup = supports_same c m toll (toll_of ts) f (λ q j i. sym (list_at c (ascending h) (narrow h) toll plan.allowed q j i)) plan.supports in
    let cheap = all_dear c m (toll_of ts) (within h) sup.none_below in
    let sum : adds_up c m (having f ts) ≡ true =
    eq-eqb (total (λ t. t.amount) ts + total_charge c m f) (worth * length f) (omega (arith, down_sum toll c.rows, plan.supports.add_up)) in
    ap (λ q. settled c m (gathered h blank q)) back ∙ ap (settled c m) here.1
    ∙ ap (λ (o : Option CardFault). at_place here.0 (answered o (record { columns = f; tolls = ts }))) (cond-false _ _ _ cheap)
    ∙ ap (at_place here.0) (passes (adds_up c m (having f ts)) WrongSum None (record { columns = f; tolls = ts }) sum)
