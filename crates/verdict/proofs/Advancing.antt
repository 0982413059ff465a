-- What a judge has of a sheet, and the records that led there. Assumes nothing.
use Rattle.std.proofs.Common.{◌≡◌, ℕ, ◌+◌, ◌-◌, ◌<◌, ◌≤◌, true, false, eqb, ltb, List, [], ◌∷◌, ◌++◌, map, length, get_or, Some, None, Ok, Err, Option, Result, sym, refl, ap, ◌∙◌, subst, subst₂, inl, inr, arith}
use Rattle.std.specs.List.{flat_map, AllByRecursion}
use Rattle.std.proofs.ByRecursion.{All-push}
use Rattle.std.proofs.lemmas.List.{append_assoc, append-nil, flat_map_more, length_push, map_push}
use Rattle.std.proofs.lemmas.Bool.{cases_eq, cond-true, cond-false, eq-eqb, ne_eqb, ltb-true, lt-ltb, le-ltb}
use Rattle.std.proofs.lemmas.Bool.Decides.{nat_tests}
use Rattle.masks.specs.Masks.{bit, mask, how_many}
use Rattle.host.specs.declared.Host.{Host}
use Rattle.host.specs.Maps.{usable, stands}
use Rattle.host.specs.Refusals.{answered}
use Rattle.plans.specs.Columns.{Near, Column, standing, row}
use Rattle.plans.specs.Families.{LeftOf, Pairwise}
use Rattle.plans.specs.Least.{last}
use Rattle.plans.specs.Tolls.{worth}
use Rattle.routable.specs.Cards.{card_of}
use Rattle.sheet.specs.declared.record.Head.{Head}
use Rattle.sheet.specs.declared.record.Record.{Record}
use Rattle.sheet.specs.declared.record.Record.TheVariants as r
use Rattle.sheet.specs.declared.record.Step.{Step}
use Rattle.sheet.specs.declared.record.Toll.{Toll}
use Rattle.sheet.specs.declared.state.State.{State}
use Rattle.sheet.specs.declared.state.State.TheVariants as s
use Rattle.sheet.specs.Records.{is_end}
use Rattle.sheet.specs.Turns.{turn, with_left}
use Rattle.verdict.specs.declared.fault.CardFault.{CardFault}
use Rattle.verdict.specs.declared.fault.CardFault.TheVariants.{OutsideHost}
use Rattle.verdict.specs.Judging.{Gathered, blank, may_follow, with_pe, right_of_last, pe_checked, stepped, step_checked, before, with_toll, toll_fault, checked}
use Rattle.verdict.specs.Sheets.{step_to, steps, column_records, head_of}
use Rattle.verdict.proofs.Hosts.{counted, low}
use Rattle.verdict.proofs.Lists.{In, after_true, all_after, pairwise_push, in_passing}
use Rattle.verdict.proofs.Placing.{RightIn, Part, part_none, part_more, part_column, part_left, left_trans}
use Rattle.verdict.proofs.TollLists.{Before, before_true, before_trans, Payable, Listed}

-- what is sound in what a judge has
pub record Valid (h : Host) (g : Gathered) : Type 0 where
  pub each : AllByRecursion (Column (card_of h)) g.columns
  pub ordered : Pairwise LeftOf g.columns
  pub part : Part (card_of h) g.columns g.column
  pub listed : Listed (card_of h) g.tolls

pub valid_blank : (h : Host) → Valid h blank
valid_blank h = record { each = tt; ordered = tt; part = part_none (card_of h) []; listed = record { sorted = tt; each = tt } }

abbrev pub Linked : Host → State → Gathered → Type 0
Linked h s.Opening g = g ≡ blank
Linked h (s.Between n) g = (n ≡ standing (card_of h)) × (g.column ≡ []) × (g.tolls ≡ []) × Valid h g
Linked h (s.Column n left) g =
    (n ≡ standing (card_of h)) × (left + length g.column ≡ standing (card_of h)) × (0 < length g.column) × (g.tolls ≡ []) × Valid h g
Linked h s.Tolls g = (g.column ≡ []) × Valid h g
Linked h s.Ended g = (g.column ≡ []) × Valid h g

pub linked_valid : (h : Host) (a : State) (g : Gathered) → Linked h a g → Valid h g
linked_valid h s.Opening g l = subst (Valid h) (sym l) (valid_blank h)
linked_valid h (s.Between n) g l = l.3
linked_valid h (s.Column n left) g l = l.4
linked_valid h s.Tolls g l = l.1
linked_valid h s.Ended g l = l.1

-- the records that led to it
abbrev pub said : Host → Gathered → List Record
said h g = head_of h ∷ (flat_map column_records g.columns ++ (column_records g.column ++ map r.Toll g.tolls))

abbrev pub said_at : Host → State → Gathered → List Record
said_at h s.Opening g = []
said_at h (s.Between n) g = said h g
said_at h (s.Column n left) g = said h g
said_at h s.Tolls g = said h g
said_at h s.Ended g = said h g

joined_push : {X A : Type 0} (f : X → List A) (xs : List X) (x : X) → flat_map f (xs ++ x ∷ []) ≡ flat_map f xs ++ f x
joined_push f xs x = sym (flat_map_more f [] xs x)

steps_push : (j : ℕ) (ks : List ℕ) (k : ℕ) → steps j (ks ++ k ∷ []) ≡ steps j ks ++ r.Step (step_to (last (j ∷ ks)) k) ∷ []
steps_push j [] k = refl
steps_push j (i ∷ ks) k = ap (λ (xs : List Record). r.Step (step_to j i) ∷ xs) (steps_push i ks k)

-- what a column's next PE is written as
abbrev pub next_record : List ℕ → ℕ → Record
next_record [] k = r.Start k
next_record (j ∷ ks) k = r.Step (step_to (last (j ∷ ks)) k)

column_push : (a : List ℕ) (k : ℕ) → column_records (a ++ k ∷ []) ≡ column_records a ++ next_record a k ∷ []
column_push [] k = refl
column_push (j ∷ ks) k = ap (λ (xs : List Record). r.Start j ∷ xs) (steps_push j ks k)

-- a step, by where it leads
pub record LeadsTo (x : Step) (j k : ℕ) : Type 0 where
  pub near : Near j k
  pub to : step_to j k ≡ x

pub stepped_some : (x : Step) (j k : ℕ) → stepped x j ≡ Some k → LeadsTo x j k
stepped_some x j k e = grind (arith, nat_tests)

-- one PE more
module _ (h : Host) (g : Gathered) (j : ℕ) (valid : Valid h g) (free : g.tolls ≡ []) where
  abbrev more : List ℕ
  more = g.column ++ j ∷ []

  abbrev full : Gathered
  full = record { columns = g.columns ++ more ∷ []; column = []; tolls = g.tolls }

  abbrev longer : Gathered
  longer = record { columns = g.columns; column = more; tolls = g.tolls }

  -- so many rows are left then
  abbrev rest : ℕ
  rest = standing (card_of h) - (length g.column + 1)

  pub record Placed (g' : Gathered) : Type 0 where
    pub is : g' ≡ with_pe h g j
    pub linked : Linked h (with_left (standing (card_of h)) rest) g'
    pub says : said h g' ≡ said h g ++ next_record g.column j ∷ []

  said-longer : said h longer ≡ said h g ++ next_record g.column j ∷ []
  said-longer = simp (free, append-nil, append_assoc, column_push)

  said-full : said h full ≡ said h g ++ next_record g.column j ∷ []
  said-full = simp (free, append-nil, append_assoc, column_push, joined_push)

  placed : Part (card_of h) g.columns more → Placed (with_pe h g j)
  placed part =
      let c = card_of h in
      let n = standing c in
      let len : length more ≡ length g.column + 1 = length_push g.column j in
      elim (cases_eq (length more) n) [
        | inl e ↦
            let p : with_pe h g j ≡ full = cond-true (eqb (length more) n) full longer (eq-eqb (length more) n e) in
            let t : with_left n rest ≡ s.Between n = cond-false (ltb 0 rest) (s.Column n rest) (s.Between n) (le-ltb 0 rest (omega arith)) in
            let w = part_column c g.columns more part (omega arith) e in
            let l : Linked h (s.Between n) full = (
              refl,
              refl,
              free,
              record {
                each = All-push (Column c) g.columns more valid.each w;
                ordered = pairwise_push LeftOf g.columns more valid.ordered
                    (all_after LeftOf left_trans g.columns more valid.ordered (part_left c g.columns more valid.each part e));
                part = part_none c (g.columns ++ more ∷ []);
                listed = valid.listed;
              },
            ) in
            record { is = refl; linked = subst₂ (Linked h) (sym t) (sym p) l; says = ap (said h) p ∙ said-full }
        | inr ne ↦
            let p : with_pe h g j ≡ longer = cond-false (eqb (length more) n) full longer (ne_eqb (length more) n ne) in
            let room : 0 < rest = omega (arith, part.short) in
            let t : with_left n rest ≡ s.Column n rest = cond-true (ltb 0 rest) (s.Column n rest) (s.Between n) (lt-ltb 0 rest room) in
            let l : Linked h (s.Column n rest) longer =
            (refl, omega arith, omega arith, free, record { each = valid.each; ordered = valid.ordered; part = part; listed = valid.listed }) in
            record { is = refl; linked = subst₂ (Linked h) (sym t) (sym p) l; says = ap (said h) p ∙ said-longer }
      ]

  -- what was seen to of it
  passed-pe : (g' : Gathered) → pe_checked h g j ≡ Ok g' →
      (length g.column < standing (card_of h)) × (usable h (row (card_of h) (length g.column)) j ≡ true) × (right_of_last g j ≡ true) × (with_pe h g j ≡ g')
  passed-pe g' e = grind (arith, nat_tests)

  pub place_holds : (g' : Gathered) → (0 < length g.column → Near (last g.column) j) → pe_checked h g j ≡ Ok g' → Placed g'
  place_holds g' near e =
      let k = length g.column in
      let p = passed-pe g' e in
      let right = after_true (λ a i. ltb (get_or a k 0) i) (RightIn k) (λ a i. ltb-true (get_or a k 0) i) g.columns j p.2 in
      subst Placed p.3 (placed (part_more (card_of h) g.columns g.column j valid.part near p.0 p.1 right))

-- one toll more
module _ (h : Host) (g : Gathered) (t : Toll) (valid : Valid h g) (whole : g.column ≡ []) where
  pub record Tolled (g' : Gathered) : Type 0 where
    pub linked : Linked h s.Tolls g'
    pub says : said h g' ≡ said h g ++ r.Toll t ∷ []

  said-toll : said h (with_toll g t) ≡ said h g ++ r.Toll t ∷ []
  said-toll = simp (append_assoc, map_push)

  in_rows : stands h t.row ≡ true → In t.row (card_of h).rows
  in_rows on = in_passing (stands h) 64 t.row (low h t.row on) on

  passed-toll : (g' : Gathered) → answered (toll_fault h g t) (with_toll g t) ≡ Ok g' →
      (stands h t.row ≡ true) × (usable h t.row t.column ≡ true) × (may_follow before g.tolls t ≡ true) × (0 < t.amount) × (t.amount ≤ worth) × (with_toll g t ≡ g')
  passed-toll g' e = grind (arith, nat_tests)

  pub toll_holds : (g' : Gathered) → answered (toll_fault h g t) (with_toll g t) ≡ Ok g' → Tolled g'
  toll_holds g' e =
      let c = card_of h in
      let p = passed-toll g' e in
      let after = after_true before Before before_true g.tolls t p.2 in
      let listed : Listed c (g.tolls ++ t ∷ []) = record {
        sorted = pairwise_push Before g.tolls t valid.listed.sorted (all_after Before before_trans g.tolls t valid.listed.sorted after);
        each = All-push (Payable c) g.tolls t valid.listed.each (record { in_row = in_rows p.0; usable = p.1; some = p.3; limit = p.4 });
      } in
      let done : Tolled (with_toll g t) = record {
        linked = (whole, record { each = valid.each; ordered = valid.ordered; part = valid.part; listed = listed });
        says = said-toll;
      } in
      subst Tolled p.5 done

-- one record more
pub record Advanced (h : Host) (a : State) (g : Gathered) (x : Record) (a' : State) (g' : Gathered) : Type 0 where
  pub linked : Linked h a' g'
  pub says : said_at h a' g' ≡ said_at h a g ++ x ∷ []

said-with_left : (h : Host) (n left : ℕ) (g : Gathered) → said_at h (with_left n left) g ≡ said h g
said-with_left h n left g = grind arith

some_same : (a a' : State) → Some a ≡ Some a' → a ≡ a'
some_same a a' e = cc

passed-head : (h : Host) (g : Gathered) (x : Head) (g' : Gathered) → checked h g (r.Head x) ≡ Ok g' →
    (x.rows ≡ h.size.rows) × (x.columns ≡ h.size.columns) × (x.standing ≡ mask (stands h)) × (g ≡ g')
passed-head h g x g' e = grind (arith, nat_tests)

advance_head : (h : Host) (g : Gathered) (x : Head) (g' : Gathered) → g ≡ blank → checked h g (r.Head x) ≡ Ok g' →
    Advanced h s.Opening g (r.Head x) (s.Between (how_many (bit x.standing))) g'
advance_head h g x g' none e =
    let p = passed-head h g x g' e in
    let same : g' ≡ blank = sym p.3 ∙ none in
    let linked : Linked h (s.Between (how_many (bit x.standing))) blank = (ap (λ (m : ℕ). how_many (bit m)) p.2 ∙ counted h, refl, refl, valid_blank h) in
    let says : said h blank ≡ r.Head x ∷ [] = λ i. r.Head (record { rows = sym p.0 i; columns = sym p.1 i; standing = sym p.2 i }) ∷ [] in
    record { linked = subst (Linked h (s.Between (how_many (bit x.standing)))) (sym same) linked; says = ap (said h) same ∙ says }

advance_start : (h : Host) (n : ℕ) (g : Gathered) (j : ℕ) (g' : Gathered) → Linked h (s.Between n) g → checked h g (r.Start j) ≡ Ok g' →
    Advanced h (s.Between n) g (r.Start j) (with_left n (n - 1)) g'
advance_start h n g j g' l e =
    let p = place_holds h g j l.3 l.2 g' (λ some. absurd (omega (arith, ap length l.1))) e in
    let left : standing (card_of h) - (length g.column + 1) ≡ n - 1 = omega (arith, l.0, ap length l.1) in
    let first : next_record g.column j ≡ r.Start j = ap (λ (a : List ℕ). next_record a j) l.1 in
    record {
      linked = subst₂ (λ (x y : ℕ). Linked h (with_left x y) g') (sym l.0) left p.linked;
      says = said-with_left h n (n - 1) g' ∙ p.says ∙ ap (λ (x : Record). said h g ++ x ∷ []) first;
    }

next_step : (a : List ℕ) (x : Step) (j : ℕ) → 0 < length a → LeadsTo x (last a) j → next_record a j ≡ r.Step x
next_step [] x j some i = absurd (omega arith)
next_step (k ∷ a) x j some i = ap r.Step i.to

advance_step : (h : Host) (n left : ℕ) (g : Gathered) (x : Step) (g' : Gathered) → Linked h (s.Column n left) g → checked h g (r.Step x) ≡ Ok g' →
    Advanced h (s.Column n left) g (r.Step x) (with_left n (left - 1)) g'
advance_step h n left g x g' l e = go (stepped x (last g.column)) refl
  where
    go : (o : Option ℕ) → stepped x (last g.column) ≡ o → Advanced h (s.Column n left) g (r.Step x) (with_left n (left - 1)) g'
    go None q =
        let wrong : ◌≡◌ {A = Result Gathered CardFault} (Err OutsideHost) (Ok g') = ap (step_checked h g) (sym q) ∙ e in
        absurd (cc)
    go (Some j) q =
        let i = stepped_some x (last g.column) j q in
        let p = place_holds h g j l.4 l.3 g' (λ some. i.near) (ap (step_checked h g) (sym q) ∙ e) in
        let less : standing (card_of h) - (length g.column + 1) ≡ left - 1 = omega (arith, l.1) in
        let next : next_record g.column j ≡ r.Step x = next_step g.column x j l.2 i in
        record {
          linked = subst₂ (λ (y z : ℕ). Linked h (with_left y z) g') (sym l.0) less p.linked;
          says = said-with_left h n (left - 1) g' ∙ p.says ∙ ap (λ (y : Record). said h g ++ y ∷ []) next;
        }

-- (the end record is not gathered)
pub advance : (h : Host) → (a : State) (g : Gathered) (x : Record) (a' : State) (g' : Gathered) → is_end x ≡ false → Linked h a g →
    turn a x ≡ Some a' → checked h g x ≡ Ok g' → Advanced h a g x a' g'
advance h s.Opening g (r.Head x) a' g' on l u e =
    subst (λ (a : State). Advanced h s.Opening g (r.Head x) a g') (some_same _ a' u) (advance_head h g x g' l e)
advance h (s.Between n) g (r.Start j) a' g' on l u e =
    subst (λ (a : State). Advanced h (s.Between n) g (r.Start j) a g') (some_same _ a' u) (advance_start h n g j g' l e)
advance h (s.Between n) g (r.Toll t) a' g' on l u e =
    let p = toll_holds h g t l.3 l.1 g' e in
    subst (λ (a : State). Advanced h (s.Between n) g (r.Toll t) a g') (some_same _ a' u) (record { linked = p.linked; says = p.says })
advance h (s.Column n left) g (r.Step x) a' g' on l u e =
    subst (λ (a : State). Advanced h (s.Column n left) g (r.Step x) a g') (some_same _ a' u) (advance_step h n left g x g' l e)
advance h s.Tolls g (r.Toll t) a' g' on l u e =
    let p = toll_holds h g t l.1 l.0 g' e in
    subst (λ (a : State). Advanced h s.Tolls g (r.Toll t) a g') (some_same _ a' u) (record { linked = p.linked; says = p.says })
advance h _ g _ a' g' on l u e = absurd (cc)

-- where the end is in turn, the column is full
pub record Final (h : Host) (a : State) (g : Gathered) : Type 0 where
  pub full : g.column ≡ []
  pub valid : Valid h g
  pub says : said_at h a g ≡ said h g

pub finish : (h : Host) (a a' : State) (g : Gathered) → Linked h a g → turn a r.End ≡ Some a' → Final h a g
finish h (s.Between n) a' g l u = record { full = l.1; valid = l.3; says = refl }
finish h s.Tolls a' g l u = record { full = l.0; valid = l.1; says = refl }
finish h _ a' g l u = absurd (cc)
