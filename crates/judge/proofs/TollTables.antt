-- A toll that is added. Assumes nothing.
use Rattle.std.proofs.Common.{◌≡◌, ℕ, ◌+◌, ◌*◌, ◌<◌, ◌≤◌, true, false, cond, ◌&&◌, eqb, ◌⊎◌, List, [], ◌∷◌, ◌++◌, length, get_or, set, Some, None, Ok, Err, Result, sym, refl, ap, ◌∙◌, arith}
use Rattle.std.specs.List.{AllByRecursion}
use Rattle.std.proofs.ByRecursion.{All-weaker}
use Rattle.std.proofs.lemmas.Bool.Decides.{nat_tests}
use Rattle.host.specs.declared.Host.{Host}
use Rattle.host.specs.Maps.{usable, stands}
use Rattle.host.specs.Refusals.{answered}
use Rattle.plans.specs.Families.{total}
use Rattle.plans.specs.Held.{at_each}
use Rattle.plans.specs.Tolls.{worth}
use Rattle.plans.proofs.Holding.{at_each_at}
use Rattle.plans.proofs.Sums.{total_under}
use Rattle.tariff.specs.declared.pe.Pe.{Pe}
use Rattle.routable.specs.Cards.{card_of}
use Rattle.sheet.specs.declared.record.Toll.{Toll}
use Rattle.verdict.specs.declared.fault.CardFault.{CardFault}
use Rattle.verdict.specs.declared.fault.CardFault.TheVariants.{TollOrder, TollAmount}
use Rattle.verdict.specs.Judging.{Gathered, may_follow, before, with_toll, toll_fault, toll_of}
use Rattle.verdict.proofs.Advancing.{Valid}
use Rattle.verdict.proofs.Hosts.{ascending, narrow, low}
use Rattle.verdict.proofs.Lists.{after_true, all_after, total_append}
use Rattle.verdict.proofs.TollLists.{Before, before_true, before_trans, Payable, listed_again}
use Rattle.verdict.proofs.Written.{down_few}
use Rattle.judge.specs.declared.tolls.GatheredTolls.{GatheredTolls}
use Rattle.judge.specs.Gathering.{toll_on, after_last, tolls_of, HoldsTolls, AnswersAs}
use Rattle.judge.proofs.Outcomes.{answers_ok, allowed_so}
use Rattle.judge.proofs.Cells.{table_same, table_set}
use Rattle.judge.proofs.Lasts.{follow-toll, last_toll-push}
use Rattle.judge.proofs.Limits.{few_standing}

-- a toll behind those of other PEs
toll_push : (ts : List Toll) (t : Toll) → AllByRecursion (λ d. Before d t) ts → (r j : ℕ) →
    toll_of (ts ++ t ∷ []) r j ≡ cond (eqb t.row r && eqb t.column j) t.amount (toll_of ts r j)
toll_push [] t all r j = refl
toll_push (d ∷ ts) t all r j = let rest = toll_push ts t all.1 r j in let first = all.0 in grind (arith, nat_tests)

module _ (ts : List Toll) (t : Toll) (all : AllByRecursion (λ d. Before d t) ts) (row_in : t.row < 64) where
  other : (r j : ℕ) → (t.row ≡ r → t.column ≡ j → ⊥) → toll_of ts r j ≡ toll_of (ts ++ t ∷ []) r j
  other r j ne = let rest = toll_push ts t all r j in grind (arith, nat_tests)

  here : t.amount ≡ toll_of (ts ++ t ∷ []) t.row t.column
  here = let rest = toll_push ts t all t.row t.column in grind (arith, nat_tests)

  pub table_put : set (at_each (λ r. at_each (toll_of ts r))) t.row (set (get_or (at_each (λ r. at_each (toll_of ts r))) t.row []) t.column t.amount) ≡
      at_each (λ r. at_each (toll_of (ts ++ t ∷ []) r))
  table_put =
      ap (λ (xs : List ℕ). set (at_each (λ r. at_each (toll_of ts r))) t.row (set xs t.column t.amount)) (at_each_at (λ r. at_each (toll_of ts r)) [] t.row row_in)
      ∙ ap (λ (v : ℕ). set (at_each (λ r. at_each (toll_of ts r))) t.row (set (at_each (toll_of ts t.row)) t.column v)) here
      ∙ ap (set (at_each (λ r. at_each (toll_of ts r))) t.row) (table_set (toll_of ts t.row) (toll_of (ts ++ t ∷ []) t.row) t.column (λ j l ne. other t.row j (λ _ e. ne (sym e))))
      ∙ table_set (λ r. at_each (toll_of ts r)) (λ r. at_each (toll_of (ts ++ t ∷ []) r)) t.row
      (λ r l ne. table_same (toll_of ts r) (toll_of (ts ++ t ∷ []) r) 0 (λ j k. other r j (λ e _. ne (sym e))))

-- what a toll on a usable PE of a standing row meets
module _ (h : Host) (s : GatheredTolls) (g : Gathered) (is : s ≡ tolls_of g.tolls) (pe : Pe) (amount : ℕ) (stand : stands h pe.row ≡ true) (use' : usable h pe.row pe.column ≡ true) where
  follows : may_follow before g.tolls (toll_on pe amount) ≡ after_last s.last pe
  follows = follow-toll g.tolls (toll_on pe amount) ∙ ap (λ (y : GatheredTolls). after_last y.last pe) (sym is)

  abbrev answer : Result (Unit {0}) CardFault
  answer = answered (toll_fault h g (toll_on pe amount)) (tt {0})

  pub out_of_order : after_last s.last pe ≡ false → Err TollOrder ≡ answer
  out_of_order e = let f = follows ∙ e in grind (arith, nat_tests)

  pub no_amount : after_last s.last pe ≡ true → (amount ≡ 0) ⊎ ((amount ≡ 0 → ⊥) × (worth < amount)) → Err TollAmount ≡ answer
  no_amount e a = let f = follows ∙ e in grind (arith, nat_tests)

  pub addable : after_last s.last pe ≡ true → (amount ≡ 0 → ⊥) → amount ≤ worth → Ok (tt {0}) ≡ answer
  addable e some few = let f = follows ∙ e in grind (arith, nat_tests)

-- what was seen to of a toll that is added
record Seen (h : Host) (g : Gathered) (t : Toll) : Type 0 where
  standing : stands h t.row ≡ true
  usable : usable h t.row t.column ≡ true
  after : may_follow before g.tolls t ≡ true
  amount : t.amount ≤ worth

seen : (h : Host) (g : Gathered) (t : Toll) → toll_fault h g t ≡ None → Seen h g t
seen h g t e = record {
  standing = grind (arith, nat_tests);
  usable = grind (arith, nat_tests);
  after = grind (arith, nat_tests);
  amount = grind (arith, nat_tests);
}

-- tolls of a card add up to less than a number of 64 bits holds
pub small_sum : (h : Host) (g : Gathered) → Valid h g → total (λ t. t.amount) g.tolls ≤ 4096 * worth
small_sum h g valid =
    let c = card_of h in
    let few = down_few (toll_of g.tolls) c.rows in
    let again = ap (length {A = Toll}) (listed_again c (ascending h) (narrow h) g.tolls valid.listed) in
    let each = All-weaker (Payable c) (λ t. t.amount ≤ worth) (λ t p. p.limit) g.tolls valid.listed.each in
    omega (arith, total_under worth (λ t. t.amount) g.tolls each, few, again, few_standing h)

module _ (h : Host) (s : GatheredTolls) (g : Gathered) (holds : HoldsTolls h s g) (pe : Pe) (amount : ℕ)
    (e : ◌≡◌ {A = Result (Unit {0}) CardFault} (Ok (tt {0})) (answered (toll_fault h g (toll_on pe amount)) (tt {0}))) where
  abbrev t : Toll
  t = toll_on pe amount

  so : toll_fault h g t ≡ None
  so = (allowed_so (toll_fault h g t) _ _ e).0

  v : Seen h g t
  v = seen h g t so

  earlier : AllByRecursion (λ d. Before d t) g.tolls
  earlier = all_after Before before_trans g.tolls t holds.valid.listed.sorted (after_true before Before before_true g.tolls t v.after)

  -- held where the code writes it
  pub added : (r k x : ℕ) → r ≡ pe.row → k ≡ pe.column → x ≡ amount →
      AnswersAs (λ g'. tt {0})
      (λ g'. record { amounts = set s.amounts r (set (get_or s.amounts r []) k amount); last = Some pe; sum = s.sum + x } ≡ tolls_of g'.tolls)
      (Ok (tt {0})) (answered (toll_fault h g t) (with_toll g t))
  added r k x row column paid =
      let amounts : set s.amounts r (set (get_or s.amounts r []) k amount) ≡ at_each (λ q. at_each (toll_of (g.tolls ++ t ∷ []) q)) =
      (λ i. set (holds.is i).amounts (row i) (set (get_or (holds.is i).amounts (row i) []) (column i) amount)) ∙ table_put g.tolls t earlier (low h pe.row v.standing) in
      let sum : s.sum + x ≡ total (λ d. d.amount) (g.tolls ++ t ∷ []) =
      omega (arith, ap (λ (y : GatheredTolls). y.sum) holds.is, total_append (λ (d : Toll). d.amount) g.tolls (t ∷ [])) in
      answers_ok _ _ _ _ (with_toll g t) (ap (λ o. answered o (with_toll g t)) so) refl
      (λ i. record { amounts = amounts i; last = sym (last_toll-push g.tolls t) i; sum = sum i })
