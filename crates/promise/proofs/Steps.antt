-- What one call does to a book. Assumes nothing.
use Rattle.std.proofs.Common.{◌≡◌, ℕ, Bool, true, false, cond, ◌⊎◌, List, Some, None, Ok, Err, Result, is_ok, MatchBool, sym, refl, ap, ◌∙◌, subst, inl, inr}
use Rattle.std.specs.Option.{option_map_or}
use Rattle.std.specs.Result.{result_map_both}
use Rattle.std.specs.Borrow.{Bor}
use Rattle.std.proofs.lemmas.Bool.{both_ways}
use Rattle.host.specs.declared.Host.{Host}
use Rattle.host.specs.Changes.{Change, after, alters}
use Rattle.tariff.specs.Meaning.{Meaning, Lawful}
use Rattle.plans.specs.Tolls.{Tolls, Plan}
use Rattle.plans.specs.Held.{held}
use Rattle.plans.specs.declared.held.HeldPlan.{HeldPlan}
use Rattle.routable.specs.Cards.{card_of}
use Rattle.verdict.specs.Judging.{Accepted, toll_of}
use Rattle.verdict.specs.Theorems.{LeftToRight}
use Rattle.book.specs.declared.Book.{Book}
use Rattle.book.specs.declared.refusal.Refusal.{Refusal}
use Rattle.book.specs.declared.refusal.Refusal.TheVariants.{NoRow}
use Rattle.book.specs.Books.{counts, changed, holding}
use Rattle.book.specs.Calls.{rowless}
use Rattle.book.specs.Plans.{verdict, judge_answer, RouteAnswers, taken, Planned}
use Rattle.book.proofs.Routes.{routed_answers}
use Rattle.promise.specs.declared.call.Call.{Call}
use Rattle.promise.specs.declared.call.Call.TheVariants.{Mark, Picture, Choose, Trial, Greedy, Route, Judge}
use Rattle.promise.specs.Promise.{change_of, next, altering, Makes, Answer, counted, Answered, HoldsPlan}
use Rattle.promise.specs.Runs.{Called}
use Rattle.promise.proofs.Plans.{holds, sound}

-- a plan is that of the sheet that a judge accepted
abbrev pub OfSheet : Meaning → Host → Call → HeldPlan → Type 0
OfSheet m h c plan = (sheet : Bor (List ℕ)) → c ≡ Judge sheet → (a : Accepted) × (verdict h m sheet.now ≡ Ok a) × (plan ≡ held a.columns (toll_of a.tolls))

module _ {T : Type 0} (m : Meaning) (b : Book T) (c : Call) (r : Answer) (new : Book T) where
  -- a call that makes a plan: it is held, and its number and total charge are the answer
  pub record Making : Type 0 where
    pub makes : Makes m b.host c
    pub number : ℕ × ℕ
    pub counts : new.counts ≡ Some number
    pub answer : r ≡ counted (Ok number)
    pub held : HoldsPlan m new number
    pub of_sheet : OfSheet m b.host c new.plan

  -- any other call keeps the plan, but where it alters a state
  pub record Keeping : Type 0 where
    pub makes_none : ¬ Makes m b.host c
    pub counts : new.counts ≡ cond (altering b.host c) None b.counts
    pub plan : new.plan ≡ b.plan

  pub record Stepped (bytes : ℕ) : Type 0 where
    pub tariff : new.tariff ≡ b.tariff
    pub map : new.host ≡ next b.host c
    pub answers : Answered m b.host bytes c r
    pub way : Making ⊎ Keeping

route_no_judge : {X : Type 0} (sheet : Bor (List ℕ)) → Route ≡ Judge sheet → X
route_no_judge sheet e = cc

same_sheet : (s t : Bor (List ℕ)) → Judge s ≡ Judge t → s ≡ t
same_sheet s t e = cc

module _ {T : Type 0} (m : Meaning) (lawful : Lawful m) (b : Book T) (bytes : ℕ) (r : Answer) (new : Book T) where
  -- a mark, picture or choice
  settled : (c : Call) (x : Change) → change_of c ≡ Some x → ¬ Makes m b.host c → Answered m b.host bytes c r → new ≡ changed b x → Stepped m b c r new bytes
  settled c x is none answers e = record {
    tariff = ap (λ (b : Book T). b.tariff) e;
    map = ap (λ (b : Book T). b.host) e ∙ ap (λ o. option_map_or (after b.host) o b.host) (sym is);
    answers = answers;
    way = inr (record {
      makes_none = none;
      counts = ap (λ (b : Book T). b.counts) e ∙ ap (λ o. cond (option_map_or (alters b.host) o false) None b.counts) (sym is);
      plan = ap (λ (b : Book T). b.plan) e;
    });
  }

  -- a call that asks nothing of the map and makes no plan
  looked : (c : Call) → change_of c ≡ None → ¬ Makes m b.host c → Answered m b.host bytes c r → new ≡ b → Stepped m b c r new bytes
  looked c is none answers e = record {
    tariff = ap (λ (b : Book T). b.tariff) e;
    map = ap (λ (b : Book T). b.host) e ∙ ap (λ o. option_map_or (after b.host) o b.host) (sym is);
    answers = answers;
    way = inr (record {
      makes_none = none;
      counts = ap (λ (b : Book T). b.counts) e ∙ ap (λ o. cond (option_map_or (alters b.host) o false) None b.counts) (sym is);
      plan = ap (λ (b : Book T). b.plan) e;
    });
  }

  -- a call that makes a plan
  planned : (c : Call) (toll : Tolls) (f : List (List ℕ)) → change_of c ≡ None → Makes m b.host c → Plan (card_of b.host) m toll f → LeftToRight f →
      r ≡ counted (Ok (counts b.host m f)) → Answered m b.host bytes c r → (new ≡ holding b m f toll → OfSheet m b.host c new.plan) → new ≡ holding b m f toll → Stepped m b c r new bytes
  planned c toll f is makes plan ordered told answers of_sheet e = record {
    tariff = ap (λ (b : Book T). b.tariff) e;
    map = ap (λ (b : Book T). b.host) e ∙ ap (λ o. option_map_or (after b.host) o b.host) (sym is);
    answers = answers;
    way = inl (record {
      makes = makes;
      number = counts b.host m f;
      counts = ap (λ (b : Book T). b.counts) e;
      answer = told;
      held = subst (λ (b' : Book T). HoldsPlan m b' (counts b.host m f)) (sym e) (holds b m toll f plan ordered);
      of_sheet = of_sheet e;
    });
  }

  routed : (a : Result (ℕ × ℕ) Refusal) → RouteAnswers b.host m a → r ≡ counted a → (none : Bool) → rowless b.host ≡ none → MatchBool none ((a ≡ Err NoRow) × (new ≡ b)) (Planned b m a new) →
      Stepped m b Route r new bytes
  routed a answers told true e p = looked Route refl (λ stands. both_ways _ stands e) (a, answers, told) p.1
  routed a answers told false e p =
      planned Route p.toll p.family refl e p.plan p.ordered (told ∙ ap counted p.counted) (a, answers, told) (λ is sheet other. route_no_judge sheet other) p.held

  judged : (sheet : Bor (List ℕ)) (v : Result Accepted Refusal) → verdict b.host m sheet.now ≡ v → r ≡ counted (judge_answer b.host m sheet.now) →
      new ≡ taken b m v → Stepped m b (Judge sheet) r new bytes
  judged sheet (Ok a) is answers e =
      let s = sound b.host m sheet.now a is in
      planned (Judge sheet) (toll_of a.tolls) a.columns refl (ap is_ok is) s.plan s.ordered
      (answers ∙ ap (λ v. counted (result_map_both (λ (a : Accepted). counts b.host m a.columns) (λ x. x) v)) is)
      answers
      (λ now other same. (a, ap (λ (s : Bor (List ℕ)). verdict b.host m s.now) (sym (same_sheet sheet other same)) ∙ is, ap (λ (b : Book T). b.plan) now))
      e
  judged sheet (Err x) is answers e = looked (Judge sheet) refl (λ ok. refused (sym (ap is_ok is) ∙ ok)) answers e
    where
      refused : ¬ (false ≡ true)
      refused e = cc

  pub stepped : (c : Call) → Called m b bytes c r new → Stepped m b c r new bytes
  stepped (Mark part state) e = settled (Mark part state) _ refl (λ x. x) e.0 e.1
  stepped (Picture row text) e = settled (Picture row text) _ refl (λ x. x) e.0 e.1
  stepped (Choose row state) e = settled (Choose row state) _ refl (λ x. x) e.0 e.1
  stepped (Trial row) e = looked (Trial row) refl (λ x. x) e.0 e.1
  stepped (Greedy room) e = looked (Greedy room) refl (λ x. x) e.0 e.1
  stepped Route e = routed e.0 (routed_answers b m e.0 new lawful e.2) e.1 (rowless b.host) refl e.2
  stepped (Judge sheet) e = judged sheet (verdict b.host m sheet.now) refl e.0 e.1
