-- What a book keeps, whatever calls are made on it. Assumes nothing.
use Rattle.std.specs.Prelude.{◌≡◌, ℕ, min, Bool, true, false, ◌↔◌, List, [], ◌∷◌, ◌++◌, length, take, drop, fold, Some, None, Ok, Err, Option, Result, IsSome, IfSome, IsSomeAnd, IsOk, unwrap_or, option_and_then}
use Rattle.std.specs.Borrow.{Bor}
use Rattle.std.specs.Option.{option_or, option_map_or}
use Rattle.std.specs.Result.{result_map_both}
use Rattle.host.specs.declared.Host.{Host}
use Rattle.host.specs.declared.size.Size.{Size}
use Rattle.host.specs.Refusals.{unless}
use Rattle.host.specs.Changes.{Change, marking, picturing, choosing, opened, after, alters, refusal, answer}
use Rattle.host.specs.Laws.{Place, on_card, state, first_state, names}
use Rattle.tariff.specs.Meaning.{Meaning}
use Rattle.plans.specs.Families.{Family, Best}
use Rattle.plans.specs.Tolls.{Plan}
use Rattle.plans.specs.Held.{held as plan_of}
use Rattle.routable.specs.Cards.{card_of}
use Rattle.verdict.specs.Judging.{Accepted, toll_of}
use Rattle.verdict.specs.Sheets.{sheet_of}
use Rattle.verdict.specs.Theorems.{Bytes, ByFirst, LeftToRight, SheetOfPlan}
use Rattle.book.specs.declared.Book.{Book}
use Rattle.book.specs.declared.refusal.Refusal.{Refusal}
use Rattle.book.specs.declared.refusal.Refusal.TheVariants.{NoRow}
use Rattle.book.specs.Books.{counts, columns, tolls}
use Rattle.book.specs.Calls.{by_card, rowless, greedy_answer, greedy_buffer, trial_answer}
use Rattle.book.specs.Plans.{verdict, judge_answer, RouteAnswers}
use Rattle.promise.specs.declared.call.Call.{Call}
use Rattle.promise.specs.declared.call.Call.TheVariants.{Mark, Picture, Choose, Trial, Greedy, Route, Judge}
use Rattle.promise.specs.declared.call.Reply.{Reply}
use Rattle.promise.specs.declared.call.Reply.TheVariants.{Done, Counts}

-- what a call asks of the map, if it is a mark, a picture or a choice
abbrev pub change_of : Call → Option Change
change_of (Mark part state) = Some (marking part state)
change_of (Picture row text) = Some (picturing row text.now)
change_of (Choose row state) = Some (choosing row state)
change_of _ = None

-- the map after a call: one that meets a refusal changes nothing, and so does any other call
abbrev pub next : Host → Call → Host
next h c = option_map_or (after h) (change_of c) h

-- the map after calls
abbrev pub map_after : Size → List Call → Host
map_after z calls = fold next (opened z) calls

-- whether a call alters a state of the map
abbrev pub altering : Host → Call → Bool
altering h c = option_map_or (alters h) (change_of c) false

-- the state that a call gives a place, if it is done and names the place
abbrev pub gives : Size → Call → Place → Option Bool
gives z c q = option_and_then (λ x. unless (refusal z x) None (names x q)) (change_of c)

-- the last state that calls give a place
abbrev pub last_given : Size → List Call → Place → Option Bool
last_given z [] q = None
last_given z (c ∷ calls) q = option_or (last_given z calls q) (gives z c q)

-- a route or judge that is done makes a plan
abbrev pub Makes : Meaning → Host → Call → Type 0
Makes m h Route = rowless h ≡ false
Makes m h (Judge sheet) = IsOk (verdict h m sheet.now)
Makes m h _ = ⊥

-- the last of the calls that made a plan: no later one made another, and none altered a state
pub record LastPlan (z : Size) (m : Meaning) (calls : List Call) : Type 0 where
  pub before : List Call
  pub maker : Call
  pub later : List Call
  pub all : calls ≡ before ++ maker ∷ later
  pub makes : Makes m (map_after z before) maker
  pub kept : (xs ys : List Call) (c : Call) → later ≡ xs ++ c ∷ ys →
      let h = map_after z (before ++ maker ∷ xs) in ¬ Makes m h c × (altering h c ≡ false)

-- a call is answered a refusal, that it is done, or a number of columns and their total charge
abbrev pub Answer : Type 0
Answer = Result Reply Refusal

abbrev pub done : Result (Unit {0}) Refusal → Answer
done r = result_map_both (λ _. Done) (λ x. x) r

abbrev pub counted : Result (ℕ × ℕ) Refusal → Answer
counted r = result_map_both (λ p. Counts p.0 p.1) (λ x. x) r

-- what a call on a map is answered, where the buffer has so many bytes; a route answers for some best family
abbrev pub Answered : Meaning → Host → ℕ → Call → Answer → Type 0
Answered m h bytes (Mark part state) r = r ≡ done (by_card (answer h (marking part state)))
Answered m h bytes (Picture row text) r = r ≡ done (by_card (answer h (picturing row text.now)))
Answered m h bytes (Choose row state) r = r ≡ done (by_card (answer h (choosing row state)))
Answered m h bytes (Trial row) r = r ≡ counted (trial_answer h m row)
Answered m h bytes (Greedy room) r = r ≡ counted (greedy_answer h m (min room bytes))
Answered m h bytes Route r = (a : Result (ℕ × ℕ) Refusal) × RouteAnswers h m a × (r ≡ counted a)
Answered m h bytes (Judge sheet) r = r ≡ counted (judge_answer h m sheet.now)

-- what a call leaves in the buffer: greedy has its first bytes
abbrev pub buffer_after : Host → Call → List ℕ → List ℕ
buffer_after h (Greedy room) buffer = greedy_buffer h (take room buffer) ++ drop room buffer
buffer_after h _ buffer = buffer

-- what calls leave in it
abbrev pub written : Host → List Call → List ℕ → List ℕ
written h [] buffer = buffer
written h (c ∷ calls) buffer = written (next h c) calls (buffer_after h c buffer)

-- what a book holds is a plan for its map, with columns from left to right, and the plan's number and total charge
pub record HoldsPlan {T : Type 0} (m : Meaning) (b : Book T) (number_and_total : ℕ × ℕ) : Type 0 where
  pub plan : Plan (card_of b.host) m (tolls b) (columns b number_and_total.0)
  pub ordered : LeftToRight (columns b number_and_total.0)
  pub counted : number_and_total ≡ counts b.host m (columns b number_and_total.0)

-- a book that was opened with a size and a tariff of this meaning, after calls, with the reply to the last of them, and with
-- their buffer before and after
pub record Promise {T : Type 0} (z : Size) (tariff : T) (m : Meaning) (calls : List Call) (book : Book T) (reply : Option Answer) (old new : List ℕ) : Type 0 where
  -- no call changes the tariff
  pub same_tariff : book.tariff ≡ tariff
  -- the map comes from the calls alone
  pub map : book.host ≡ map_after z calls
  -- the last done call that names a place decides its state
  pub last_decides : (q : Place) → on_card z q ≡ true → state book.host q ≡ unwrap_or (last_given z calls q) (first_state q)
  -- a plan is held exactly when a call made one and no later call altered a state
  pub held : IsSome book.counts ↔ LastPlan z m calls
  -- it is the plan of the last call that made one: what that call answered are its number and total charge
  pub of_last : (l : LastPlan z m calls) → IsSomeAnd book.counts (λ p. Answered m (map_after z l.before) (length old) l.maker (counted (Ok p)))
  -- and of a judge it has the sheet's columns and tolls
  pub of_sheet : (l : LastPlan z m calls) (sheet : Bor (List ℕ)) → l.maker ≡ Judge sheet →
      (a : Accepted) × (verdict (map_after z l.before) m sheet.now ≡ Ok a) × (book.plan ≡ plan_of a.columns (toll_of a.tolls))
  pub plan : IfSome book.counts (HoldsPlan m book)
  -- no family has more columns than a plan that is held, and none with as many has a lower total charge
  pub best : IfSome book.counts (λ p. Best (card_of book.host) m (columns book p.0))
  -- with its tolls judge accepts a family's sheet exactly when the family is best
  pub tolls_tell : IsSome book.counts → (f : List (List ℕ)) → Family (card_of book.host) f → ByFirst f →
      IsOk (verdict book.host m (sheet_of book.host f (tolls book))) ↔ Best (card_of book.host) m f
  -- held or not, judge accepts exactly the sheets of plans
  pub judge_accepts : (bytes : List ℕ) (a : Accepted) → Bytes bytes → (verdict book.host m bytes ≡ Ok a) ↔ SheetOfPlan book.host m bytes a
  -- and so only best families, whichever tolls come with them
  pub only_best : (bytes : List ℕ) (a : Accepted) → Bytes bytes → verdict book.host m bytes ≡ Ok a → Best (card_of book.host) m a.columns
  -- route is refused exactly when no row stands
  pub route_refused : (before : List Call) → calls ≡ before ++ Route ∷ [] → (reply ≡ Some (Err NoRow)) ↔ (rowless (map_after z before) ≡ true)
  -- a call that makes a plan leaves it held, and answers its number and total charge
  pub plan_answered : (before : List Call) (c : Call) → calls ≡ before ++ c ∷ [] → Makes m (map_after z before) c →
      (p : ℕ × ℕ) × (book.counts ≡ Some p) × (reply ≡ Some (counted (Ok p)))
  -- the last reply is pinned by the calls before it; without a call there is none
  pub last_reply : (before : List Call) (c : Call) → calls ≡ before ++ c ∷ [] → IsSomeAnd reply (Answered m (map_after z before) (length old) c)
  pub no_reply : calls ≡ [] → reply ≡ None
  -- and so is what greedy wrote
  pub buffer : new ≡ written (opened z) calls old
