-- One call on a book, and calls one after another. Assumes nothing.
use Rattle.std.specs.Prelude.{◌≡◌, ℕ, min, List, [], ◌∷◌, ◌++◌, length, Some, None, Option, Result}
use Rattle.host.specs.declared.size.Size.{Size}
use Rattle.host.specs.Changes.{marking, picturing, choosing, answer}
use Rattle.tariff.specs.Meaning.{Meaning}
use Rattle.book.specs.declared.Book.{Book}
use Rattle.book.specs.declared.refusal.Refusal.{Refusal}
use Rattle.book.specs.Books.{opened_book, changed}
use Rattle.book.specs.Calls.{by_card, greedy_answer, trial_answer}
use Rattle.book.specs.Plans.{judge_answer, judged_book, Routed}
use Rattle.promise.specs.declared.call.Call.{Call}
use Rattle.promise.specs.declared.call.Call.TheVariants.{Mark, Picture, Choose, Trial, Greedy, Route, Judge}
use Rattle.promise.specs.Promise.{Answer, done, counted, buffer_after}

-- what a call answers and leaves, as the calls' own contracts say it; greedy has so much room
abbrev pub Called : {T : Type 0} → Meaning → Book T → ℕ → Call → Answer → Book T → Type 0
Called m b bytes (Mark part state) r new = (r ≡ done (by_card (answer b.host (marking part state)))) × (new ≡ changed b (marking part state))
Called m b bytes (Picture row text) r new = (r ≡ done (by_card (answer b.host (picturing row text.now)))) × (new ≡ changed b (picturing row text.now))
Called m b bytes (Choose row state) r new = (r ≡ done (by_card (answer b.host (choosing row state)))) × (new ≡ changed b (choosing row state))
Called m b bytes (Trial row) r new = (r ≡ counted (trial_answer b.host m row)) × (new ≡ b)
Called m b bytes (Greedy room) r new = (r ≡ counted (greedy_answer b.host m (min room bytes))) × (new ≡ b)
Called m b bytes Route r new = (a : Result (ℕ × ℕ) Refusal) × (r ≡ counted a) × Routed b m a new
Called m b bytes (Judge sheet) r new = (r ≡ counted (judge_answer b.host m sheet.now)) × (new ≡ judged_book b m sheet.now)

-- a book, the buffer that goes with its calls, and the last reply
pub record State (T : Type 0) : Type 0 where
  pub book : Book T
  pub buffer : List ℕ
  pub reply : Option Answer

abbrev pub start : {T : Type 0} → Size → T → List ℕ → State T
start z t buffer = record { book = opened_book z t; buffer = buffer; reply = None }

-- one call
pub record Step {T : Type 0} (m : Meaning) (s : State T) (c : Call) (new : State T) : Type 0 where
  pub answer : Answer
  pub called : Called m s.book (length s.buffer) c answer new.book
  pub buffer : new.buffer ≡ buffer_after s.book.host c s.buffer
  pub reply : new.reply ≡ Some answer

-- calls one after another
pub data Run {T : Type 0} (m : Meaning) (s : State T) : List Call → State T → Type 0 where
  none : Run m s [] s
  more : (calls : List Call) (between : State T) (c : Call) (new : State T) → Run m s calls between → Step m between c new → Run m s (calls ++ c ∷ []) new
