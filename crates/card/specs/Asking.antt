-- What calls on a book of a drawn card are answered. Assumes nothing.
use Rattle.std.specs.Prelude.{◌≡◌, ℕ, List, length, take, replicate, Option}
use Rattle.std.specs.Result.{result_unwrap_or}
use Rattle.book.specs.declared.Book.{Book}
use Rattle.book.specs.Plans.{plan_out_answer, plan_out_buffer}
use Rattle.promise.specs.declared.call.Call.{Call}
use Rattle.promise.specs.Promise.{Answer, Promise}
use Rattle.card.specs.Piles.{Pile, IsPileOf, meaning}
use Rattle.card.specs.declared.drawing.Drawing.{Drawing}

-- the promise is kept over the calls, and this is the reply to the last of them
abbrev pub KeepsPromise : Drawing → List Call → Option Answer → Type 0
KeepsPromise d calls reply = (pile : Pile) × IsPileOf d.lines.now pile × (book : Book Pile) × (left : List ℕ) × Promise d.size pile (meaning pile) calls book reply (replicate 4096 0) left

-- the promise is kept over the calls, and a sheet is what the book that is left writes of its plan over bytes that were there
abbrev pub PlanWritten : Drawing → List Call → List ℕ → List ℕ → Type 0
PlanWritten d calls there sheet = (pile : Pile) × IsPileOf d.lines.now pile × (book : Book Pile) × (reply : Option Answer) × (left : List ℕ) ×
    Promise d.size pile (meaning pile) calls book reply (replicate 4096 0) left ×
    (sheet ≡ take (result_unwrap_or (plan_out_answer book (length there)) 0) (plan_out_buffer book there))
