-- Calls made one after another, as a loop makes them. Assumes nothing.
use Rattle.std.proofs.Common.{◌≡◌, ℕ, ◌+◌, ◌<◌, ◌≤◌, List, [], length, take, get_or, Some, None, sym, refl, subst}
use Rattle.std.proofs.lemmas.List.{take_more, take_all}
use Rattle.host.specs.declared.size.Size.{Size}
use Rattle.tariff.specs.Meaning.{Meaning, Lawful}
use Rattle.book.specs.declared.Book.{Book}
use Rattle.book.specs.Books.{opened_book}
use Rattle.promise.specs.declared.call.Call.{Call}
use Rattle.promise.specs.Promise.{Answer, buffer_after, Promise}
use Rattle.promise.specs.Runs.{Called, State, start, Step, Run, none, more}
use Rattle.promise.proofs.Keeping.{kept_promise}

module _ {T : Type 0} (meaning : T → Meaning) (lawful : (t : T) → Lawful (meaning t)) (z : Size) (tariff : T) (calls : List Call) (buffer : List ℕ) where
  pub opened : (b : Book T) → b ≡ opened_book z tariff → Run (meaning tariff) (start z tariff buffer) (take 0 calls) (record { book = b; buffer = buffer; reply = None })
  opened b e = subst (λ (x : Book T). Run (meaning tariff) (start z tariff buffer) [] (record { book = x; buffer = buffer; reply = None })) (sym e) none

  -- one call more
  pub called : (i : ℕ) (c : Call) (s : State T) (answer : Answer) (book : Book T) (written : List ℕ) → i < length calls →
      Run (meaning tariff) (start z tariff buffer) (take i calls) s → Called (meaning s.book.tariff) s.book (length s.buffer) (get_or calls i c) answer book →
      written ≡ buffer_after s.book.host (get_or calls i c) s.buffer →
      Run (meaning tariff) (start z tariff buffer) (take (i + 1) calls) (record { book = book; buffer = written; reply = Some answer })
  called i c s answer book written l run call wrote =
      let d = get_or calls i c in
      let new : State T = record { book = book; buffer = written; reply = Some answer } in
      let same = (kept_promise z tariff (meaning tariff) (lawful tariff) (take i calls) buffer s run).same_tariff in
      let step : Step (meaning tariff) s d new = record {
        answer = answer;
        called = subst (λ t. Called (meaning t) s.book (length s.buffer) d answer book) same call;
        buffer = wrote;
        reply = refl;
      } in
      subst (λ cs. Run (meaning tariff) (start z tariff buffer) cs new) (sym (take_more calls i c l)) (more (take i calls) s d new run step)

  pub promised : (i : ℕ) (s : State T) → length calls ≤ i → Run (meaning tariff) (start z tariff buffer) (take i calls) s →
      Promise z tariff (meaning tariff) calls s.book s.reply buffer s.buffer
  promised i s l run =
      subst (λ cs. Promise z tariff (meaning tariff) cs s.book s.reply buffer s.buffer) (take_all i calls l)
      (kept_promise z tariff (meaning tariff) (lawful tariff) (take i calls) buffer s run)
