-- What comes of each record of a job, and how it is told. Assumes nothing.
use Rattle.std.specs.Prelude.{◌≡◌, ℕ, ◌/◌, ◌%◌, true, List, [], ◌∷◌, ◌++◌, Some, None, Ok, Err, codes, decimal, Option, Result}
use Rattle.std.specs.List.{flat_map}
use Rattle.std.specs.Option.{option_map}
use Rattle.std.specs.Fmt.{digit_glyph}
use Rattle.host.specs.declared.Host.{Host}
use Rattle.host.specs.declared.refusal.Refusal.{Refusal as CardRefusal}
use Rattle.host.specs.declared.size.Size.{Size as CardSize}
use Rattle.host.specs.Sizes.{tested}
use Rattle.host.specs.Changes.{marking, choosing, opened, answer, after}
use Rattle.tariff.specs.declared.links.Links.{Links}
use Rattle.tariff.specs.Kinds.{links}
use Rattle.book.specs.declared.Book.{Book}
use Rattle.book.specs.declared.refusal.Refusal.{Refusal as BookRefusal}
use Rattle.book.specs.Calls.{by_card, greedy_answer}
use Rattle.book.specs.Plans.{judge_answer, RouteAnswers}
use Rattle.job.specs.declared.line.Line.{Line}
use Rattle.job.specs.declared.record.Call.{Call}
use Rattle.job.specs.declared.record.Call.TheVariants.{Mark, Choose, Route, Greedy, Judge}
use Rattle.job.specs.declared.record.Entry.{Entry}
use Rattle.job.specs.declared.record.Record.TheVariants.{Size, Call as Asks}
use Rattle.job.specs.declared.refusal.Refusal.{Refusal}
use Rattle.job.specs.declared.refusal.Refusal.TheVariants.{Size as SizeRefused, Book as BookRefused, OutOfTurn}
use Rattle.job.specs.Refusals.{number, place}
use Rattle.job.specs.Records.{Asked, entries}

-- the map of a book; a job's books all charge by links
abbrev pub map_of : Book Links → Host
map_of b = b.host

-- a call on a map changes it by the book's own words
abbrev pub changed : Host → Call (List ℕ) → Host
changed h (Mark part state) = after h (marking part state)
changed h (Choose row state) = after h (choosing row state)
changed h _ = h

-- an accepted size opens a new card; a refused one keeps the card before it
abbrev pub opened_or : Option Host → Result CardSize CardRefusal → Option Host
opened_or map (Ok z) = Some (opened z)
opened_or map (Err x) = map

-- the map after what was read, where there is a card
abbrev pub map_after : Option Host → Result Asked Refusal → Option Host
map_after map (Err x) = map
map_after map (Ok (Size rows columns)) = opened_or map (tested rows columns)
map_after map (Ok (Asks c)) = option_map (λ h. changed h c) map

-- what a record is answered: a number of columns and their total charge, where it asks for them, or why it is refused
abbrev pub Reply : Type 0
Reply = Result (Option (ℕ × ℕ)) Refusal

abbrev pub sized : Result CardSize CardRefusal → Reply
sized (Ok z) = Ok None
sized (Err x) = Err (SizeRefused x)

abbrev pub done : Result (Unit {0}) BookRefusal → Reply
done (Ok nothing) = Ok None
done (Err x) = Err (BookRefused x)

abbrev pub counted : Result (ℕ × ℕ) BookRefusal → Reply
counted (Ok p) = Ok (Some p)
counted (Err x) = Err (BookRefused x)

-- what a call on a map is answered; greedy has room for the columns of any card, and a route answers for some best family
abbrev pub Answered : Host → Call (List ℕ) → Reply → Type 0
Answered h (Mark part state) r = r ≡ done (by_card (answer h (marking part state)))
Answered h (Choose row state) r = r ≡ done (by_card (answer h (choosing row state)))
Answered h Route r = (a : Result (ℕ × ℕ) BookRefusal) × RouteAnswers h links a × (r ≡ counted a)
Answered h Greedy r = r ≡ counted (greedy_answer h links 4096)
Answered h (Judge sheet) r = r ≡ counted (judge_answer h links sheet)

-- what is answered to what was read; before a card is opened no call is in turn
abbrev pub Replied : Option Host → Result Asked Refusal → Reply → Type 0
Replied map (Err x) r = r ≡ Err x
Replied map (Ok (Size rows columns)) r = r ≡ sized (tested rows columns)
Replied None (Ok (Asks c)) r = r ≡ Err OutOfTurn
Replied (Some h) (Ok (Asks c)) r = Answered h c r

abbrev pub line : ℕ → Reply → Line
line kind reply = record { kind = kind; reply = reply }

-- a line for each entry, on the map that those before it left
pub data Lines : Option Host → List (Entry (List ℕ)) → List Line → Type 0 where
  none : (map : Option Host) → Lines map [] []
  more : (map : Option Host) (e : Entry (List ℕ)) (r : Reply) (es : List (Entry (List ℕ))) (ls : List Line) →
      Replied map e.content r → Lines (map_after map e.content) es ls → Lines map (e ∷ es) (line e.kind r ∷ ls)

-- where a fault within a sheet is
abbrev pub at : Option ℕ → List ℕ
at None = []
at (Some place) = codes " at " ++ decimal place

-- what is told of a refusal
abbrev pub refused : ℕ → Option ℕ → List ℕ
refused n place = codes "no " ++ decimal n ++ at place ++ codes "\n"

-- what is told of columns: their number and total charge
abbrev pub counts : ℕ → ℕ → List ℕ
counts columns total = decimal columns ++ codes " " ++ decimal total ++ codes "\n"

abbrev pub said : Reply → List ℕ
said (Ok None) = codes "ok\n"
said (Ok (Some p)) = counts p.0 p.1
said (Err x) = refused (number x) (place x)

-- a line: the kind in two capital hexadecimal digits, a space, and what is said
abbrev pub text : Line → List ℕ
text l = digit_glyph true (l.kind / 16) ∷ digit_glyph true (l.kind % 16) ∷ codes " " ++ said l.reply

-- what is told of entries, from a map on
pub record Told (map : Option Host) (es : List (Entry (List ℕ))) (told : List ℕ) : Type 0 where
  pub lines : List Line
  pub of_entries : Lines map es lines
  pub texts : told ≡ flat_map text lines

-- the listing of a whole job
abbrev pub Listing : List ℕ → List ℕ → Type 0
Listing job listing = Told None (entries job) listing
