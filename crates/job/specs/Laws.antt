-- Laws of whole listings. Assumes nothing.
use Rattle.std.specs.Prelude.{◌≡◌, ℕ, List, [], ◌∷◌, ◌++◌, length, map, None, Ok, Err, Option, Result}
use Rattle.std.specs.List.{AllByRecursion, flat_map}
use Rattle.host.specs.declared.Host.{Host}
use Rattle.host.specs.declared.part.Part.TheVariants.{Pe, RowSwitch, ColumnSwitch}
use Rattle.sheet.specs.Extents.{extent}
use Rattle.job.specs.declared.line.Line.{Line}
use Rattle.job.specs.declared.record.Kind.TheVariants as k
use Rattle.job.specs.declared.record.Call.TheVariants.{Mark, Choose, Route, Greedy, Judge}
use Rattle.job.specs.declared.record.Record.TheVariants.{Size, Call}
use Rattle.job.specs.declared.record.Entry as e
use Rattle.job.specs.declared.refusal.Refusal.{Refusal}
use Rattle.job.specs.Records.{Asked, code, entries}
use Rattle.job.specs.Lines.{map_after, Replied, line, Lines, Told, Listing}

-- a record as it is written: its kind, and its body with the sheet that follows
abbrev pub kind : Asked → ℕ
kind (Size rows columns) = code k.Size
kind (Call (Mark (Pe i j) s)) = code k.MarkPe
kind (Call (Mark (RowSwitch i j) s)) = code k.MarkRowSwitch
kind (Call (Mark (ColumnSwitch i j) s)) = code k.MarkColumnSwitch
kind (Call (Choose i s)) = code k.Choose
kind (Call Route) = code k.Route
kind (Call Greedy) = code k.Greedy
kind (Call (Judge sheet)) = code k.Judge

abbrev pub body : Asked → List ℕ
body (Size rows columns) = rows ∷ columns ∷ []
body (Call (Mark (Pe i j) s)) = i ∷ j ∷ s ∷ []
body (Call (Mark (RowSwitch i j) s)) = i ∷ j ∷ s ∷ []
body (Call (Mark (ColumnSwitch i j) s)) = i ∷ j ∷ s ∷ []
body (Call (Choose i s)) = i ∷ s ∷ []
body (Call (Judge sheet)) = sheet
body (Call _) = []

abbrev pub bytes : List Asked → List ℕ
bytes rs = flat_map (λ r. kind r ∷ body r) rs

-- a sheet that ends where its end record does, whatever follows
abbrev pub Closed : Asked → Type 0
Closed (Call (Judge sheet)) = (more : List ℕ) → extent (sheet ++ more) ≡ length sheet
Closed _ = Unit {0}

abbrev pub Entry : Type 0
Entry = e.Entry (List ℕ)

-- the answer to all but a route is given by an equation; a route's tells of some best family
abbrev pub Fixed : Result Asked Refusal → Type 0
Fixed (Ok (Call Route)) = ⊥
Fixed _ = Unit {0}

-- a record that is read whole
abbrev pub whole : Asked → Entry
whole r = record { kind = kind r; content = Ok r }

-- the map that entries leave
unfoldable pub map_left : Option Host → List Entry → Option Host
map_left before [] = before
map_left before (e ∷ es) = map_left (map_after before e.content) es

pub record Laws : Type 0 where
  -- records written one behind the other are read as those records
  pub reads : (rs : List Asked) (more : List ℕ) → AllByRecursion Closed rs → entries (bytes rs ++ more) ≡ map whole rs ++ entries more
  -- a job in which nothing is wrong is its records and nothing else
  pub nothing_lost : (job : List ℕ) (rs : List Asked) → entries job ≡ map whole rs → job ≡ bytes rs
  -- what cannot be read ends the reading
  pub fault_last : (job : List ℕ) (es fs : List Entry) (e : Entry) (x : Refusal) → entries job ≡ es ++ e ∷ fs → e.content ≡ Err x → fs ≡ []
  -- a job has one listing
  pub one_listing : (job listing other : List ℕ) → Listing job listing → Listing job other → listing ≡ other
  -- from whichever map, entries have one list of lines at most
  pub one_list : (before : Option Host) (es : List Entry) (ls ms : List Line) → Lines before es ls → Lines before es ms → ls ≡ ms
  -- and where none asks for a route, they have one
  pub some_list : (before : Option Host) (es : List Entry) → AllByRecursion (λ (e : Entry). Fixed e.content) es → (ls : List Line) × Lines before es ls
  -- one line for each entry, with its kind
  pub one_each : (before : Option Host) (es : List Entry) (ls : List Line) → Lines before es ls → map (λ (l : Line). l.kind) ls ≡ map (λ (e : Entry). e.kind) es
  -- lines depend only on the entries up to them
  pub in_order : (before : Option Host) (es fs : List Entry) (ls ms : List Line) → Lines before es ls → Lines (map_left before es) fs ms → Lines before (es ++ fs) (ls ++ ms)
  pub comes_apart : (before : Option Host) (es fs : List Entry) (ns : List Line) → Lines before (es ++ fs) ns →
      (ls : List Line) × (ms : List Line) × Lines before es ls × Lines (map_left before es) fs ms × (ns ≡ ls ++ ms)
  -- a refused entry changes no later line
  pub refused_silent : (before : Option Host) (es fs : List Entry) (e : Entry) (x : Refusal) (ls ms : List Line) →
      Lines before es ls → Lines (map_left before es) fs ms → Replied (map_left before es) e.content (Err x) →
      Lines before (es ++ e ∷ fs) (ls ++ line e.kind (Err x) ∷ ms)
  pub refused_apart : (before : Option Host) (es fs : List Entry) (e : Entry) (x : Refusal) (ns : List Line) →
      Replied (map_left before es) e.content (Err x) → Lines before (es ++ e ∷ fs) ns →
      (ls : List Line) × (ms : List Line) × Lines before es ls × Lines (map_left before es) fs ms × (ns ≡ ls ++ line e.kind (Err x) ∷ ms)
  -- the listing of a longer job begins with the listing of the shorter
  pub prefix : (rs : List Asked) (more listing told : List ℕ) → AllByRecursion Closed rs → Listing (bytes rs) listing → Told (map_left None (map whole rs)) (entries more) told →
      Listing (bytes rs ++ more) (listing ++ told)
  pub begins : (rs : List Asked) (more shorter longer : List ℕ) → AllByRecursion Closed rs → Listing (bytes rs) shorter → Listing (bytes rs ++ more) longer →
      (told : List ℕ) × Told (map_left None (map whole rs)) (entries more) told × (longer ≡ shorter ++ told)
