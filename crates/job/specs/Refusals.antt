-- The numbers by which refusals are told. Assumes nothing.
use Rattle.std.specs.Prelude.{ℕ, Some, None, Option}
use Rattle.host.specs.Refusals.{number as card_number}
use Rattle.verdict.specs.Faults.{place as sheet_place}
use Rattle.book.specs.declared.refusal.Refusal.TheVariants.{Judge}
use Rattle.book.specs.Refusals.{number as book_number}
use Rattle.records.specs.declared.RecordFault.{RecordFault}
use Rattle.records.specs.declared.RecordFault.TheVariants.{UnknownKind as UnknownKindAt, CutShort as CutShortAt}
use Rattle.job.specs.declared.refusal.Refusal.{Refusal}
use Rattle.job.specs.declared.refusal.Refusal.TheVariants.{Size, Book, UnknownKind, CutShort, OutOfTurn}
use Rattle.job.specs.declared.refusal.ListingRefusal.{ListingRefusal}
use Rattle.job.specs.declared.refusal.ListingRefusal.TheVariants.{LongJob, ShortBuffer}

abbrev pub number : Refusal → ℕ
number (Size x) = card_number x
number (Book x) = book_number x
number UnknownKind = 7
number CutShort = 8
number OutOfTurn = 9

-- a fault within a sheet has a place, counted from the sheet's first byte
abbrev pub place : Refusal → Option ℕ
place (Book (Judge x)) = Some (sheet_place x)
place _ = None

-- the refusal of a record that could not be read
abbrev pub of_record : RecordFault → Refusal
of_record (UnknownKindAt at) = UnknownKind
of_record (CutShortAt at) = CutShort

abbrev pub listing_number : ListingRefusal → ℕ
listing_number ShortBuffer = 21
listing_number LongJob = 24
