-- The numbers and byte places of what is wrong with a sheet. Assumes nothing.
use Rattle.std.specs.Prelude.{ℕ}
use Rattle.records.specs.Records.{number as record_number, place as record_place}
use Rattle.sheet.specs.declared.fault.SheetFault.{SheetFault}
use Rattle.sheet.specs.declared.fault.SheetFault.TheVariants.{Record, OutOfTurn, NoEnd, AfterEnd}

abbrev pub number : SheetFault → ℕ
number (Record x) = record_number x
number (OutOfTurn at) = 9
number (NoEnd at) = 10
number (AfterEnd at) = 11

abbrev pub place : SheetFault → ℕ
place (Record x) = record_place x
place (OutOfTurn at) = at
place (NoEnd at) = at
place (AfterEnd at) = at
