-- The numbers and byte places of what is wrong with a sheet for a card. Assumes nothing.
use Rattle.std.specs.Prelude.{ℕ}
use Rattle.sheet.specs.Faults.{number as sheet_number, place as sheet_place}
use Rattle.verdict.specs.declared.fault.CardFault.{CardFault}
use Rattle.verdict.specs.declared.fault.CardFault.TheVariants.{OtherCard, OutsideHost, NotUsable, NotRight, TollPlace, TollOrder, TollAmount, Underpriced, WrongSum}
use Rattle.verdict.specs.declared.fault.JudgeFault.{JudgeFault}
use Rattle.verdict.specs.declared.fault.JudgeFault.TheVariants.{Sheet, Card}

abbrev pub card_number : CardFault → ℕ
card_number OtherCard = 12
card_number OutsideHost = 13
card_number NotUsable = 14
card_number NotRight = 15
card_number TollPlace = 16
card_number TollOrder = 17
card_number TollAmount = 18
card_number Underpriced = 19
card_number WrongSum = 20

abbrev pub number : JudgeFault → ℕ
number (Sheet x) = sheet_number x
number (Card x at) = card_number x

abbrev pub place : JudgeFault → ℕ
place (Sheet x) = sheet_place x
place (Card x at) = at
