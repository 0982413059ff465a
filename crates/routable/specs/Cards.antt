-- A card as routing sees it. Assumes nothing.
use Rattle.masks.specs.Members.{members}
use Rattle.host.specs.declared.Host.{Host}
use Rattle.host.specs.Maps.{usable, stands}
use Rattle.plans.specs.Columns.{Card}

-- the standing rows, going down, and which PEs are usable
abbrev pub card_of : Host → Card
card_of h = record { rows = members (stands h); usable = usable h }
