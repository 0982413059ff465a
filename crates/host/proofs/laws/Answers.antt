use Rattle.std.proofs.Common.{refl}
use Rattle.host.proofs.Meanings.{usable_when, stands_when}
use Rattle.host.proofs.Places.{whole-after, state-opened, state_after, kept_by}
use Rattle.host.proofs.Altering.{alters_when}
use Rattle.host.proofs.Repeats.{later, twice}
use Rattle.host.proofs.laws.Goals as goal

pub returns : goal.returns
returns c = record {
  usable_when = usable_when;
  stands_when = stands_when;
  opened_whole = λ z. refl;
  after_whole = whole-after;
  opened_state = state-opened;
  refused = kept_by;
  done = state_after;
  alters_when = alters_when;
  later = later;
  twice = twice;
}
