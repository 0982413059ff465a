use Rattle.std.proofs.Common.{[], None, sym, ap, ◌∙◌}
use Rattle.plans.specs.Held.{at_each}
use Rattle.plans.proofs.Holding.{at_each_same}
use Rattle.routable.specs.Cards.{card_of}
use Rattle.judge.proofs.Cells.{trailing}
use Rattle.judge.proofs.Charges.{charged_trailing}
use Rattle.judge.proofs.columns.GatheredColumns.none.Goals as goal

pub returns : goal.returns
returns c = λ h m i. record {
  rows = (sym (at_each_same _) ∙ ap (λ xs. at_each (λ s. record { columns = xs })) (sym (at_each_same 0)) ∙ sym (trailing [])) i;
  full = 0;
  place = 0;
  above = None;
  charge = sym (charged_trailing m (card_of h) []) i;
}
