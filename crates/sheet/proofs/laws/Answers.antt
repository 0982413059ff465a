use Rattle.std.proofs.Common.{[], sym, refl, ap, ◌∙◌}
use Rattle.sheet.specs.declared.state.State.TheVariants.{Opening}
use Rattle.sheet.specs.Records.{kind_of}
use Rattle.sheet.specs.Runs.{new_desk}
use Rattle.sheet.proofs.Bodies.{kind-code, code_known}
use Rattle.sheet.proofs.Runs.{reads_from, lost_from, wrote_all}
use Rattle.sheet.proofs.laws.Goals as goal

pub returns : goal.returns
returns c = record {
  one_byte = λ b kind. (kind-code b kind, λ e. ap kind_of (sym e) ∙ code_known kind);
  reads_back = λ xs s. reads_from xs Opening 0 s;
  nothing_lost = λ bs xs s. lost_from xs Opening 0 bs s;
  writes = λ buffer xs. wrote_all buffer xs [] (new_desk buffer) (record { bytes = refl; place = refl; legal = refl });
}
