use Rattle.std.proofs.Common.{sym, subst}
use Rattle.tariff.specs.Kinds.{links}
use Rattle.host.specs.Changes.{marking, choosing}
use Rattle.book.specs.Plans.{HoldsBest}
use Rattle.book.proofs.Holds.{holds_changed, holds_judged}
use Rattle.job.proofs.Links.{lawful}
use Rattle.job.proofs.card.call.Goals as goal

pub returns-in-Judge-clause-holds : goal.returns-in-Judge-clause-holds
returns-in-Judge-clause-holds c =
    subst (HoldsBest links) (sym c.judge.ensures.book) (holds_judged links c.args.book.now c.requires c.in-Judge.sheet.now lawful)

pub returns-in_ok-mark-in-Mark-clause-holds : goal.returns-in_ok-mark-in-Mark-clause-holds
returns-in_ok-mark-in-Mark-clause-holds c =
    subst (HoldsBest links) (sym c.mark.ensures.book) (holds_changed links c.args.book.now c.requires (marking _ _))

pub returns-in_ok-choose-in-Choose-clause-holds : goal.returns-in_ok-choose-in-Choose-clause-holds
returns-in_ok-choose-in-Choose-clause-holds c =
    subst (HoldsBest links) (sym c.choose.ensures.book) (holds_changed links c.args.book.now c.requires (choosing _ _))

pub returns-in_err-mark-in-Mark-clause-holds : goal.returns-in_err-mark-in-Mark-clause-holds
returns-in_err-mark-in-Mark-clause-holds c =
    subst (HoldsBest links) (sym c.mark.ensures.book) (holds_changed links c.args.book.now c.requires (marking _ _))
