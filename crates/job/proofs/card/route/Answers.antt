use Rattle.tariff.specs.Kinds.{links}
use Rattle.book.proofs.Holds.{holds_routed}
use Rattle.book.proofs.Routes.{routed_answers}
use Rattle.job.proofs.Links.{lawful}
use Rattle.job.proofs.card.route.Goals as goal

pub returns-in-None-clause-answer : goal.returns-in-None-clause-answer
returns-in-None-clause-answer c = routed_answers c.args.book.now links c.route.result c.route.new.self lawful c.route.ensures

pub returns-in-None-clause-holds : goal.returns-in-None-clause-holds
returns-in-None-clause-holds c = holds_routed links c.args.book.now c.requires c.route.result c.route.new.self lawful c.route.ensures
