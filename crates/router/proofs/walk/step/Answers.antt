use Rattle.router.proofs.Moves as Moves
use Rattle.router.proofs.walk.step.Goals as goal

pub overflow_sub-charge : goal.overflow_sub-charge
overflow_sub-charge c = let h = c.requires in (Moves.link_inside h.1 c.in-Some.ensures c.if-a-w.false).1

pub returns-in_default-clause-steps : goal.returns-in_default-clause-steps
returns-in_default-clause-steps c n h = Moves.ended h c.in_default.ensures

pub returns-then-a-w-clause-steps : goal.returns-then-a-w-clause-steps
returns-then-a-w-clause-steps c n h = Moves.drops h c.in-Some.ensures c.if-a-w.true _ c.drop.ensures.ways c.drop.ensures.onward

pub returns-then-a-w-clause-others : goal.returns-then-a-w-clause-others
returns-then-a-w-clause-others c = let h = c.requires in Moves.drop_others h.1 c.in-Some.ensures c.if-a-w.true _ c.drop.ensures.ways

pub returns-clause-steps : goal.returns-clause-steps
returns-clause-steps c n h = Moves.links h c.in-Some.ensures c.if-a-w.false _ c.link.ensures.ways c.link.ensures.onward

pub returns-clause-others : goal.returns-clause-others
returns-clause-others c = let h = c.requires in Moves.link_others h.1 c.in-Some.ensures c.if-a-w.false _ c.link.ensures.ways
