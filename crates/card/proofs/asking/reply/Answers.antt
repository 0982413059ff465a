use Rattle.card.proofs.asking.reply.Goals as goal

pub returns : goal.returns
returns c = (c.pile.result, c.pile.ensures, c.replay-reply.result.0, c.replay-reply.new.buffer, rw c.calls.ensures at c.replay-reply.ensures)
