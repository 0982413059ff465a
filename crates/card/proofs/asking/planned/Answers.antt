use Rattle.std.proofs.Common.{◌≡◌, ℕ, take, length, ap, ◌∙◌}
use Rattle.std.specs.Result.{result_unwrap_or}
use Rattle.book.specs.Plans.{plan_out_answer, plan_out_buffer}
use Rattle.card.proofs.asking.planned.Goals as goal

pub returns : goal.returns
returns c = (c.pile.result, c.pile.ensures, c.replay-reply.result.0, c.replay-reply.result.1, c.replay-reply.new.buffer, (rw c.calls.ensures at c.replay-reply.ensures), written)
  where
    sheet_length : ℕ
    sheet_length = result_unwrap_or (plan_out_answer c.replay-reply.result.0 (length c.args.sheet.now)) 0

    written : c.front.result.now ≡ take sheet_length (plan_out_buffer c.replay-reply.result.0 c.args.sheet.now)
    written =
        c.front.ensures
        ∙ ap (λ n. take n c.plan_out.new.out) (c.unwrap_or-length.ensures ∙ ap (λ r. result_unwrap_or r 0) c.plan_out.ensures.answer)
        ∙ ap (take sheet_length) c.plan_out.ensures.buffer
