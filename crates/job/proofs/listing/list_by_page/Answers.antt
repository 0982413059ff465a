use Rattle.std.proofs.Common.{◌≡◌, ◌++◌, take, drop, ap₂, ◌∙◌, rules, arith}
use Rattle.job.proofs.Fitted.{answered, again, front}
use Rattle.job.proofs.listing.list_by_page.Goals as goal

pub returns-in_default : goal.returns-in_default
returns-in_default c = again c.args.job.now c.args.out.now (search rules) c.write.new.page c.write-length.ensures.laid (search rules) c.write.ensures.laid

pub returns : goal.returns
returns c =
    let l = c.write-length.ensures.laid in
    let found = c.in-Some.ensures.lookup in
    let read : c.in-Some.listing.now ≡ take c.write-length.result c.write-length.new.page = search rules in
    answered c.args.job.now c.args.out.now (search rules) l.text _ c.write-length.result l.lists (omega (arith, l.laid.behind)) (omega (arith, l.laid.behind, c.if-length-out.false))
    (ap₂ (λ xs n. xs ++ drop n c.args.out.now) (c.copy_from_slice.ensures.after ∙ read ∙ front l.laid (search rules)) (omega (arith, l.laid.behind)))
