use Rattle.std.proofs.Common.{◌≡◌, None, subst, ap, ap₂, ◌∙◌, length, rules, arith}
use Rattle.job.specs.Refusals.{listing_number}
use Rattle.job.specs.Lines.{refused}
use Rattle.job.specs.Listings.{Answered}
use Rattle.job.proofs.Fitted.{printed}
use Rattle.job.specs.Pages.{overlaid}
use Rattle.job.proofs.Overlays.{overlaid_front}
use Rattle.job.proofs.listing.print.Goals as goal

pub returns-in-Err : goal.returns-in-Err
returns-in-Err c =
    let told = refused (listing_number c.in-Err.x) None in
    let long : length c.args.out.now ≡ 65536 = search rules in
    let p = printed c.args.job.now c.args.out.now c.in-Err.x c.list.new.out long (subst (λ a. Answered c.args.job.now c.args.out.now a c.list.new.out) c.in-Err.is c.list.ensures) in
    let said : c.deref.result.now ≡ told = cc in
    let fits = c.deref.ensures.1 in
    record {
      text = told;
      printed = p.1;
      behind = omega (arith, c.lay.ensures.behind, ap length said);
      front = c.lay.ensures.over ∙ ap₂ (λ page text. overlaid page 0 text) p.0 said ∙ overlaid_front c.args.out.now told (omega (arith, fits, ap length said, long));
      fits = omega (arith, c.lay.ensures.behind, fits);
    }
