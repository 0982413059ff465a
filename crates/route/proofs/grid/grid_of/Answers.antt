use Rattle.std.proofs.Common.{◌-◌, ◌*◌, cond, length, get_or, ap, ◌∙◌, arith}
use Rattle.plans.specs.Tolls.{worth}
use Rattle.routable.specs.Cards.{card_of}
use Rattle.routable.proofs.Cards.{within}
use Rattle.route.specs.Grids.{has_pe, links_from}
use Rattle.route.proofs.Grids as Grids
use Rattle.route.proofs.grid.grid_of.Goals as goal

pub returns : goal.returns
returns g c =
    let h = c.args.host.now in
    let m = g.T.Tariff.meaning c.args.tariff.now in
    let laid : Grids.Laid (card_of h) m (record { tops = c.tops.result; entries = c.entries.result; links = c.links.result; last = _ }) = record {
      some = omega (arith, ap length c.requires.rows);
      tops = λ u l. c.tops.ensures u l ∙ ap (λ rows. cond (has_pe rows u) worth 0) (c.as_slice.ensures.value ∙ c.usable_rows.ensures);
      entries = λ u l. c.entries.ensures u l ∙ ap (λ rows. m.entry (get_or rows 0 0) (u - 1)) c.requires.rows;
      links = λ u l. c.links.ensures u l ∙ ap (λ rows. links_from m rows u) c.requires.rows;
      last = ap (λ rows. (length rows - 1) * 66) c.requires.rows;
      cells = omega arith;
      starts = omega arith;
      linked = omega arith;
    } in
    record {
      holds = Grids.holds (card_of h) m _ (within h) (g.met.T.Tariff.lawful c.args.tariff.now) laid;
      shape = Grids.shape (card_of h) m _ (within h) (g.met.T.Tariff.lawful c.args.tariff.now) laid;
    }
