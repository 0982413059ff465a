use Rattle.std.proofs.Common.{ℕ, length, Err, sym, ap, ◌∙◌, arith}
use Rattle.std.proofs.lemmas.Result.{err_from_is_err_and}
use Rattle.judge.proofs.Outcomes.{answers_err, refused_so}
use Rattle.judge.proofs.Charges.{small_below}
use Rattle.judge.proofs.Limits.{small_charge}
use Rattle.judge.proofs.Puts.{row_in, column_in, goes_on, fills}
use Rattle.judge.proofs.columns.GatheredColumns.put.Goals as goal

pub returns-in_err-pe : goal.returns-in_err-pe
returns-in_err-pe g c = λ g' holds.
    let m = g.T.Tariff.meaning c.args.tariff.now in
    let p = err_from_is_err_and c.from_residual.result c.from_residual.ensures.1 in
    answers_err _ _ _ _ p.0 (refused_so _ _ _ _ (c.in_err-pe.ensures m g' holds) ∙ ap Err (sym p.2)) p.1

pub overflow_add-self : goal.overflow_add-self
overflow_add-self g c =
    let m = g.T.Tariff.meaning c.args.tariff.now in
    let law = g.met.T.Tariff.lawful c.args.tariff.now in
    let holds = c.requires.1 in
    omega (arith, ap (λ s. s.charge) holds.is, small_charge c.args.chart.now.host.now c.requires.0 holds.valid m law, c.charge_below.ensures, small_below m law c.args.self.now.above c.in_ok-pe.pe)

pub bounds-self-self : goal.bounds-self-self
bounds-self-self g c = row_in _ _ _ _ c.requires.1 _ _ (c.in_ok-pe.ensures _ _ c.requires.1)

pub offset_bounds-self-self : goal.offset_bounds-self-self
offset_bounds-self-self g c = let low = row_in _ _ _ _ c.requires.1 _ _ (c.in_ok-pe.ensures _ _ c.requires.1) in omega arith

pub bounds-self-self-in_ok-pe : goal.bounds-self-self-in_ok-pe
bounds-self-self-in_ok-pe g c = column_in _ _ _ _ c.requires.1 _ _ (c.in_ok-pe.ensures _ _ c.requires.1)

pub overflow_add-self-2 : goal.overflow_add-self-2
overflow_add-self-2 g c = let low = row_in _ _ _ _ c.requires.1 _ _ (c.in_ok-pe.ensures _ _ c.requires.1) in omega arith

pub overflow_add-self-then-self-len : goal.overflow_add-self-then-self-len
overflow_add-self-then-self-len g c = let low = column_in _ _ _ _ c.requires.1 _ _ (c.in_ok-pe.ensures _ _ c.requires.1) in omega arith

pub returns-then-self-len : goal.returns-then-self-len
returns-then-self-len g c = λ g' holds.
    fills _ _ _ _ holds _ _ (c.in_ok-pe.ensures _ _ holds) c.charge_below.result c.charge_below.ensures
    (omega (arith, c.len.ensures.value, ap (length {A = ℕ}) c.args.chart.now.listed))

pub returns-else-self-len : goal.returns-else-self-len
returns-else-self-len g c = λ g' holds.
    goes_on _ _ _ _ holds _ _ (c.in_ok-pe.ensures _ _ holds) c.charge_below.result c.charge_below.ensures
    (λ e. omega (arith, c.len.ensures.value, ap (length {A = ℕ}) c.args.chart.now.listed))
