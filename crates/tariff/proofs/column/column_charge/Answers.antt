use Rattle.std.proofs.Common.{◌≡◌, inl, inr, arith}
use Rattle.std.specs.Iterator.Adapters.{zip_first, zip_second}
use Rattle.std.specs.Slice.Iter.{iter_rest}
use Rattle.masks.specs.Masks.{bit}
use Rattle.masks.specs.Members.{members}
use Rattle.masks.proofs.Members.{length_passing}
use Rattle.tariff.proofs.Charges.{onward, onward_rowless, onward_ended, charge_limit}
use Rattle.tariff.proofs.column.column_charge.Goals as goal
use Rattle.tariff.proofs.column.column_charge.Goals.{in-None-above, in-Some-above}

pub overflow_add-sum : goal.overflow_add-sum
overflow_add-sum g c =
    let m = g.T.Tariff.meaning c.args.tariff.now in
    let law = g.met.T.Tariff.lawful c.args.tariff.now in
    let pe = c.at-pe.result in
    let whole = charge_limit m law (members (bit c.args.standing)) c.args.columns.now in
    let few = length_passing (bit c.args.standing) 64 in
    elim c.match-above.branch [
      | in-None-above w ↦ omega (arith, whole, few, law.ceiling_limit, law.entry_limit pe.row pe.column)
      | in-Some-above w ↦
          let upper = w.in-Some-above.upper in
          omega (arith, whole, few, law.ceiling_limit, law.link_limit upper.row upper.column pe.row pe.column)
    ]

pub returns : goal.returns
returns g c =
    let m = g.T.Tariff.meaning c.args.tariff.now in
    let left = members (bit (zip_first c.loop-row.row-iterator).left) in
    let rest = iter_rest (zip_second c.loop-row.row-iterator) in
    let none : onward m c.loop-row.above left rest ≡ 0 = elim c.in-None.ensures.steps [
      | inl s ↦ onward_rowless m c.loop-row.above left rest s.1.0
      | inr s ↦ onward_ended m c.loop-row.above left rest s.1.0
    ] in
    omega (arith, c.loop-row.invariant.paid, none)
