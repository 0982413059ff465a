use Rattle.std.proofs.Common.{◌-◌, ◌∷◌, [], ◌++◌, cond, map, length, sym, ap, ◌∙◌, arith}
use Rattle.std.proofs.lemmas.List.{length-map, append-nil}
use Rattle.masks.specs.Members.{passing}
use Rattle.masks.proofs.Members.{length_passing}
use Rattle.route.specs.Holds.{cell, flow_by}
use Rattle.route.proofs.Ways.{starts_next}
use Rattle.route.proofs.columns.starts.Goals as goal
use Rattle.route.proofs.columns.starts.Goals.{then-board-u, else-board-u}

pub loop-u-init : goal.loop-u-init
unfolding passing
loop-u-init c = c.new-cells.ensures

pub push-requires : goal.push-requires
push-requires c =
    let test = (flow_by c.args.board.now.ways).used 0 in
    let n = c.loop-u.u - 1 in
    (omega arith, omega (arith, ap length c.loop-u.invariant, length-map (passing test n) (cell 0), length_passing test n))

pub loop-u-preserved : goal.loop-u-preserved
loop-u-preserved c =
    let u = c.loop-u.u in
    let was = c.loop-u.invariant in
    let next = starts_next c.args.board.now.ways u (omega arith) (omega arith) in
    elim c.if-board-u.branch [
      | then-board-u w ↦
          ap (λ v. v.items) w.cells-is ∙ w.push.ensures.items ∙ ap (λ xs. xs ++ u ∷ []) was
          ∙ sym (next ∙ ap (λ b. map (cell 0) (passing ((flow_by c.args.board.now.ways).used 0) (u - 1)) ++ cond b (u ∷ []) []) w.if-board-u.true)
      | else-board-u w ↦
          ap (λ v. v.items) w.cells-is ∙ was ∙ sym (append-nil _)
          ∙ sym (next ∙ ap (λ b. map (cell 0) (passing ((flow_by c.args.board.now.ways).used 0) (u - 1)) ++ cond b (u ∷ []) []) w.if-board-u.false)
    ]
