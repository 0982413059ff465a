-- What the router leaves is a plan. Assumes nothing.
use Rattle.std.proofs.Common.{◌≡◌, ℕ, ◌-◌, Bool, true, false, cond, ◌&&◌, ltb, get_or, refl, ◌∙◌}
use Rattle.tariff.specs.Meaning.{Meaning, Lawful}
use Rattle.plans.specs.Columns.{Card, Within}
use Rattle.plans.specs.Tolls.{Plan, worth}
use Rattle.plans.specs.Potentials.{TollsOf, columns_of}
use Rattle.plans.proofs.Flows as Flows
use Rattle.router.specs.declared.board.Board.{Board}
use Rattle.router.specs.Boards.{Standing}
use Rattle.router.specs.Tolls.{out_of}
use Rattle.route.specs.Holds.{cell, Holds, flow_by, labels_by}
use Rattle.route.specs.Told.{told}
use Rattle.route.proofs.Places.{told_at}
use Rattle.route.proofs.Rows as Rows

rise : (inside used : Bool) (out into : ℕ) → cond inside (cond used (out - into) 0) 0 ≡ cond (inside && used) (cond used out into - into) 0
rise true true out into = refl
rise true false out into = refl
rise false used out into = refl

-- the tolls by rows and columns
tolls_of : (c : Card) (b : Board) → Within c → TollsOf c (labels_by b) (flow_by b.ways) (told c.rows b)
tolls_of c b within s j l =
    told_at b c.rows within.down s j l ∙ rise (ltb j 64) (get_or b.ways.used (cell s j) false) (out_of b (cell s j)) (get_or b.labels.into (cell s j) 0)

-- where a board holds a card, its ways are whole and its labels fit them up to the worth, its columns and tolls are a plan
pub plan : (c : Card) (m : Meaning) (b : Board) → Within c → Lawful m → Holds c m b.grid → Standing b → b.labels.exit ≡ worth →
    Plan c m (told c.rows b) (columns_of c (flow_by b.ways))
plan c m b within lawful k h top =
    Flows.theorem c m (labels_by b) (flow_by b.ways) (told c.rows b) within lawful k.some (Rows.routes b h c m within k) (Rows.feasible b h c m within k)
    (Rows.tight b h c m within k) top (tolls_of c b within)
