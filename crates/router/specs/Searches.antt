-- What a search keeps. Assumes nothing.
use Rattle.std.specs.Prelude.{◌≡◌, ℕ, ◌+◌, ◌-◌, ◌*◌, ◌<◌, ◌≤◌, Bool, true, false, cond, nat_lt, slice_index, slice_index_or}
use Rattle.flow.specs.Seeks.{Why as Reason, source, below, Marks, Seeking}
use Rattle.flow.specs.Walks.{Settled as SettledLabels}
use Rattle.plans.specs.Tolls.{worth, sum_below}
use Rattle.router.specs.declared.search.Why.{Why}
use Rattle.router.specs.declared.search.Why.TheVariants.{Entry, Dropped, Left, Straight, Right}
use Rattle.router.specs.declared.search.TheConstants.{NEVER}
use Rattle.router.specs.declared.search.Search.{Search}
use Rattle.router.specs.declared.board.TheConstants.{CELLS, ROW}
use Rattle.router.specs.declared.board.Board.{Board}
use Rattle.router.specs.Boards.{Usable, net_of, flow_of, labels_of, Standing}

-- the cell from whose label below the label above w comes
abbrev pub reason : ℕ → Why → Reason ℕ
reason w Entry = source
reason w Dropped = below w
reason w Left = below (w + 1 - ROW)
reason w Straight = below (w - ROW)
reason w Right = below (w - (ROW + 1))

abbrev pub label_of : Search → ℕ → ℕ
label_of s u = slice_index s.label u

abbrev pub due_of : Search → ℕ → ℕ
due_of s u = slice_index_or s.due u NEVER

abbrev pub waits_of : Search → ℕ → Bool
waits_of s u = nat_lt (due_of s u) NEVER

-- the marks of a search; in which order labels were lowered stands in no array
abbrev pub marks_of : Search → (ℕ → ℕ) → ℕ → Marks ℕ
marks_of s stamp clock = record {
  label = label_of s;
  stamp = stamp;
  why = λ u. reason u (slice_index_or s.why u Entry);
  clock = clock;
  rise = s.rise;
  last = s.last;
}

-- labels on trial fall on a board, and each that waits is due as far above its label as it is on trial
pub record Seeks (b : Board) (s : Search) : Type 0 where
  pub standing : Standing b
  pub stamp : ℕ → ℕ
  pub clock : ℕ
  pub seeking : Seeking (net_of b.grid) (flow_of b.ways) (labels_of b.labels) worth (waits_of s) (marks_of s stamp clock)
  pub due : (u : ℕ) → waits_of s u ≡ true → slice_index b.labels.into u + due_of s u ≡ label_of s u

-- the used cells of the first row are entered, and those below i
abbrev pub EnteredTo : Board → Search → ℕ → Type 0
EnteredTo b s i = (u : ℕ) → Usable b.grid u → u < ROW → (slice_index_or b.ways.used u false ≡ false → u < i) → label_of s u ≤ slice_index b.grid.entries u

-- all are
pub record Begun (b : Board) (s : Search) : Type 0 where
  pub seeks : Seeks b s
  pub entered : EnteredTo b s ROW

-- what is left to be done, at the most
abbrev pub work : Search → ℕ
work s = sum_below CELLS (λ u. 2 * label_of s u + cond (waits_of s u) 1 0)

-- labels on trial only fall
pub record Falls (s z : Search) : Type 0 where
  pub labels : (x : ℕ) → label_of z x ≤ label_of s x
  pub work : work z ≤ work s

-- the label on trial of w is lowered to v, where it was higher
pub record Lowered (s z : Search) (w v : ℕ) : Type 0 where
  pub low : label_of z w ≤ v
  pub falls : Falls s z
  pub same : (x : ℕ) → (x ≡ w → label_of s x ≤ v) → label_of z x ≡ label_of s x
  pub waits : (x : ℕ) → waits_of s x ≡ true → waits_of z x ≡ true

-- the cell u is not due before the rise
abbrev pub RestsAt : Search → ℕ → Type 0
RestsAt s u = s.rise ≤ due_of s u

-- the labels are settled, and the search tells their reasons
pub record Settled (b : Board) (s : Search) : Type 0 where
  pub standing : Standing b
  pub stamp : ℕ → ℕ
  pub clock : ℕ
  pub settled : SettledLabels (net_of b.grid) (flow_of b.ways) (labels_of b.labels) worth (marks_of s stamp clock)
