-- What a search keeps is nothing of its queue. Assumes nothing.
use Rattle.router.specs.declared.queue.Queue.{Queue}
use Rattle.router.specs.declared.search.Search.{Search}
use Rattle.router.specs.declared.board.Board.{Board}
use Rattle.router.specs.Searches.{Begun}

pub begun : {b : Board} {s : Search} (q : Queue) → Begun b s → Begun b (record s { queue = q })
begun q h = record {
  seeks = record { standing = h.seeks.standing; stamp = h.seeks.stamp; clock = h.seeks.clock; seeking = h.seeks.seeking; due = h.seeks.due };
  entered = h.entered;
}
