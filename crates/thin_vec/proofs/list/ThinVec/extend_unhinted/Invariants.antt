-- Before each iteration of the loop, the list contains its old items, followed by all items that
-- the iterator has yielded so far. Its capacity and its cost are
-- those after as many pushes.
use Rattle.std.proofs.Common.{◌≡◌, ◌+◌, ◌≤◌, List, ◌++◌, length}
use Rattle.std.specs.Iterator.{IsFinite, Yields, size}
use denote.Param.{param}
use Rattle.thin_vec.specs.Cheap.{IsCheap}
use Rattle.thin_vec.specs.List.Extend.{IsAfterPushes}
use Rattle.thin_vec.proofs.list.ThinVec.extend_unhinted.Given as goal

abbrev pub invariant-loop-rest : goal.invariant-loop-rest
invariant-loop-rest g l = record {
  can : g.I.Iterator.can_next l.rest;
  finite : IsFinite (g.I.Iterator.remaining l.rest);
  placed : (xs : List g.row.T.Denot) × (l.self.items ≡ l.fn.self.items ++ xs)
      × Yields g.I.Iterator.next_gives l.fn.iter xs l.rest;
  nearer : length l.self.items + size (g.I.Iterator.remaining l.rest)
      ≤ length l.fn.self.items + size (g.I.Iterator.remaining l.fn.iter);
  never_less : l.fn.self.capacity ≤ l.self.capacity;
  had_room : length l.fn.self.items + size (g.I.Iterator.remaining l.fn.iter) ≤ l.fn.self.capacity
      → l.self.capacity ≡ l.fn.self.capacity;
  after : IsAfterPushes g.G.Growth.rule (param 0 g.row.T) l.fn.self l.self;
  alloc : l.self.alloc ≡ l.fn.self.alloc;
  cheap : IsCheap l.fn.self → IsCheap l.self;
}

abbrev pub decreases-loop-rest : goal.decreases-loop-rest
decreases-loop-rest g l = size (g.I.Iterator.remaining l.rest)
