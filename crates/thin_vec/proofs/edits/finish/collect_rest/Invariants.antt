-- Before each iteration of the outer loop, the vector `held` and the item `next` contain, in order,
-- the item `first` and all items that the iterator yielded during the call. Before each iteration
-- of the inner loop, the vector contains them all.
use Rattle.std.proofs.Common.{[], ◌≡◌, ◌+◌, ◌≤◌, List, ◌++◌, ◌∷◌, length}
use Rattle.std.specs.Iterator.{IsFinite, Yields, size}
use Rattle.thin_vec.proofs.edits.finish.collect_rest.Given as goal

abbrev pub invariant-loop-refused : goal.invariant-loop-refused
invariant-loop-refused g l = record {
  can : g.I.Iterator.can_next l.rest;
  finite : IsFinite (g.I.Iterator.remaining l.rest);
  gave : (xs : List g.row.T.Denot) × (l.held.items ++ l.next ∷ [] ≡ l.fn.first ∷ xs)
      × Yields g.I.Iterator.next_gives l.fn.iter xs l.rest;
  fewer : length l.held.items + size (g.I.Iterator.remaining l.rest)
      ≤ size (g.I.Iterator.remaining l.fn.iter);
}

abbrev pub decreases-loop-refused : goal.decreases-loop-refused
decreases-loop-refused g l = size (g.I.Iterator.remaining l.rest)

abbrev pub invariant-loop-rest : goal.invariant-loop-rest
invariant-loop-rest g l = record {
  can : g.I.Iterator.can_next l.rest;
  finite : IsFinite (g.I.Iterator.remaining l.rest);
  gave : (xs : List g.row.T.Denot) × (l.held.items ≡ l.fn.first ∷ xs)
      × Yields g.I.Iterator.next_gives l.fn.iter xs l.rest;
  fewer : length l.held.items + size (g.I.Iterator.remaining l.rest)
      ≤ 1 + size (g.I.Iterator.remaining l.fn.iter);
  nearer : size (g.I.Iterator.remaining l.rest) ≤ size (g.I.Iterator.remaining l.initial.rest);
}

abbrev pub decreases-loop-rest : goal.decreases-loop-rest
decreases-loop-rest g l = size (g.I.Iterator.remaining l.rest)
