-- The loop invariant of `hand_over_where`: the items that the `ExtractIf` has yielded have been
-- appended to `other`, which has room for the items that have not been tested.
use Rattle.std.proofs.Common.{◌≡◌, ◌+◌, ◌++◌, ◌≤◌, List, length}
use Rattle.std.specs.Fn.{CalledAtMut}
use Rattle.std.specs.Iterator.{Yields}
use Rattle.thin_vec.specs.Edits.ExtractIf.{ExtractSteps, extract_closure, extract_rest}
use Rattle.thin_examples.proofs.transfer.hand_over_where.Given as goal

abbrev pub invariant-loop-item : goal.invariant-loop-item
invariant-loop-item g l = record {
  callable : goal.F-IsAlwaysCallable g (extract_closure l.picked);
  moved : (xs : List g.row.T.Denot)
      × Yields (ExtractSteps (CalledAtMut g.F.FnMut)) l.initial.picked xs l.picked
      × (l.other.items ≡ l.initial.other.items ++ xs);
  room : length l.other.items + length (extract_rest l.picked) ≤ l.other.capacity;
}

abbrev pub decreases-loop-item : goal.decreases-loop-item
decreases-loop-item g l = length (extract_rest l.picked)
