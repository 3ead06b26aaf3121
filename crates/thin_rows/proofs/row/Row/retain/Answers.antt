-- The entries that the test keeps are sorted as before, and are those of the new row.
use Rattle.thin_rows.proofs.KeptLemmas.{kept_row, kept_sorted}
use Rattle.thin_rows.proofs.row.Row.retain.Goals as goal

pub invariant_of-self : goal.invariant_of-self
invariant_of-self g c = record {
  sorted = rw c.free_if_empty.ensures.items
      (kept_sorted _ _ _ _ c.retain.ensures.filtered c.self.invariant.sorted);
  block = c.free_if_empty.ensures.capacity;
}

pub returns : goal.returns
returns g c = record {
  filtered = rw c.free_if_empty.ensures.items
      (kept_row _ _ _ _ c.retain.ensures.filtered c.self.invariant.sorted _ c.self.view_is);
}
