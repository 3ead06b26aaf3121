-- The iterator yields no first entry if and only if the table has none.
use Rattle.thin_rows.proofs.WalkLemmas.{none_left}
use Rattle.thin_rows.proofs.table.Rows.is_empty.Goals as goal

pub returns : goal.returns
returns g c = record {
  value = rw (← c.iter.ensures.value)
      (none_left c.iter.result _ c.next.result c.is_none.result c.is_none.ensures
      c.next.ensures.steps);
}
