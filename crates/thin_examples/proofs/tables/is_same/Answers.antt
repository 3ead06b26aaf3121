-- `==` of two counts decides whether they are equal.
use Rattle.std.specs.Cmp.{unsigned_Decides}
use Rattle.thin_rows.proofs.TableLemmas.{table_eq-decides}
use Rattle.thin_examples.proofs.tables.is_same.Goals as goal

pub returns : goal.returns
returns g c = record {
  value = rw c.eq.ensures
      (table_eq-decides _ unsigned_Decides c.args.counts.now c.args.others.now);
}
