-- The iterator begins with all rows, whose entries are in order.
use Rattle.std.proofs.Common.{AllPairs, ap, subst, sym, ◌∙◌}
use Rattle.thin_rows.specs.Table.{entries_of}
use Rattle.thin_rows.specs.Walk.{IsBefore}
use Rattle.thin_rows.proofs.WalkLemmas.{entries_rise, yields_in_order}
use Rattle.thin_rows.proofs.table.Rows.iter.Goals as goal

pub returns : goal.returns
returns g c =
    let value = c.new.ensures.value
    ∙ (ap entries_of c.as_slice.ensures.value ∙ ap entries_of c.self.view_is) in
    record {
      value = value;
      sorted = subst (AllPairs IsBefore) (sym value) (entries_rise c.args.self.now);
      runs = yields_in_order;
    }
