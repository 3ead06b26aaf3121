-- By the invariant of a row, its list owns a block if and only if it has an entry.
use Rattle.std.proofs.Common.{◌≡◌, ◌∙◌, length, sym, ap}
use Rattle.std.specs.FinMap.{len}
use Rattle.thin_rows.proofs.RowLemmas.{len_is}
use Rattle.thin_rows.proofs.row.Row.owns_block.Goals as goal

pub returns : goal.returns
returns g c =
    let row = c.self.inside.entries in
    let count : len c.args.self.now ≡ length row.items = ap len (sym c.self.view_is)
    ∙ len_is row.items c.self.invariant.sorted in
    let owns = c.has_capacity.ensures.value in
    let block = c.self.invariant.block in
    record { value = rw count ((λ yes. block.0 (owns.0 yes)), (λ some. owns.1 (block.1 some))) }
