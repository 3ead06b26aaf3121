-- Before the first call to `next`, the `ExtractIf` would leave the list as it was. Calls to `next`
-- neither lose an item nor change the items outside the range.
use Rattle.std.proofs.Common.{◌≡◌, ◌+◌, ◌++◌, ◌∙◌, ap, length}
use Rattle.std.specs.Prelude.{◌==◌, if◌then◌else◌}
use Rattle.thin_block.specs.Cost.{add_moves}
use Rattle.thin_vec.proofs.edits.ExtractIfLemmas.{extract-keeps-along, extracts-range, extracts-to-end, in-parts}
use Rattle.thin_vec.proofs.list.ThinVec.extract_if.Goals as goal

pub returns-clause-after_drop : goal.returns-clause-after_drop
returns-clause-after_drop g c =
    let e = c.open-block.ensures in
    let b = c.open-block.result in
    let v = c.args.self.now in
    let items : b.front ++ (b.middle ++ b.tail) ≡ v.items =
    (λ i. e.front i ++ (e.middle i ++ e.tail i))
    ∙ in-parts v.items c.args.start c.args.end c.requires.start_le_end in
    let cost : (if b.gap_before == 0 then b.cost else add_moves (length b.middle + length b.tail)
    b.cost)
    ≡ v.cost =
    ap (λ n. if n == 0 then b.cost else add_moves (length b.middle + length b.tail) b.cost)
    e.gap_before
    ∙ e.cost in
    λ i. record {
      items = items i;
      capacity = e.capacity i;
      alloc = (e.changes i).alloc;
      cost = cost i;
    }

pub returns-clause-next_keeps : goal.returns-clause-next_keeps
returns-clause-next_keeps g c = extract-keeps-along _ _

pub returns-clause-walk : goal.returns-clause-walk
returns-clause-walk g c = extracts-to-end _ _

pub returns-clause-walked : goal.returns-clause-walked
returns-clause-walked g c =
    let e = c.open-block.ensures in
    extracts-range _ c.args.self.now c.args.start c.args.end _ e.front e.middle e.tail e.gap_before
    (returns-clause-after_drop g c)
