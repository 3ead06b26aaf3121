-- If an item cannot be cloned, `truncate` drops the clones that were made.
use Rattle.std.proofs.Common.{arith, ◌++◌, ap, take_all, ◌∙◌}
use Rattle.std.proofs.lemmas.List.Elements.{same_from_all_zip}
use Rattle.thin_vec.proofs.list.ClonesLemmas.{not-all}
use Rattle.std.proofs.lemmas.Grind.{common_steps}
use Rattle.thin_vec.proofs.list.ThinVec.extend_from_slice_reserved.Goals as goal

pub returns-then-push_clones_reserved-items-clause-succeeds :
    goal.returns-then-push_clones_reserved-items-clause-succeeds
returns-then-push_clones_reserved-items-clause-succeeds g c = λ all.
    let less = c.if-push_clones_reserved-items.true in
    absurd (not-all g.T.Clone.is_infallible c.args.items.now c.push_clones_reserved.result less
    (c.push_clones_reserved.ensures.stopped_at less) all)

pub returns-clause-items_if_clones_equal : goal.returns-clause-items_if_clones_equal
returns-clause-items_if_clones_equal g c = λ equal.
    let old = c.args.self.now.items in
    let items = c.args.items.now in
    let placed = c.push_clones_reserved.ensures.items in
    placed.1 ∙ ap (λ ys. old ++ ys) (same_from_all_zip g.T.Clone.is_clone _ placed.0 placed.2 equal
    ∙ take_all c.push_clones_reserved.result items c.if-push_clones_reserved-items.false)

pub returns-then-push_clones_reserved-items-clause-err_items :
    goal.returns-then-push_clones_reserved-items-clause-err_items
returns-then-push_clones_reserved-items-clause-err_items g c = grind (arith, common_steps)

pub returns-then-push_clones_reserved-items-clause-err :
    goal.returns-then-push_clones_reserved-items-clause-err
returns-then-push_clones_reserved-items-clause-err g c = search (arith, ◌∙◌)

pub returns-clause-succeeds : goal.returns-clause-succeeds
returns-clause-succeeds g c = search (arith, ◌∙◌)

pub returns-clause-err_items : goal.returns-clause-err_items
returns-clause-err_items g c = search (arith, ◌∙◌)

pub returns-clause-err : goal.returns-clause-err
returns-clause-err g c = search (arith, ◌∙◌)
