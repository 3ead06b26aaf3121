-- There are as many clones as items.
use Rattle.std.proofs.Common.{◌≡◌, ◌-◌, Some, ap, arith, length, refl, subst, sym, ◌∙◌}
use Rattle.std.proofs.lemmas.List.Elements.{length_all_zip}
use Rattle.std.specs.Prelude.{OnOk}
use denote.Param.{param}
use Rattle.thin_block.specs.Capacity.{Fits}
use Rattle.thin_block.proofs.CapacityLemmas.{fits-none}
use Rattle.thin_vec.specs.Edits.ReplaceRange.{moves_replacing}
use Rattle.thin_vec.specs.List.Capacity.{CostsMoves}
use Rattle.thin_vec.specs.ThinVec.{capacity_after_reserve}
use Rattle.thin_vec.proofs.edits.ReplaceRangeLemmas.{cause-of, too-many}
use Rattle.thin_vec.proofs.list.ThinVec.replace_range.Goals as goal

too-large : (g : _) (c : goal.After-drop-alloc g) → Fits (param 0 g.row.T) (length c.args.items.now)
    → ⊥
too-large g c fit =
    let yes = c.fits.ensures.value.1 (subst (Fits (param 0 g.row.T)) (omega arith) fit) in
    let no = c.if-not-fits.true in
    cc

pub returns-then-not-fits-clause-succeeds_empty : goal.returns-then-not-fits-clause-succeeds_empty
returns-then-not-fits-clause-succeeds_empty g c none =
    absurd (too-large g c (subst (Fits (param 0 g.row.T)) (sym none) (fits-none (param 0 g.row.T))))

pub returns-then-not-fits-clause-cause : goal.returns-then-not-fits-clause-cause
returns-then-not-fits-clause-cause g c _ =
    let v = c.args.self.now in let n = length c.args.items.now in
    too-many g.G.Growth.rule (param 0 g.row.T) v (n - (c.args.end - c.args.start)) n
    g.met.G.Growth.law c.len-len.ensures.bounds (too-large g c)
    (omega (arith, c.requires.in_bounds, c.requires.start_le_end))

count : (g : _) (c : goal.After-drop-clones g)
    → length c.in_ok-clones.clones.items ≡ length c.args.items.now
count g c = sym (length_all_zip g.T.Clone.is_clone c.args.items.now c.in_ok-clones.clones.items
    c.in_ok-clones.ensures.items)

pub returns-clause-capacity : goal.returns-clause-capacity
returns-clause-capacity g c =
    let v = c.args.self.now in let w = c.replace_range_from_list.new.self in
    subst (λ n. OnOk c.replace_range_from_list.result (capacity_after_reserve g.G.Growth.rule
    (param 0 g.row.T) v (n - (c.args.end - c.args.start)) ≡ Some w.capacity)) (count g c)
    c.replace_range_from_list.ensures.capacity

pub returns-clause-had_room : goal.returns-clause-had_room
returns-clause-had_room g c room =
    c.replace_range_from_list.ensures.had_room (omega (arith, count g c, room))

pub returns-clause-cost : goal.returns-clause-cost
returns-clause-cost g c =
    let v = c.args.self.now in let w = c.replace_range_from_list.new.self in
    subst (λ n. OnOk c.replace_range_from_list.result
    (CostsMoves (moves_replacing v c.args.start c.args.end n) v w)) (count g c)
    c.replace_range_from_list.ensures.cost

pub returns-clause-fails_if_too_large : goal.returns-clause-fails_if_too_large
returns-clause-fails_if_too_large g c none =
    let v = c.args.self.now in
    let over = c.replace_range_from_list.ensures.overflow.overflow.1
    (ap (λ n. capacity_after_reserve g.G.Growth.rule (param 0 g.row.T) v
    (n - (c.args.end - c.args.start))) (count g c) ∙ none) in
    rw over refl

pub returns-clause-cause : goal.returns-clause-cause
returns-clause-cause g c =
    let v = c.args.self.now in let k = c.args.end - c.args.start in
    cause-of c.replace_range_from_list.result
    (capacity_after_reserve g.G.Growth.rule (param 0 g.row.T) v (length c.args.items.now - k))
    (λ over. sym (ap (λ n. capacity_after_reserve g.G.Growth.rule (param 0 g.row.T) v (n - k))
    (count g c)) ∙ c.replace_range_from_list.ensures.overflow.overflow.0 over)
