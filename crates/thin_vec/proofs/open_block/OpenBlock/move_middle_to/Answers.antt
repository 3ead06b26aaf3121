-- `move_run_to` moves the middle items into the gap of `other`, directly after its front items.
use Rattle.std.proofs.Common.{◌+◌, ◌-◌, ◌++◌, [], ◌∙◌, ap, arith, length}
use Rattle.thin_block.specs.Block.{block_view}
use Rattle.thin_block.specs.Cost.{add_moves}
use Rattle.thin_block.specs.Slots.{write_slots}
use Rattle.thin_vec.specs.OpenBlock.{open_view}
use Rattle.thin_vec.proofs.OpenBlockLemmas.{Found, middle-filled}
use Rattle.thin_vec.proofs.open_block.StepLemmas.{empty-view, fill-view, middle-slots}
use Rattle.thin_vec.proofs.open_block.OpenBlock.move_middle_to.Goals.{After-move_run_to}
use Rattle.thin_vec.proofs.open_block.OpenBlock.move_middle_to.Goals as goal

pub move_run_to-requires-clause-filled : goal.move_run_to-requires-clause-filled
move_run_to-requires-clause-filled g c = λ i low high.
    let h = c.self.inside in
    middle-filled h (open_view h) c.self.invariant i low
    (omega (
      arith,
      high,
      c.middle_len-count.ensures.value,
      ap (λ v. length v.middle) c.self.view_is,
    ))

emptied : (g : _) (c : After-move_run_to g)
    → Found (record c.self.inside {
      block = c.move_run_to.new.self;
      middle_start = c.self.inside.middle_end;
    })
    (record c.args.self.now {
      gap_before = c.args.self.now.gap_before + length c.args.self.now.middle;
      middle = [];
    })
emptied g c = empty-view c.self.inside c.self.invariant c.self.view_is
    c.middle_len-count.ensures.value c.move_run_to.new.self c.move_run_to.ensures.changes

filled : (g : _) (c : goal.After-merge_gaps g)
    → Found (record c.other.inside {
      block = c.move_run_to.new.other;
      front_end = c.other.inside.front_end + c.middle_len-count.result;
    })
    (record c.args.other.now {
      front = c.args.other.now.front ++ c.args.self.now.middle;
      gap_before = c.args.other.now.gap_before - length c.args.self.now.middle;
      cost = add_moves (length c.args.self.now.middle) c.args.other.now.cost;
    })
filled g c =
    let h = c.other.inside in
    let all = c.middle_len-count.ensures.value in
    let run = middle-slots c.self.inside c.self.invariant c.self.view_is all in
    fill-view h c.other.invariant c.other.view_is c.move_run_to.new.other c.args.self.now.middle _
    (ap (λ n. h.front_end + n) all) c.requires.room
    (c.move_run_to.ensures.other_changes ∙ (λ i. record (block_view h.block) {
      slots = write_slots h.front_end (run i) h.block.slots;
      cost = add_moves (all i) h.block.cost;
    }))

pub invariant_of-self : goal.invariant_of-self
invariant_of-self g c = (emptied g (goal.at.invariant_of-self g c).After-move_run_to).lies

pub invariant_of-other : goal.invariant_of-other
invariant_of-other g c = (filled g c).lies

pub returns-clause-changes : goal.returns-clause-changes
returns-clause-changes g c =
    let seen = (emptied g (goal.at.returns-clause-changes g c).After-move_run_to).view in
    c.merge_gaps.ensures
    ∙ (λ i. let v = seen i in
    record v { gap_before = v.gap_before + v.gap_after; gap_after = 0 })

pub returns-clause-other_changes : goal.returns-clause-other_changes
returns-clause-other_changes g c = (filled g c).view
