-- The pairs are exchanged, and then what is left of the longer run moves. Only the list that
-- becomes longer grows.
use Rattle.std.proofs.Common.{◌≡◌, ◌+◌, ◌-◌, ◌<◌, ◌≤◌, ◌∙◌, ap, arith, inl, inr, length, refl, sym}
use Rattle.std.proofs.lemmas.Bool.{cases_lt, false≢true}
use Rattle.std.specs.List.{replace_range}
use Rattle.std.specs.Prelude.{slice_range}
use denote.Param.{param}
use Rattle.thin_vec.proofs.list.ReservesLemmas.{capacity-kept, keeps-join, keeps-kept}
use Rattle.thin_vec.proofs.edits.SwapRangeLemmas.{cost-in, cost-out, either-first, length-in, length-out, paid-if, size-in, size-out, swapped-in, swapped-out}
use Rattle.thin_vec.proofs.list.ThinVec.swap_range.Goals.{After-move_range_to-2}
use Rattle.thin_vec.proofs.list.ThinVec.swap_range.Goals as goal

count : (g : _) (c : After-move_range_to-2 g)
    → c.len-count.result ≡ length c.reserve-2.new.self.items
count g c = c.len-count.ensures.value ∙ sym c.reserve-2.ensures.len

within : (g : _) (c : After-move_range_to-2 g) → c.args.end ≤ length c.reserve.new.self.items
within g c = omega (arith, c.requires.in_bounds, c.reserve.ensures.len)

narrow : (g : _) (c : After-move_range_to-2 g)
    → c.len-count.result - c.saturating_sub-more.result ≤ c.args.end - c.args.start
narrow g c = omega (arith, c.saturating_sub-more.ensures)

parts : (g : _) (c : After-move_range_to-2 g)
    → c.len-count.result - c.saturating_sub-more.result + c.saturating_sub-more.result
    ≡ c.len-count.result
parts g c = omega (arith, c.saturating_sub-more.ensures)

pub returns-clause-items : goal.returns-clause-items
returns-clause-items g c =
    let pairs = c.swap_run.ensures in
    let rest = c.move_range_to.ensures in
    swapped-in c.reserve.new.self.items c.reserve-2.new.self.items c.swap_run.new.self.items
    c.swap_run.new.other.items c.move_range_to.new.other.items c.move_range_to.new.self.items
    c.args.start c.args.end (c.len-count.result - c.saturating_sub-more.result)
    c.len-count.result c.saturating_sub-more.result c.requires.start_le_end (within g c)
    (count g c) (narrow g c) (parts g c) (ap (λ v. v.items) pairs.changes)
    (ap (λ v. v.items) pairs.other_changes) (ap (λ v. v.items) rest.other_changes)
    (ap (λ v. v.items) rest.changes) c.move_range_to-2.new.self.items
    (ap (λ v. v.items) c.move_range_to-2.ensures.changes)
    ∙ (λ t. replace_range (c.reserve.ensures.items t) c.args.start c.args.end
    (c.reserve-2.ensures.items t))

pub returns-clause-other_items : goal.returns-clause-other_items
returns-clause-other_items g c =
    let pairs = c.swap_run.ensures in
    let rest = c.move_range_to.ensures in
    swapped-out c.reserve.new.self.items c.reserve-2.new.self.items c.swap_run.new.self.items
    c.swap_run.new.other.items c.move_range_to.new.other.items c.move_range_to.new.self.items
    c.args.start c.args.end (c.len-count.result - c.saturating_sub-more.result)
    c.len-count.result c.saturating_sub-more.result c.requires.start_le_end (within g c)
    (count g c) (narrow g c) (parts g c) (ap (λ v. v.items) pairs.changes)
    (ap (λ v. v.items) pairs.other_changes) (ap (λ v. v.items) rest.other_changes)
    (ap (λ v. v.items) rest.changes) c.move_range_to-2.new.other.items
    (ap (λ v. v.items) c.move_range_to-2.ensures.other_changes)
    ∙ ap (λ l. slice_range l c.args.start c.args.end) c.reserve.ensures.items

sizes : (g : _) (c : After-move_range_to-2 g)
    → (length c.swap_run.new.self.items ≡ length c.args.self.now.items)
    × (length c.swap_run.new.other.items ≡ c.len-count.result)
sizes g c =
    let xs = c.reserve.new.self.items in
    let ys = c.reserve-2.new.self.items in
    let k = c.len-count.result - c.saturating_sub-more.result in
    let run : c.args.start + k ≤ length xs =
    omega (arith, narrow g c, within g c, c.requires.start_le_end) in
    let few : k ≤ length ys = omega (arith, count g c) in (
      ap (λ v. length v.items) c.swap_run.ensures.changes
          ∙ (length-in xs ys c.args.start k run few ∙ c.reserve.ensures.len),
      ap (λ v. length v.items) c.swap_run.ensures.other_changes
          ∙ (length-out xs ys c.args.start k run few ∙ sym (count g c)),
    )

pub returns-clause-cost : goal.returns-clause-cost
returns-clause-cost g c =
    let pairs = c.swap_run.ensures in
    let rest = c.move_range_to.ensures in
    let v = c.args.self.now in
    let n = c.saturating_sub-more.result in
    let grown : length c.move_range_to.new.other.items ≡ length v.items + n =
    size-in c.reserve.new.self.items c.reserve-2.new.self.items c.swap_run.new.self.items
    c.swap_run.new.other.items c.move_range_to.new.other.items c.move_range_to.new.self.items
    c.args.start c.args.end (c.len-count.result - n) c.len-count.result n
    c.requires.start_le_end (within g c) (count g c) (narrow g c) (parts g c)
    (ap (λ v. v.items) pairs.changes) (ap (λ v. v.items) pairs.other_changes)
    (ap (λ v. v.items) rest.other_changes) (ap (λ v. v.items) rest.changes)
    ∙ ap (λ q. q + n) c.reserve.ensures.len in
    rw c.len-count.ensures.value at (cost-in v c.reserve.new.self c.swap_run.new.self
    c.move_range_to.new.other c.move_range_to-2.new.self c.args.start c.args.end
    (c.len-count.result - n) c.len-count.result n c.requires.start_le_end
    c.in-Ok.ensures.cost (ap (λ v. v.cost) pairs.changes)
    (ap (λ v. v.capacity) c.move_range_to-2.ensures.changes
    ∙ (ap (λ v. v.capacity) rest.other_changes ∙ ap (λ v. v.capacity) pairs.changes))
    (sizes g c).0 grown (omega (arith, c.saturating_sub-more.ensures)) refl
    (ap (λ v. v.cost) rest.other_changes)
    (ap (λ v. v.cost) c.move_range_to-2.ensures.changes))

pub returns-clause-other_cost : goal.returns-clause-other_cost
returns-clause-other_cost g c =
    let pairs = c.swap_run.ensures in
    let rest = c.move_range_to.ensures in
    let n = c.saturating_sub-more.result in
    let left : length c.move_range_to.new.self.items ≡ c.len-count.result - n =
    size-out c.reserve.new.self.items c.reserve-2.new.self.items c.swap_run.new.self.items
    c.swap_run.new.other.items c.move_range_to.new.other.items c.move_range_to.new.self.items
    c.args.start c.args.end (c.len-count.result - n) c.len-count.result n
    c.requires.start_le_end (within g c) (count g c) (narrow g c) (parts g c)
    (ap (λ v. v.items) pairs.changes) (ap (λ v. v.items) pairs.other_changes)
    (ap (λ v. v.items) rest.other_changes) (ap (λ v. v.items) rest.changes) in
    rw c.len-count.ensures.value at (cost-out c.args.other.now c.reserve-2.new.self
    c.swap_run.new.other c.move_range_to.new.self c.move_range_to-2.new.other c.args.start
    c.args.end (c.len-count.result - n) c.len-count.result n c.requires.start_le_end
    c.in-Ok-reserve.ensures.cost (ap (λ v. v.cost) pairs.other_changes)
    (ap (λ v. v.capacity) c.move_range_to-2.ensures.other_changes
    ∙ (ap (λ v. v.capacity) rest.changes ∙ ap (λ v. v.capacity) pairs.other_changes))
    (sizes g c).1 left (parts g c) (ap (λ v. v.cost) rest.changes)
    (ap (λ v. v.cost) c.move_range_to-2.ensures.other_changes)
    (omega (arith, c.saturating_sub-more.ensures)))

pub returns-in-Err-clause-overflow : goal.returns-in-Err-clause-overflow
returns-in-Err-clause-overflow g c =
    let x = c.args.other.now in
    let k = c.saturating_sub-more.result in
    let more : 0 < k = elim (cases_lt 0 k) [
      | inl some ↦ some
      | inr none ↦
          absurd (false≢true
          (c.in-Err.ensures.succeeds (omega (arith, none, c.len-count.ensures.bounds.room))))
    ] in
    let told = rw c.saturating_sub-more.ensures at c.in-Err.ensures.overflow in
    either-first _ _ _ _ (rw c.len-count.ensures.value at told)
    (capacity-kept (param 0 g.row.T) x g.G.Growth.rule
    (c.args.end - c.args.start - length x.items) x
    (omega (
      arith,
      more,
      c.saturating_sub-more.ensures,
      c.len-count.ensures.bounds.room,
      c.len-count.ensures.value,
    )) refl)

pub returns-clause-preserved : goal.returns-clause-preserved
returns-clause-preserved g c =
    let pairs = c.swap_run.ensures in
    let rest = c.move_range_to.ensures in
    let last = c.move_range_to-2.ensures in
    keeps-join c.reserve.ensures.preserved
    (keeps-join (keeps-kept _ c.reserve.new.self c.swap_run.new.self
    (ap (λ v. v.alloc) pairs.changes) (ap (λ v. v.capacity) pairs.changes)
    (ap (λ v. v.cost.blocks) pairs.changes, ap (λ v. v.cost.grown) pairs.changes) pairs.bounds)
    (keeps-join (keeps-kept _ c.swap_run.new.self c.move_range_to.new.other
    (ap (λ v. v.alloc) rest.other_changes) (ap (λ v. v.capacity) rest.other_changes)
    (ap (λ v. v.cost.blocks) rest.other_changes, ap (λ v. v.cost.grown) rest.other_changes)
    rest.other_bounds)
    (keeps-kept _ c.move_range_to.new.other c.move_range_to-2.new.self
    (ap (λ v. v.alloc) last.changes) (ap (λ v. v.capacity) last.changes) (
      ap (λ v. v.cost.blocks) last.changes ∙ (paid-if _ _ _).0,
      ap (λ v. v.cost.grown) last.changes ∙ (paid-if _ _ _).1,
    ) last.bounds)))

pub returns-clause-other_preserved : goal.returns-clause-other_preserved
returns-clause-other_preserved g c =
    let pairs = c.swap_run.ensures in
    let rest = c.move_range_to.ensures in
    let last = c.move_range_to-2.ensures in
    keeps-join c.reserve-2.ensures.preserved
    (keeps-join (keeps-kept _ c.reserve-2.new.self c.swap_run.new.other
    (ap (λ v. v.alloc) pairs.other_changes) (ap (λ v. v.capacity) pairs.other_changes)
    (ap (λ v. v.cost.blocks) pairs.other_changes, ap (λ v. v.cost.grown) pairs.other_changes)
    pairs.other_bounds)
    (keeps-join (keeps-kept _ c.swap_run.new.other c.move_range_to.new.self
    (ap (λ v. v.alloc) rest.changes) (ap (λ v. v.capacity) rest.changes) (
      ap (λ v. v.cost.blocks) rest.changes ∙ (paid-if _ _ _).0,
      ap (λ v. v.cost.grown) rest.changes ∙ (paid-if _ _ _).1,
    ) rest.bounds)
    (keeps-kept _ c.move_range_to.new.self c.move_range_to-2.new.other
    (ap (λ v. v.alloc) last.other_changes) (ap (λ v. v.capacity) last.other_changes)
    (ap (λ v. v.cost.blocks) last.other_changes, ap (λ v. v.cost.grown) last.other_changes)
    last.other_bounds)))
