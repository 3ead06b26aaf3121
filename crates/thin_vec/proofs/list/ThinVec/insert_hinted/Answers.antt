-- `open_with_gap` makes a gap of empty slots at index `at`. The number of these slots is the lower
-- bound of the iterator's size hint. Then `fill` fills the gap with items of the iterator.
use Rattle.std.proofs.Common.{if◌then◌else◌, Some, ◌≡◌, ◌+◌, ◌-◌, ◌++◌, ◌∙◌, ap, arith, drop, eqb, length, refl, subst, sym, take}
use Rattle.std.proofs.lemmas.Bool.{false≢true}
use Rattle.std.proofs.lemmas.List.{length-drop, length-take-le}
use denote.Param.{param}
use Rattle.thin_vec.specs.List.Capacity.{FailsForRoom}
use Rattle.thin_vec.proofs.edits.SpliceLemmas.{run-moves, taken-join, taken-none, taken-reserved}
use Rattle.thin_block.specs.Cost.{add_moves}
use Rattle.thin_vec.proofs.PutLemmas.{filled-fits, filled-room}
use Rattle.thin_vec.specs.ThinVec.{cost_after_resize}
use Rattle.thin_vec.proofs.FinishCostLemmas.{tail-moves}
use Rattle.thin_vec.proofs.list.ReservesLemmas.{lacks-room}
use Rattle.thin_vec.proofs.edits.FinishLemmas.{FillsGap, IsWide, gap-filled, wide-taken}
use Rattle.thin_vec.proofs.list.ThinVec.insert_hinted.Goals.{After-close}
use Rattle.thin_vec.proofs.list.ThinVec.insert_hinted.Goals as goal

wide : (g : _) (c : After-close g)
    → IsWide c.open_with_gap-block.result c.reserve.new.self c.args.at c.size_hint-hint.result.0
wide g c = record {
  in_bounds = omega (arith, c.requires.in_bounds, ap length c.reserve.ensures.items);
  front = c.open_with_gap-block.ensures.front;
  tail = c.open_with_gap-block.ensures.tail;
  capacity = c.open_with_gap-block.ensures.capacity;
  cost = c.open_with_gap-block.ensures.cost;
}

fills : (g : _) (c : After-close g) → FillsGap g.I.Iterator.next_gives g.I.Iterator.can_next
    g.I.Iterator.remaining c.open_with_gap-block.result c.open_with_gap-block.new.self.alloc
    c.args.iter c.close.new.self c.fill-filled.result
fills g c =
    gap-filled c.open_with_gap-block.result c.fill-filled.new.self c.args.iter
    c.open_with_gap-block.new.self c.close.new.self c.fill-filled.result
    c.fill-filled.ensures.filled_by c.open_with_gap-block.ensures.middle c.close.ensures.changes

pub returns-clause-added : goal.returns-clause-added
returns-clause-added g c =
    let rule = g.G.Growth.rule in let T = param 0 g.row.T in
    let left = g.I.Iterator.remaining c.args.iter in
    let v = c.args.self.now in let u = c.reserve.new.self in let w = c.close.new.self in
    let here = (goal.at.returns-clause-added g c).After-close in
    let hint = c.size_hint-hint.result.0 in
    let old = ap length c.reserve.ensures.items in
    taken-join v u w left left (λ fit same. omega (arith, fit, same, old))
    (taken-reserved T rule g.met.G.Growth.law v u hint left c.in_default.ensures.capacity
    c.reserve.ensures.preserved.alloc c.in_default.ensures.cost
    c.reserve.ensures.preserved.cheap (c.size_hint-hint.ensures.lower c.requires.finite))
    (wide-taken (fills g here) T left u c.args.at hint (wide g here)
    (ap (λ z. z.alloc) c.open_with_gap-block.ensures.changes))

tail : (g : _) (c : After-close g) → length c.open_with_gap-block.result.tail
    ≡ length c.args.self.now.items - c.args.at
tail g c = omega (
  arith,
  ap length c.open_with_gap-block.ensures.tail,
  length-drop c.args.at c.reserve.new.self.items,
  ap length c.reserve.ensures.items,
)

hinted : (g : _) (c : After-close g)
    → c.close.new.self.capacity ≡ c.reserve.new.self.capacity
hinted g c = (fills g c).1.capacity ∙ c.open_with_gap-block.ensures.capacity

pub returns-clause-filled_by : goal.returns-clause-filled_by
returns-clause-filled_by g c =
    let here = (goal.at.returns-clause-filled_by g c).After-close in
    let filled = fills g here in let there = wide g here in let xs = filled.0.items in
    let v = c.args.self.now in let u = c.reserve.new.self in
    let hint = c.size_hint-hint.result.0 in
    let slots : c.open_with_gap-block.result.gap_before ≡ hint =
    omega (arith, c.open_with_gap-block.ensures.gap_before) in
    let old : length u.items - c.args.at ≡ length v.items - c.args.at =
    omega (arith, ap length c.reserve.ensures.items) in
    let last = tail-moves (length xs) hint (length v.items - c.args.at) filled.1.cost.0
    (λ short. filled.1.cost.2 (omega (arith, short, slots)) ∙ tail g here)
    (λ full. filled.1.cost.3 (omega (arith, full, slots)))
    (omega (arith, filled-fits filled.0, slots)) in
    let paid = c.in_default.ensures.cost
    ∙ ap (cost_after_resize v) (sym (hinted g here)) in (
      hint,
      c.size_hint-hint.ensures.lower,
      c.in_default.ensures.capacity ∙ ap Some (sym (hinted g here)),
      filled-room slots filled.0,
      filled.1.items
          ∙ ((λ i. (there.front i ++ xs) ++ there.tail i)
          ∙ ap (λ l. (take c.args.at l ++ xs) ++ drop c.args.at l) c.reserve.ensures.items),
      omega (
        arith,
        ap length there.front,
        length-take-le c.args.at c.reserve.new.self.items there.in_bounds,
      ),
      filled.1.cost.1
          ∙ (run-moves hint (length u.items - c.args.at) (length xs) filled.1.cost.0 u.cost
          c.open_with_gap-block.result.cost c.open_with_gap-block.ensures.cost
          ∙ (λ i. add_moves (length xs + (if eqb hint 0 then 0 else old i) + sym last i) (paid i))),
    )

pub returns-in-Err-clause-succeeds : goal.returns-in-Err-clause-succeeds
returns-in-Err-clause-succeeds g c = λ none.
    c.in-Err.ensures.succeeds
    (omega (arith, c.size_hint-hint.ensures.lower c.requires.finite))

pub returns-in-Err-clause-cause : goal.returns-in-Err-clause-cause
returns-in-Err-clause-cause g c =
    let hint = c.size_hint-hint.result.0 in let same = c.in-Err.ensures.err in
    let rule = g.G.Growth.rule in let T = param 0 g.row.T in (
      hint,
      c.size_hint-hint.ensures.lower,
      subst (λ z. FailsForRoom rule T z hint c.in-Err.cause) (sym same)
          (lacks-room T c.args.self.now rule hint c.in-Err.cause
          (λ room. false≢true (c.in-Err.ensures.succeeds room))
          c.in-Err.ensures.overflow.overflow),
    )

pub returns-in-Err-clause-err : goal.returns-in-Err-clause-err
returns-in-Err-clause-err g c = (c.in-Err.ensures.err, refl)

pub returns-in-Err-clause-added : goal.returns-in-Err-clause-added
returns-in-Err-clause-added g c =
    taken-none (param 0 g.row.T) c.args.self.now c.reserve.new.self _ c.in-Err.ensures.err
