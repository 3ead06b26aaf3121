-- The items of the iterator are inserted in up to three steps. First, `fill` fills the empty
-- slots of the replaced range. Then `insert_hinted` fills a new gap, whose size is the lower bound
-- of the size hint. Finally, `insert_held` inserts the remaining items.
use Rattle.std.proofs.Common.{if◌then◌else◌, false, [], Err, None, Ok, inr, ◌≡◌, ℕ, ◌+◌, ◌++◌, ◌-◌, ◌≤◌, ap, arith, eqb, length, length-append, refl, subst, sym, ◌∙◌}
use denote.Param.{param}
use Rattle.thin_vec.specs.Edits.Finish.{AddsFromIter, without_middle}
use Rattle.std.specs.Iterator.SizeHint.{IsWithinCount}
use Rattle.thin_vec.specs.List.Capacity.{FailsForRoom}
use Rattle.thin_vec.specs.List.Extend.{YieldsAndCanContinue}
use Rattle.thin_vec.specs.Put.{YieldsThenMayEnd}
use Rattle.thin_block.proofs.CapacityLemmas.{ruled-same}
use Rattle.thin_vec.proofs.FinishCostLemmas.{growth-once, growth-same, spliced-none}
use Rattle.thin_vec.proofs.PutLemmas.{filled-fits}
use Rattle.thin_vec.specs.Edits.Splice.{IsAfterSplice, cost_after_growth}
use Rattle.thin_block.specs.Cost.{add_moves}
use Rattle.thin_vec.proofs.edits.SpliceLemmas.{if-err, inserted-long, stop-at-hint, stopped-now}
use Rattle.thin_vec.proofs.edits.FinishLemmas.{FillsGap, IsReached, filled-drains, filled-hinted, filled-long, filled-reached, filled-taken, finished-from, finished-ok, gap-filled, held-count, reached-reserved, reached-long, reached-more, reached-taken}
use Rattle.thin_vec.specs.declared.errors.SpliceRefused.{SpliceRefused}
use Rattle.thin_vec.proofs.list.ThinVec.finish_before_tail.Goals.{After-close}
use Rattle.thin_vec.proofs.list.ThinVec.finish_before_tail.Goals as goal

filled : (g : _) (c : After-close g) → FillsGap g.I.Iterator.next_gives
    g.I.Iterator.can_next g.I.Iterator.remaining c.args.block c.args.self.now.alloc c.args.iter
    c.close.new.self c.fill-rest.result
filled g c =
    gap-filled c.args.block c.fill-rest.new.self c.args.iter c.args.self.now c.close.new.self
    c.fill-rest.result c.fill-rest.ensures.filled_by c.requires.no_middle c.close.ensures.changes

room : (g : _) (c : After-close g)
    → length (c.args.block.front ++ c.args.block.tail) + c.args.block.gap_before
    ≤ c.args.block.capacity
room g c =
    let v = c.args.block in
    omega (
      arith,
      c.requires.bounds,
      c.requires.gap_after,
      ap length c.requires.no_middle,
      length-append v.front v.tail,
    )

-- The items that fit into the slots of the range do not change the capacity.
kept : (g : _) (c : After-close g) → IsAfterSplice g.G.Growth.rule (param 0 g.row.T)
    c.args.block.gap_before (length c.args.block.tail)
    (without_middle c.args.block c.args.self.now.alloc) 0 c.close.new.self
    (g.I.Iterator.remaining c.args.iter)
kept g c =
    let v = c.args.block in let w = c.close.new.self in let p = filled g c in
    let n = length p.0.items in let m = p.1.cost.0 in
    let long : length w.items ≡ length (v.front ++ v.tail) + n =
    omega (arith, filled-long p, length-append v.front v.tail) in
    let count : n + m ≡ length w.items - length (v.front ++ v.tail) + m = omega (arith, long) in
    spliced-none g.G.Growth.rule (param 0 g.row.T) (without_middle v c.args.self.now.alloc) w
    v.gap_before (length v.tail) m (g.I.Iterator.remaining c.args.iter) (room g c) p.1.capacity
    (p.1.cost.1 ∙ ap (λ q. add_moves q v.cost) count)
    (omega (arith, long, filled-fits p.0))
    (λ short. p.1.cost.2 (omega (arith, long, short)))
    (λ full. p.1.cost.3 (omega (arith, long, full)))

pub returns-then-ended : goal.returns-then-ended
returns-then-ended g c =
    let v = c.args.block in
    let here = (goal.at.returns-then-ended g c).After-close in
    let p = filled g here in
    finished-ok v c.args.self.now.alloc c.args.iter c.close.new.self tt
    (p.0.items, filled-drains p c.if-ended.true, p.1.items)
    (filled-taken p (param 0 g.row.T) (g.I.Iterator.remaining c.args.iter))
    (λ none. absurd (omega (arith, c.requires.nonempty, ap length none))) (λ _. (0, kept g here))

-- If the iterator has not ended, all slots of the range are full.
slots : (g : _) (c : After-close g) → c.fill-rest.result.ended ≡ false
    → length c.close.new.self.items
    ≡ length (c.args.block.front ++ c.args.block.tail) + c.args.block.gap_before
slots g c more =
    let v = c.args.block in let p = filled g c in
    omega (arith, filled-long p, p.0.full more, length-append v.front v.tail)

pub returns-in-Err : goal.returns-in-Err
returns-in-Err g c =
    let rule = g.G.Growth.rule in let T = param 0 g.row.T in
    let steps = g.I.Iterator.next_gives in
    let can = g.I.Iterator.can_next in let left = g.I.Iterator.remaining in
    let v = c.args.block in let a = c.args.self.now.alloc in
    let w = c.insert_hinted.new.self in let t = c.fill-rest.result.rest in
    let at = (goal.at.returns-in-Err g c).After-close in
    let p = filled g at in
    let rejected = c.in-Err.rejected in
    let same = c.in-Err.ensures.err.0 in let rest = c.in-Err.ensures.err.1 in
    let here = subst
    (λ z. IsReached steps can left v c.args.iter z p.0.items c.fill-rest.result.end t) (sym same)
    (filled-reached p c.if-ended.false) in
    let error : SpliceRefused _ _ _ =
    record {
      cause = rejected.cause;
      held = c.new.result;
      in_hand = None;
      rest = rejected.value;
    } in
    let taken = subst (λ z. AddsFromIter (without_middle v a) z (left c.args.iter)) (sym same)
    (filled-taken p T (left c.args.iter)) in
    let grew = subst (λ z. IsAfterSplice rule T v.gap_before (length v.tail)
    (without_middle v a) 0 z (left c.args.iter)) (sym same) (kept g at) in
    finished-from v a c.args.iter w
    (Err error) here c.requires.nonempty
    c.in-Err.ensures.succeeds tt
    (stopped-now steps can left t [] error c.new.ensures.items
    (subst (λ r. YieldsAndCanContinue steps can left t [] r) (sym rest) (record {
      gave = refl;
      can_next = here.can_next;
      finite = here.finite;
    })))
    (stop-at-hint rule T w v.tail
    (left rejected.value) error c.requires.nonempty c.new.ensures.items refl
    (subst (λ r. (h : ℕ) × IsWithinCount h (left r) × FailsForRoom rule T w h rejected.cause)
    (sym rest) c.in-Err.ensures.cause))
    refl taken 0 grew (
      omega (arith, slots g at c.if-ended.false, ap (λ z. length z.items) same),
      λ _ _. refl,
    )

pub returns-then-ended-2 : goal.returns-then-ended-2
returns-then-ended-2 g c =
    let rule = g.G.Growth.rule in let T = param 0 g.row.T in
    let v = c.args.block in let a = c.args.self.now.alloc in
    let u = c.close.new.self in
    let w = c.insert_hinted.new.self in let t = c.fill-rest.result.rest in
    let here = (goal.at.returns-then-ended-2 g c).After-close in
    let p = filled g here in
    let first = filled-reached p c.if-ended.false in
    let q = c.in-Ok.ensures.filled_by in
    let reserved = reached-reserved first rule T a q.0 w.capacity p.1.capacity
    (p.0.full c.if-ended.false) q.1 q.2 in
    let f = c.in-Ok.filled in
    let start = length (v.front ++ v.tail) + v.gap_before in
    let at = c.fill-rest.result.end in
    let tails = reached-long first in
    let long = ap length q.4 ∙ inserted-long u.items q.3.items at (omega (arith, tails)) in
    finished-from v a c.args.iter w (Ok tt) first c.requires.nonempty (λ _. refl) (
      q.3.items,
      (f.rest, subst (λ b. YieldsThenMayEnd g.I.Iterator.next_gives t q.3.items b f.rest) c.if-ended-2.true q.3.gave),
      q.4,
    )
    tt tt tt
    (reached-taken first a w (filled-taken p T (g.I.Iterator.remaining c.args.iter))
    c.insert_hinted.ensures.added)
    q.0
    (record {
      within = inr reserved.0;
      short = λ few. absurd (omega (arith, few, long, slots g here c.if-ended.false));
      reserved = w.capacity;
      reserves = reserved.1;
      capacity = ruled-same rule _ _ w.capacity (length w.items) c.in-Ok.ensures.room;
      cost = filled-hinted p w (length q.3.items) q.0 at c.if-ended.false q.6
          (omega (arith, tails)) long
          ∙ ap (add_moves _)
          (sym (growth-same (start + q.0) w.capacity w.capacity _ refl));
    })
    tt

pub returns-else-ended-2 : goal.returns-else-ended-2
returns-else-ended-2 g c =
    let rule = g.G.Growth.rule in let T = param 0 g.row.T in
    let v = c.args.block in let a = c.args.self.now.alloc in
    let u = c.close.new.self in let y = c.insert_hinted.new.self in
    let w = c.insert_held.new.self in
    let here = (goal.at.returns-else-ended-2 g c).After-close in
    let p = filled g here in
    let first = filled-reached p c.if-ended.false in
    let q = c.in-Ok.ensures.filled_by in
    let reserved = reached-reserved first rule T a q.0 y.capacity p.1.capacity
    (p.0.full c.if-ended.false) q.1 q.2 in
    let last : IsReached g.I.Iterator.next_gives g.I.Iterator.can_next g.I.Iterator.remaining v
    c.args.iter y (p.0.items ++ q.3.items) c.in-Ok.filled.end c.in-Ok.filled.rest =
    reached-more first q.3 q.4 q.5 c.if-ended-2.false in
    let all = length (v.front ++ v.tail) in let start = all + v.gap_before in
    let at = c.fill-rest.result.end in
    let n = length v.tail in
    let long = ap length q.4
    ∙ inserted-long u.items q.3.items at (omega (arith, reached-long first)) in
    let full : length y.items ≡ start + q.0 =
    omega (arith, long, slots g here c.if-ended.false, q.3.full c.if-ended-2.false) in
    let before = if eqb q.0 0 then 0 else n in
    let held = length w.items - length y.items
    + (if eqb (length w.items) (length y.items) then 0
    else length y.items - c.in-Ok.filled.end) in
    finished-from v a c.args.iter w c.insert_held.result last c.requires.nonempty
    c.insert_held.ensures.succeeds c.insert_held.ensures.items c.insert_held.ensures.placed
    (if-err c.insert_held.result (λ refused is now. now v.tail c.requires.nonempty)
    c.insert_held.ensures.cause)
    c.insert_held.ensures.err
    (reached-taken last a w
    (reached-taken first a y (filled-taken p T (g.I.Iterator.remaining c.args.iter))
    c.insert_hinted.ensures.added)
    c.insert_held.ensures.added)
    q.0
    (record {
      within = inr reserved.0;
      short = λ few. absurd (omega (arith, few, full, c.insert_held.ensures.longer));
      reserved = y.capacity;
      reserves = reserved.1;
      capacity = c.insert_held.ensures.capacity;
      cost = growth-once y w
          (length y.items - all + before + (if eqb (length y.items) (start + q.0) then 0 else n))
          held (start + q.0) y.capacity (cost_after_growth start v.capacity y.capacity v.cost)
          (filled-hinted p y (length q.3.items) q.0 at c.if-ended.false q.6
          (omega (arith, reached-long first)) long)
          refl full c.insert_held.ensures.paid
          ∙ ap (λ m. add_moves m (cost_after_growth (start + q.0) y.capacity w.capacity
          (cost_after_growth start v.capacity y.capacity v.cost)))
          (held-count (length y.items) (length w.items) all (start + q.0) before n
          (length y.items - c.in-Ok.filled.end) full (omega (arith, full))
          c.insert_held.ensures.longer (omega (arith, reached-long last)));
    })
    (if-err c.insert_held.result
    (λ refused is some. (full, λ none hand. absurd (omega (arith, some hand, ap length none))))
    c.insert_held.ensures.err_some)
