-- `collect_rest` collects the items of the iterator in a vector. `open_with_gap` makes a gap with
-- one slot for each of these items, and `fill_from_vec` moves the items into the gap. If memory
-- runs out, the error contains the vector, and the item that did not fit into it, if there is one.
use Rattle.std.proofs.Common.{if◌then◌else◌, false, Err, Some, ◌++◌, drop, take, inl, inr, ◌≡◌, ℕ, ◌+◌, ◌-◌, ◌<◌, ◌∙◌, ap, arith, eqb, length, length-append, refl, subst, sym}
use Rattle.std.proofs.lemmas.Bool.{false≢true}
use Rattle.std.proofs.lemmas.Bool.Decides.{nat_tests}
use Rattle.std.specs.Option.{option_len, option_to_list}
use Rattle.std.specs.Prelude.{IsSome}
use denote.Param.{param}
use Rattle.thin_block.specs.Cost.{add_moves}
use Rattle.std.specs.Align.{type_align}
use Rattle.std.specs.Mem.{type_size}
use Rattle.thin_block.specs.Growth.{grown_capacity}
use Rattle.thin_vec.specs.ThinVec.{capacity_after_reserve, cost_after_resize}
use Rattle.thin_vec.proofs.GrowthLemmas.{grown-none}
use Rattle.thin_vec.proofs.FinishCostLemmas.{resized-none}
use Rattle.thin_vec.proofs.edits.SpliceLemmas.{closed-moves, drawn-end, drawn-next, inserted-long, run-moves, stop-at-held, taken-join, taken-none, taken-reserved, taken-spare}
use Rattle.thin_block.proofs.ResultLemmas.{err-same, none-some}
use Rattle.thin_vec.proofs.list.ThinVec.insert_held.Goals.{After-close, After-len-count}
use Rattle.thin_vec.proofs.list.ThinVec.insert_held.Goals as goal

longer-not : (m n : ℕ) → n < m → eqb m n ≡ false
longer-not m n more = grind (arith, nat_tests)

count : (g : _) (c : After-len-count g)
    → c.len-count.result ≡ length c.collect_rest-held.result.held.items
count g c = c.len-count.ensures ∙ c.collect_rest-held.result.held.ok.0

-- With no item in hand, the first item is in the vector.
some : (g : _) (c : After-len-count g) → 0 < length c.collect_rest-held.result.held.items
some g c =
    let held = c.collect_rest-held.result in
    omega (
      arith,
      ap length c.collect_rest-held.ensures.runs.1,
      length-append held.held.items (option_to_list held.in_hand),
      ap (λ o. length (option_to_list o)) c.in_default-in_hand.is,
    )

items : (g : _) (c : After-close g)
    → c.close.new.self.items ≡ (take c.args.at c.reserve.new.self.items
    ++ c.collect_rest-held.result.held.items) ++ drop c.args.at c.reserve.new.self.items
items g c =
    let put = c.fill_from_vec.ensures in let held = c.collect_rest-held.result.held.items in
    let front = ap (λ v. v.front) put ∙ ap (λ l. l ++ held) c.open_with_gap-block.ensures.front in
    let middle = ap (λ v. v.middle) put ∙ c.open_with_gap-block.ensures.middle in
    let tail = ap (λ v. v.tail) put ∙ c.open_with_gap-block.ensures.tail in
    ap (λ z. z.items) c.close.ensures.changes ∙ (λ i. front i ++ (middle i ++ tail i))

long : (g : _) (c : After-close g) → length c.close.new.self.items
    ≡ length c.args.self.now.items + length c.collect_rest-held.result.held.items
long g c = omega (
  arith,
  ap length (items g c),
  inserted-long c.reserve.new.self.items c.collect_rest-held.result.held.items c.args.at
      (omega (arith, ap length c.reserve.ensures.items, c.requires.in_bounds)),
  ap length c.reserve.ensures.items,
)

capacity : (g : _) (c : After-close g)
    → c.close.new.self.capacity ≡ c.reserve.new.self.capacity
capacity g c =
    ap (λ z. z.capacity) c.close.ensures.changes
    ∙ (ap (λ v. v.capacity) c.fill_from_vec.ensures ∙ c.open_with_gap-block.ensures.capacity)

-- There is an item to insert, so `open_with_gap` moves the items from index `at` onward.
cost : (g : _) (c : After-close g) → c.close.new.self.cost
    ≡ add_moves (length c.collect_rest-held.result.held.items
    + (length c.reserve.new.self.items - c.args.at)) c.reserve.new.self.cost
cost g c =
    let collected = (goal.at.After-close g c).After-len-count in
    let v = c.reserve.new.self in
    let block = c.open_with_gap-block.result in
    let w = c.fill_from_vec.new.self in
    let k = length c.collect_rest-held.result.held.items in
    let n = length v.items - c.args.at in
    let count : c.len-count.result ≡ k = count g collected in
    let before = c.open_with_gap-block.ensures.gap_before in
    let none : w.gap_before ≡ 0 =
    omega (arith, ap (λ v. v.gap_before) c.fill_from_vec.ensures, before, count) in
    let all : k ≡ block.gap_before - w.gap_before = omega (arith, none, before, count) in
    let put = closed-moves block w k
    (ap (λ v. v.cost) c.fill_from_vec.ensures ∙ ap (λ n. add_moves n block.cost) all)
    (ap (λ v. v.middle) c.fill_from_vec.ensures ∙ c.open_with_gap-block.ensures.middle)
    (ap (λ v. v.tail) c.fill_from_vec.ensures)
    all in
    let opened = longer-not c.len-count.result 0 (omega (arith, count, some g collected)) in
    let moves : k + (if eqb c.len-count.result 0 then 0 else n) + put.0 ≡ k + n =
    ap (λ b. k + (if b then 0 else n) + put.0) opened
    ∙ (let z : k + n + put.0 ≡ k + n = omega (arith, put.3 none) in z) in
    ap (λ z. z.cost) c.close.ensures.changes
    ∙ (put.1 ∙ (run-moves c.len-count.result n k put.0 v.cost block.cost
    c.open_with_gap-block.ensures.cost ∙ ap (λ j. add_moves j v.cost) moves))

-- The iterator has ended. The list is unchanged, and its items fit into its capacity.
pub returns-in_default-clause-paid : goal.returns-in_default-clause-paid
returns-in_default-clause-paid g c =
    resized-none c.args.self.now c.args.self.now (length c.args.self.now.items - c.args.at) refl

pub returns-in_default-clause-capacity : goal.returns-in_default-clause-capacity
returns-in_default-clause-capacity g c =
    grown-none g.G.Growth.rule (param 0 g.row.T) c.args.self.now c.args.self.now c.requires.room refl

-- The vector cannot grow. The list is unchanged.
pub returns-in-Some-in_hand : goal.returns-in-Some-in_hand
returns-in-Some-in_hand g c =
    let rule = g.G.Growth.rule in let T = param 0 g.row.T in
    let v = c.args.self.now in let r = c.collect_rest-held.result in
    let given = subst IsSome (sym c.in-Some-in_hand.is) refl in
    let asked = c.collect_rest-held.ensures.can_next given in
    record {
      items = tt;
      succeeds = λ none. absurd (omega (
        arith,
        (c.in-Some.ensures.goes.on c.requires.finite).2,
        ap option_len c.in-Some-in_hand.is,
      ));
      err = refl;
      err_some = λ none. absurd (none-some none refl);
      placed = inl (
        record {
          gave = drawn-next g.I.Iterator.next_gives c.args.iter c.next.new.self r.rest
              c.in-Some.first c.in-Some-in_hand.item r.held.items r.in_hand
              c.in-Some.ensures.steps c.collect_rest-held.ensures.runs c.in-Some-in_hand.is;
          can_next = asked.0;
          finite = asked.1;
        },
        λ none. absurd (none-some none refl),
      );
      cause = λ tail some. stop-at-held rule T v tail (g.I.Iterator.remaining r.rest) _ some
          (λ none. absurd (none-some none refl)) (λ none. absurd (none-some none refl))
          (λ _. (refl, c.collect_rest-held.ensures.full given));
      capacity = grown-none rule T v v c.requires.room refl;
      longer = omega arith;
      paid = resized-none v v (length v.items - c.args.at) refl;
      added = taken-none T v v _ refl;
    }

-- The list cannot grow, so it is unchanged.
pub returns-in-Err : goal.returns-in-Err
returns-in-Err g c =
    let here = (goal.at.returns-in-Err g c).After-len-count in
    let rule = g.G.Growth.rule in let T = param 0 g.row.T in
    let v = c.args.self.now in let w = c.reserve.new.self in
    let r = c.collect_rest-held.result in
    let same = c.in-Err.ensures.err in
    let asked : capacity_after_reserve rule T v c.len-count.result
    ≡ capacity_after_reserve rule T w (length r.held.items) =
    λ i. capacity_after_reserve rule T (sym same i) (count g here i) in
    record {
      items = tt;
      succeeds = λ none. c.in-Err.ensures.succeeds
          (omega (arith, count g here, (c.in-Some.ensures.goes.on c.requires.finite).2));
      err = same;
      err_some = λ _. some g here;
      placed = inr (
        refl,
        some g here,
        drawn-end g.I.Iterator.next_gives c.args.iter c.next.new.self r.rest c.in-Some.first
            r.held.items r.in_hand c.in-Some.ensures.steps c.collect_rest-held.ensures.runs
            c.in_default-in_hand.is,
      );
      cause = λ tail more. stop-at-held rule T w tail (g.I.Iterator.remaining r.rest) _ more
          (λ _. some g here)
          (λ _. (
            λ room. false≢true (c.in-Err.ensures.succeeds (omega (
              arith,
              ap (λ z. length z.items) same,
              ap (λ z. z.capacity) same,
              count g here,
            ))),
            (
              λ over. sym asked ∙ c.in-Err.ensures.overflow.overflow.0 (ap Err over),
              λ none. err-same (c.in-Err.ensures.overflow.overflow.1 (asked ∙ none)),
            ),
          ))
          (λ is. absurd (false≢true is));
      capacity = grown-none rule T v w c.requires.room same;
      longer = omega (arith, ap (λ z. length z.items) same);
      paid = resized-none v w (length v.items - c.args.at) same;
      added = taken-none T v w _ same;
    }

-- The items are inserted.
pub returns : goal.returns
returns g c =
    let here = (goal.at.returns g c).After-close in
    let collected = (goal.at.returns g c).After-len-count in
    let rule = g.G.Growth.rule in let T = param 0 g.row.T in
    let left = g.I.Iterator.remaining c.args.iter in
    let v = c.args.self.now in let u = c.reserve.new.self in let w = c.close.new.self in
    let r = c.collect_rest-held.result in let n = length r.held.items in
    let last = length v.items - c.args.at in
    let old = ap length c.reserve.ensures.items in
    let all : length v.items + c.len-count.result ≡ length w.items =
    omega (arith, long g here, count g collected) in
    let other = longer-not (length w.items) (length v.items)
    (omega (arith, long g here, some g collected)) in
    let moved : n + (length u.items - c.args.at) ≡ length w.items - length v.items + last =
    omega (arith, long g here, old) in
    let paid =
    c.in_default-reserve.ensures.cost ∙ ap (cost_after_resize v) (sym (capacity g here)) in
    record {
      items = (
        r.held.items,
        (
          r.rest,
          drawn-end g.I.Iterator.next_gives c.args.iter c.next.new.self r.rest c.in-Some.first
              r.held.items r.in_hand c.in-Some.ensures.steps c.collect_rest-held.ensures.runs
              c.in_default-in_hand.is,
        ),
        items g here ∙ ap (λ l. (take c.args.at l ++ r.held.items) ++ drop c.args.at l)
            c.reserve.ensures.items,
      );
      succeeds = λ _. refl;
      err = tt;
      err_some = tt;
      placed = tt;
      cause = tt;
      capacity = subst
          (λ k. grown_capacity rule (type_size T) (type_align T) v.capacity k ≡ Some w.capacity)
          all (c.in_default-reserve.ensures.capacity ∙ ap Some (sym (capacity g here)));
      longer = omega (arith, long g here);
      paid = cost g here ∙ ((λ i. add_moves (moved i) (paid i))
          ∙ ap (λ b. add_moves (length w.items - length v.items + (if b then 0 else last))
          (cost_after_resize v w.capacity)) (sym other));
      added = taken-join v u w left left (λ fit same. omega (arith, fit, same, old))
          (taken-reserved T rule g.met.G.Growth.law v u c.len-count.result left
          c.in_default-reserve.ensures.capacity c.reserve.ensures.preserved.alloc
          c.in_default-reserve.ensures.cost c.reserve.ensures.preserved.cheap
          (omega (arith, count g collected, (c.in-Some.ensures.goes.on c.requires.finite).2)))
          (taken-spare T u w (n + (length u.items - c.args.at)) left (cost g here) (capacity g here)
          (ap (λ z. z.alloc) c.close.ensures.changes
          ∙ ap (λ z. z.alloc) c.open_with_gap-block.ensures.changes));
    }
