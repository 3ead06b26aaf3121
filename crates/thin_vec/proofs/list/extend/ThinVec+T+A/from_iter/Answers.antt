-- `from_iter` makes a list for the lower bound of the size hint, and calls `extend_unhinted`.
use Rattle.std.specs.Iterator.{Yields}
use Rattle.std.specs.Option.{option_to_list}
use Rattle.std.proofs.Common.{Err, None, [], refl, inl, inr, ◌++◌, ◌≡◌, ◌∙◌, ◌==◌, if◌then◌else◌, ap, arith, length, subst, sym}
use Rattle.std.proofs.lemmas.Bool.{cases_lt, false≢true}
use denote.Param.{param}
use Rattle.thin_block.proofs.ResultLemmas.{err-same}
use Rattle.thin_block.specs.Growth.{doubling}
use Rattle.thin_block.specs.GrowthLaws.{doubling_law}
use Rattle.thin_vec.proofs.list.ExtendLemmas.{exact-new, match-some, run-given, run-of}
use Rattle.thin_vec.proofs.PushesLemmas.{after-none}
use Rattle.thin_vec.proofs.ExtendCostLemmas.{collected-costs, collected-from, exact-is}
use Rattle.thin_block.specs.Cost.{add_realloc}
use Rattle.thin_vec.specs.ThinVec.{cost_after_resize, cost_of_new}
use Rattle.thin_vec.specs.List.Extend.{IsAfterCollect, IsAfterPushes, IsCollectedList}
use Rattle.thin_vec.proofs.list.extend.ThinVec+T+A.from_iter.Goals.{After-extend_unhinted}
use Rattle.thin_vec.proofs.list.extend.ThinVec+T+A.from_iter.Goals as goal

-- `reserve_exact` gives the new list exactly the capacity in the size hint.
pushed : (g : _) (c : After-extend_unhinted g) → IsAfterCollect doubling (param 0 g.row.T)
    c.size_hint.result.0 c.extend_unhinted.new.self
pushed g c =
    let new = c.new-list.ensures.new in let hint = c.size_hint.result.0 in
    let u = c.reserve_exact.new.self in
    let made : u.capacity ≡ hint = exact-is _ _ hint u.capacity
    (sym (exact-new (param 0 g.row.T) _ _ _ new) ∙ c.in-Ok.ensures.capacity) in
    let paid : cost_after_resize c.new-list.result u.capacity ≡ cost_of_new hint =
    λ i. if made i == new.capacity i then new.cost i else add_realloc (length (new.items i))
    (new.cost i) in
    collected-from doubling (param 0 g.row.T) hint c.extend_unhinted.new.self
    (subst (λ z. IsAfterPushes doubling (param 0 g.row.T) z c.extend_unhinted.new.self)
    (λ i. record {
      items = (c.reserve_exact.ensures.items ∙ new.items) i;
      capacity = made i;
      alloc = sym c.extend_unhinted.ensures.preserved.alloc i;
      cost = (c.in-Ok.ensures.cost ∙ paid) i;
    })
    c.extend_unhinted.ensures.after)

collected : (g : _) (c : After-extend_unhinted g)
    → IsCollectedList doubling (param 0 g.row.T) c.args.alloc c.extend_unhinted.new.self
    (g.I.Iterator.remaining c.args.iter)
collected g c =
    let e = c.extend_unhinted.ensures in
    let items = ap length c.reserve_exact.ensures.items
    ∙ ap length c.new-list.ensures.new.items in
    record {
      none = λ none.
          e.had_room (omega (arith, none, items))
          ∙ (ap (λ v. v.capacity) (c.reserve_exact.ensures.had_room (omega (
            arith,
            c.size_hint.ensures.lower c.requires.finite,
            ap length c.new-list.ensures.new.items,
          )))
          ∙ c.new-list.ensures.new.capacity);
      pushed = (c.size_hint.result.0, c.size_hint.ensures.lower, pushed g c);
      made = record {
        alloc = search (arith, ◌∙◌);
        cheap = search (arith, ◌∙◌);
        within = e.preserved.within.1;
      };
    }

pub returns-in-Ok-extend_unhinted-clause-new : goal.returns-in-Ok-extend_unhinted-clause-new
returns-in-Ok-extend_unhinted-clause-new g c =
    collected g ((goal.at.returns-in-Ok-extend_unhinted-clause-new g c).After-extend_unhinted)

pub returns-in-Ok-extend_unhinted-clause-moves : goal.returns-in-Ok-extend_unhinted-clause-moves
returns-in-Ok-extend_unhinted-clause-moves g c =
    let after = (goal.at.returns-in-Ok-extend_unhinted-clause-moves g c).After-extend_unhinted in
    (collected-costs doubling (param 0 g.row.T) doubling_law c.extend_unhinted.new.self
    c.size_hint.result.0 (pushed g after)).0

pub returns-in-Err-extend_unhinted-clause-error_list :
    goal.returns-in-Err-extend_unhinted-clause-error_list
returns-in-Err-extend_unhinted-clause-error_list g c =
    collected g
    ((goal.at.returns-in-Err-extend_unhinted-clause-error_list g c).After-extend_unhinted)

pub returns-in-Err-clause-error_list : goal.returns-in-Err-clause-error_list
returns-in-Err-clause-error_list g c =
    let none = ap (λ v. v.capacity) c.in-Err.ensures.err ∙ c.new-list.ensures.new.capacity in
    let w = c.reserve_exact.new.self in let new = c.new-list.ensures.new in
    record {
      none = λ _. none;
      pushed = (
        0,
        (λ _. omega arith),
        collected-from doubling (param 0 g.row.T) 0 w (after-none doubling (param 0 g.row.T)
            (record w { items = []; capacity = 0; cost = cost_of_new 0 }) w (omega arith)
            (λ i. record w {
              items = (c.reserve_exact.ensures.items ∙ new.items) i;
              capacity = none i;
              cost = (ap (λ v. v.cost) c.in-Err.ensures.err ∙ new.cost) i;
            })),
      );
      made = record {
        alloc = search (arith, ◌∙◌);
        cheap = search (arith, ◌∙◌);
        within = c.reserve_exact.ensures.bounds.1;
      };
    }

pub returns-in-Err-clause-cause : goal.returns-in-Err-clause-cause
returns-in-Err-clause-cause g c =
    let hint = c.size_hint.result.0 in let new = c.new-list.ensures.new in
    let named = exact-new (param 0 g.row.T) _ _ hint new in (
      hint,
      c.size_hint.ensures.lower,
      (
        elim (cases_lt 0 hint) [
          | inl some ↦ some
          | inr none ↦
              absurd (false≢true
              (c.in-Err.ensures.succeeds (omega (arith, none, ap length new.items))))
        ],
        (
          λ over. sym named ∙ c.in-Err.ensures.overflow.overflow.0 (ap Err over),
          λ none. err-same (c.in-Err.ensures.overflow.overflow.1 (named ∙ none)),
        ),
      ),
    )

pub returns-in-Err-extend_unhinted-clause-cause : goal.returns-in-Err-extend_unhinted-clause-cause
returns-in-Err-extend_unhinted-clause-cause g c =
    match-some _ _ c.in-Err-extend_unhinted.refused.in_hand c.in-Err-extend_unhinted.ensures.in_hand
    c.in-Err-extend_unhinted.ensures.cause

pub returns-in-Err-extend_unhinted-clause-in_hand :
    goal.returns-in-Err-extend_unhinted-clause-in_hand
returns-in-Err-extend_unhinted-clause-in_hand g c =
    match-some _ _ c.in-Err-extend_unhinted.refused.in_hand c.in-Err-extend_unhinted.ensures.in_hand
    c.in-Err-extend_unhinted.ensures.err_full

pub returns-in-Err-extend_unhinted-clause-placed : goal.returns-in-Err-extend_unhinted-clause-placed
returns-in-Err-extend_unhinted-clause-placed g c =
    let placed = c.in-Err-extend_unhinted.ensures.placed in
    let paused = placed.2 in
    let items = placed.1 ∙ ap (λ old. old ++ placed.0)
    (c.reserve_exact.ensures.items ∙ c.new-list.ensures.new.items) in
    let last = option_to_list c.in-Err-extend_unhinted.refused.in_hand in
    record {
      gave = subst (λ l. Yields g.I.Iterator.next_gives c.args.iter (l ++ last)
          c.in-Err-extend_unhinted.refused.rest) (sym items) paused.gave;
      can_next = paused.can_next;
      finite = paused.finite;
    }

pub returns-in-Ok-extend_unhinted-clause-runs : goal.returns-in-Ok-extend_unhinted-clause-runs
returns-in-Ok-extend_unhinted-clause-runs g c =
    let filled = c.in-Ok-extend_unhinted.ensures.items in
    run-of g.I.Iterator.next_gives c.args.iter (λ xs. c.extend_unhinted.new.self.items ≡ xs) (
      filled.0,
      filled.1,
      filled.2 ∙ ap (λ old. old ++ filled.0)
          (c.reserve_exact.ensures.items ∙ c.new-list.ensures.new.items),
    )

pub returns-in-Err-clause-err_runs : goal.returns-in-Err-clause-err_runs
returns-in-Err-clause-err_runs g c =
    let none = c.reserve_exact.ensures.items
    ∙ c.new-list.ensures.new.items in
    run-given g.I.Iterator.next_gives c.args.iter [] None c.args.iter
    (λ l. l ≡ c.reserve_exact.new.self.items ++ []) refl
    (ap (λ l. l ++ []) (sym none))

pub returns-in-Err-extend_unhinted-clause-err_runs :
    goal.returns-in-Err-extend_unhinted-clause-err_runs
returns-in-Err-extend_unhinted-clause-err_runs g c =
    let placed = c.in-Err-extend_unhinted.ensures.placed in
    let items = placed.1 ∙ ap (λ old. old ++ placed.0)
    (c.reserve_exact.ensures.items ∙ c.new-list.ensures.new.items) in
    let hand = c.in-Err-extend_unhinted.refused.in_hand in
    run-given g.I.Iterator.next_gives c.args.iter placed.0 hand
    c.in-Err-extend_unhinted.refused.rest
    (λ l. l ≡ c.extend_unhinted.new.self.items ++ option_to_list hand) placed.2.gave
    (ap (λ l. l ++ option_to_list hand) (sym items))
