-- `extend` reserves room for the lower bound of the size hint, and then calls `extend_unhinted`.
use Rattle.std.proofs.Common.{◌≡◌, ◌++◌, ◌∙◌, List, None, [], ap, arith, length, refl, subst, sym}
use Rattle.std.proofs.lemmas.List.{append-nil}
use Rattle.std.specs.Iterator.Runs.{SomeRun, WholeRun}
use Rattle.std.specs.Iterator.SizeHint.{IsWithinCount}
use Rattle.std.specs.Option.{option_to_list}
use Rattle.std.specs.Prelude.{IfErr, OnOk}
use denote.Param.{param}
use Rattle.std.proofs.lemmas.Bool.{false≢true}
use Rattle.thin_vec.specs.List.Capacity.{FailsForRoom}
use Rattle.thin_vec.proofs.list.ExtendLemmas.{fails-in-hand, full-in-hand, placed-longer, run-of-ok, run-given, run-given-err}
use Rattle.thin_vec.proofs.ExtendCostLemmas.{extended-costs, extended-from, extended-none}
use Rattle.std.specs.Iterator.{Drains}
use Rattle.thin_vec.specs.List.Extend.{IsAfterExtend, IsAfterPushes, YieldsAndCanContinue}
use Rattle.thin_vec.proofs.list.ReservesLemmas.{lacks-room}
use Rattle.thin_vec.proofs.list.ThinVec.extend.Goals.{After-extend_unhinted}
use Rattle.thin_vec.proofs.list.ThinVec.extend.Goals as goal

pushed : (g : _) (c : After-extend_unhinted g) → IsAfterExtend g.G.Growth.rule (param 0 g.row.T)
    c.args.self.now c.size_hint.result.0 c.extend_unhinted.new.self
pushed g c =
    let u = c.reserve.new.self in
    extended-from g.G.Growth.rule (param 0 g.row.T) c.args.self.now u.capacity
    c.extend_unhinted.new.self c.size_hint.result.0 c.in-Ok.ensures.capacity
    (subst (λ z. IsAfterPushes g.G.Growth.rule (param 0 g.row.T) z c.extend_unhinted.new.self)
    (λ i. record {
      items = c.reserve.ensures.items i;
      capacity = u.capacity;
      alloc = c.reserve.ensures.preserved.alloc i;
      cost = c.in-Ok.ensures.cost i;
    })
    c.extend_unhinted.ensures.after)

pub returns-in-Ok-clause-had_room : goal.returns-in-Ok-clause-had_room
returns-in-Ok-clause-had_room g c = λ room.
    let same = ap (λ v. v.capacity) (c.in-Ok.ensures.had_room (omega (
      arith,
      c.size_hint.ensures.lower c.requires.finite,
    ))) in
    c.extend_unhinted.ensures.had_room
    (omega (arith, room, same, ap length c.reserve.ensures.items)) ∙ same

pub returns-in-Ok-clause-capacity : goal.returns-in-Ok-clause-capacity
returns-in-Ok-clause-capacity g c = (
  c.size_hint.result.0,
  c.size_hint.ensures.lower,
  pushed g (goal.at.returns-in-Ok-clause-capacity g c).After-extend_unhinted,
)

pub returns-in-Ok-clause-moves : goal.returns-in-Ok-clause-moves
returns-in-Ok-clause-moves g c =
    let e = c.extend_unhinted.ensures in
    let costs = extended-costs g.G.Growth.rule (param 0 g.row.T) g.met.G.Growth.law c.args.self.now
    c.extend_unhinted.new.self c.size_hint.result.0 c.reserve.ensures.preserved.within.0.room
    (omega (
      arith,
      ap length c.reserve.ensures.items,
      placed-longer _ _ c.extend_unhinted.result _ _ e.items e.placed,
    ))
    (pushed g (goal.at.returns-in-Ok-clause-moves g c).After-extend_unhinted) in
    omega (arith, costs.inserting.least, costs.inserting.moves)

pub returns-in-Err-clause-capacity : goal.returns-in-Err-clause-capacity
returns-in-Err-clause-capacity g c =
    extended-none g.G.Growth.rule (param 0 g.row.T) c.args.self.now c.reserve.new.self
    (g.I.Iterator.remaining c.args.iter) c.reserve.ensures.preserved.within.0.room
    c.in-Err.ensures.err

pub returns-in-Err-clause-had_room : goal.returns-in-Err-clause-had_room
returns-in-Err-clause-had_room g c = λ _. ap (λ v. v.capacity) c.in-Err.ensures.err

pub returns-in-Err-clause-moves : goal.returns-in-Err-clause-moves
returns-in-Err-clause-moves g c =
    omega (
      arith,
      ap (λ z. z.cost.moves) c.in-Err.ensures.err,
      ap (λ z. length z.items) c.in-Err.ensures.err,
    )

pub returns-in-Err-clause-cause : goal.returns-in-Err-clause-cause
returns-in-Err-clause-cause g c =
    let hint = c.size_hint.result.0 in
    let rule = g.G.Growth.rule in let T = param 0 g.row.T in (
      hint,
      c.size_hint.ensures.lower,
      subst (λ v. FailsForRoom rule T v hint c.in-Err.cause) (sym c.in-Err.ensures.err)
          (lacks-room T c.args.self.now rule hint c.in-Err.cause
          (λ room. false≢true (c.in-Err.ensures.succeeds room))
          c.in-Err.ensures.overflow.overflow),
    )

pub returns-in-Ok-clause-cause : goal.returns-in-Ok-clause-cause
returns-in-Ok-clause-cause g c =
    fails-in-hand (λ error k. IsWithinCount k (g.I.Iterator.remaining error.rest))
    (FailsForRoom g.G.Growth.rule (param 0 g.row.T) c.extend_unhinted.new.self)
    c.extend_unhinted.result c.extend_unhinted.ensures.in_hand c.extend_unhinted.ensures.cause

pub returns-in-Ok-clause-in_hand : goal.returns-in-Ok-clause-in_hand
returns-in-Ok-clause-in_hand g c =
    full-in-hand _ _ c.extend_unhinted.result c.extend_unhinted.ensures.in_hand
    c.extend_unhinted.ensures.err_full

pub returns-in-Ok-clause-runs : goal.returns-in-Ok-clause-runs
returns-in-Ok-clause-runs g c =
    let steps = g.I.Iterator.next_gives in let w = c.extend_unhinted.new.self in
    subst (λ old. OnOk c.extend_unhinted.result
    (WholeRun steps c.args.iter (λ p. w.items ≡ old ++ p.items))) c.reserve.ensures.items
    (run-of-ok steps c.args.iter (λ xs. w.items ≡ c.reserve.new.self.items ++ xs)
    c.extend_unhinted.result c.extend_unhinted.ensures.items)

pub returns-in-Ok-clause-err_runs : goal.returns-in-Ok-clause-err_runs
returns-in-Ok-clause-err_runs g c =
    let steps = g.I.Iterator.next_gives in let w = c.extend_unhinted.new.self in
    subst (λ old. IfErr c.extend_unhinted.result
    (λ error. SomeRun steps c.args.iter
    (λ p. (xs : List g.row.T.Denot) × (w.items ≡ old ++ xs)
    × (p.items ≡ xs ++ option_to_list error.in_hand)))) c.reserve.ensures.items
    (run-given-err steps c.args.iter g.I.Iterator.can_next g.I.Iterator.remaining
    (λ error. error.in_hand) (λ error. error.rest)
    (λ xs. w.items ≡ c.reserve.new.self.items ++ xs) c.extend_unhinted.result
    c.extend_unhinted.ensures.placed)

pub returns-in-Err-clause-err_runs : goal.returns-in-Err-clause-err_runs
returns-in-Err-clause-err_runs g c =
    run-given g.I.Iterator.next_gives c.args.iter [] None c.args.iter
    (λ l. (xs : List g.row.T.Denot) × (c.reserve.new.self.items ≡ c.args.self.now.items ++ xs)
    × (l ≡ xs ++ [])) refl
    ([], c.reserve.ensures.items ∙ sym (append-nil c.args.self.now.items), refl)

pub returns-in-Ok-clause-items : goal.returns-in-Ok-clause-items
returns-in-Ok-clause-items g c =
    subst (λ old. OnOk c.extend_unhinted.result ((xs : List g.row.T.Denot)
    × Drains g.I.Iterator.next_gives c.args.iter xs
    × (c.extend_unhinted.new.self.items ≡ old ++ xs))) c.reserve.ensures.items
    c.extend_unhinted.ensures.items

pub returns-in-Ok-clause-placed : goal.returns-in-Ok-clause-placed
returns-in-Ok-clause-placed g c =
    subst (λ old. IfErr c.extend_unhinted.result (λ error. (xs : List g.row.T.Denot)
    × (c.extend_unhinted.new.self.items ≡ old ++ xs)
    × YieldsAndCanContinue g.I.Iterator.next_gives g.I.Iterator.can_next g.I.Iterator.remaining
    c.args.iter (xs ++ option_to_list error.in_hand) error.rest)) c.reserve.ensures.items
    c.extend_unhinted.ensures.placed

pub returns-in-Ok-clause-succeeds : goal.returns-in-Ok-clause-succeeds
returns-in-Ok-clause-succeeds g c = λ room.
    c.extend_unhinted.ensures.succeeds
    (omega (
      arith,
      room,
      ap length c.reserve.ensures.items,
      c.reserve.ensures.preserved.never_less,
    ))

pub returns-in-Err-clause-placed : goal.returns-in-Err-clause-placed
returns-in-Err-clause-placed g c = (
  [],
  c.reserve.ensures.items ∙ sym (append-nil c.args.self.now.items),
  record { gave = refl; can_next = c.requires.can_next; finite = c.requires.finite },
)
