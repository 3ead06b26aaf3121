-- The clause `walked` of `extract_if` says what the loop moved and what it left.
use Rattle.std.proofs.Common.{◌∙◌, ◌-◌, ◌++◌, [], ◌∷◌, ap, append_assoc, arith, drop, length, refl, rules, subst, sym}
use Rattle.std.proofs.iter.Next.{Yields-more}
use Rattle.std.proofs.lemmas.List.{append-nil, length-drop, length-take-le, length_push}
use Rattle.std.specs.Fn.{CalledAtMut}
use Rattle.std.specs.Option.{option_to_list}
use Rattle.thin_vec.specs.Edits.ExtractIf.{ExtractSteps}
use Rattle.thin_examples.proofs.transfer.hand_over_where.Goals as goal

pub loop-item-init : goal.loop-item-init
loop-item-init g c = record {
  callable = search rules;
  moved = ([], refl, sym (append-nil _));
  room = omega (
    arith,
    c.in_ok-reserve.ensures.room,
    ap length c.extract_if-picked.ensures.rest,
    length-take-le (c.args.end - c.args.start) (drop c.args.start c.args.list.now.items) (omega (
      arith,
      c.requires.in_bounds,
      length-drop c.args.start c.args.list.now.items,
    )),
  );
}

pub push_reserved-requires : goal.push_reserved-requires
push_reserved-requires g c = omega (
  arith,
  c.loop-item.invariant.room,
  c.next.ensures.steps.extracts.count,
  ap (λ r. length (option_to_list r)) c.in-Some.is,
)

pub loop-item-preserved : goal.loop-item-preserved
loop-item-preserved g c =
    let was = c.loop-item.invariant in
    let one = subst
    (λ r. ExtractSteps (CalledAtMut g.F.FnMut) c.loop-item.picked r c.next.new.self) c.in-Some.is
    c.next.ensures.steps in
    record {
      callable = c.next.ensures.callable;
      moved = (
        was.moved.0 ++ c.in-Some.item ∷ [],
        Yields-more (ExtractSteps (CalledAtMut g.F.FnMut)) c.extract_if-picked.result was.moved.0
            c.loop-item.picked c.in-Some.item c.next.new.self was.moved.1 one,
        c.push_reserved.ensures.items
            ∙ (ap (λ l. l ++ c.in-Some.item ∷ []) was.moved.2
            ∙ append_assoc _ was.moved.0 (c.in-Some.item ∷ [])),
      );
      room = omega (
        arith,
        was.room,
        c.next.ensures.steps.extracts.count,
        ap (λ r. length (option_to_list r)) c.in-Some.is,
        c.push_reserved.ensures.capacity,
        ap length c.push_reserved.ensures.items,
        length_push c.loop-item.other.items c.in-Some.item,
      );
    }

pub returns-clause-moved : goal.returns-clause-moved
returns-clause-moved g c =
    let m = c.loop-item.invariant.moved in
    let made = c.extract_if-picked.ensures in
    let ended = subst
    (λ r. ExtractSteps (CalledAtMut g.F.FnMut) c.loop-item.picked r c.next.new.self)
    c.in_default.is c.next.ensures.steps in
    let walked = made.walked m.0 c.next.new.self (c.loop-item.picked, m.1, ended) in
    let lender = (made.next_keeps m.0 c.loop-item.picked m.1).lender in
    let left = ap (λ v. v.items) (c.drop-picked.ensures.after_drop ∙ walked.after_drop) in (
      m.0,
      walked.kept,
      _,
      walked.calls,
      search (rules, left, lender),
      m.2 ∙ (λ i. c.in_ok-reserve.ensures.items i ++ m.0),
    )
