-- If `extend` fails, each item of the iterator is in the list, in `in_hand` or in `rest`.
use Rattle.std.proofs.Common.{rules, ◌≡◌, ◌++◌, ◌+◌, ap, arith, length, refl, subst, sym, ◌∙◌, append_assoc}
use Rattle.std.proofs.Math.Seq.{drop-length}
use Rattle.std.proofs.lemmas.Bool.{false≢true}
use Rattle.std.specs.Iterator.{at_most, size}
use Rattle.std.specs.Option.{option_to_list}
use Rattle.thin_runner.specs.Hinted.{hinted_count, hinted_items}
use Rattle.thin_runner.proofs.HintedLemmas.{drains-items, yields-claim, yields-items}
use Rattle.thin_runner.proofs.SplicesLemmas.{at-end, at-no-in-hand, at-some-in-hand, extends-splices, places-end, replaces, without_range-end}
use Rattle.thin_vec.proofs.ExtendCostLemmas.{extend-costs}
use Rattle.thin_vec.specs.List.Capacity.{FailsForRoom}
use Rattle.thin_vec.specs.ThinVec.{HasRoomFor}
use denote.Param.{param}
use Rattle.thin_runner.proofs.context.Context.extend.Goals as goal

pub returns-in-Ok : goal.returns-in-Ok
returns-in-Ok g c =
    let e = c.in-Ok.ensures in
    let old = c.args.list.now in
    let items = drains-items c.new.result e.items.0 e.items.1 ∙ c.new.ensures.items in
    let count : hinted_count c.new.result ≡ at_most (c.args.lower + length c.args.items.items) =
    λ i. at_most (c.new.ensures.lower i + length (c.new.ensures.items i)) in
    record {
      allowed = (
        tt,
        replaces ((e.items.2 ∙ ap (λ l. old.items ++ l) items) ∙ sym (at-end old.items _))
            (extends-splices (drop-length old.items) e.had_room e.capacity)
            (extend-costs g.met.G.Growth.law e.items.0 e.items.2 e.preserved e.capacity.2).inserting
            e.preserved
            (sym (without_range-end old)) count (omega arith) refl refl,
      );
    }

pub returns-in-Err : goal.returns-in-Err
returns-in-Err g c =
    let e = c.in-Err.ensures in
    let old = c.args.list.now in
    let rest = c.in-Err.refused.rest in
    let hand = c.in-Err.refused.in_hand in
    let one = option_to_list hand in
    let all = yields-items c.new.result rest (e.placed.0 ++ one) e.placed.2.gave in
    let claim = yields-claim c.new.result rest (e.placed.0 ++ one) e.placed.2.gave in
    let none = c.new-in-Err-2.ensures.items in
    let may = c.args.lower + length c.args.items.items in
    let most : size (hinted_count c.new.result) ≡ may =
    omega (arith, c.new.ensures.lower, ap length c.new.ensures.items) in
    let full : ¬ (HasRoomFor old may) = search rules in
    let count : hinted_count c.new.result ≡ at_most (c.args.lower + length c.args.items.items) =
    λ i. at_most (c.new.ensures.lower i + length (c.new.ensures.items i)) in
    record {
      allowed = (
        tt,
        (
          c.new-in-Err.ensures.items,
          record {
            placed = e.placed.0;
            all = sym c.new.ensures.items
                ∙ (all ∙ (append_assoc e.placed.0 one (hinted_items rest)
                ∙ sym (ap (λ h. e.placed.0 ++ (h ++ (one ++ hinted_items rest))) none)));
            claim = claim ∙ c.new.ensures.lower;
            filled = replaces (e.placed.1 ∙ sym (at-end old.items e.placed.0))
                (extends-splices (drop-length old.items) e.had_room e.capacity)
                (extend-costs g.met.G.Growth.law e.placed.0 e.placed.1 e.preserved
                e.capacity.2).inserting
                e.preserved (sym (without_range-end old)) count (omega arith) refl refl;
            no_room = places-end old ⊥ may
                (λ nothing. false≢true
                (e.succeeds (omega (arith, nothing, most, e.preserved.within.0.room)))) full;
            by_hint = λ _ empty. (e.cause.0, at-no-in-hand _ _ hand e.cause.1 empty, e.cause.2);
            by_held = λ some _. absurd (omega (arith, ap length none, some));
            by_in_hand = λ more. absurd (omega (arith, more));
            by_push = λ _ some. (subst
                (λ k. FailsForRoom g.G.Growth.rule (param 0 g.row.T) c.extend-filled.new.self k
                c.in-Err.refused.cause)
                (at-some-in-hand _ _ hand e.cause.1 some) e.cause.2).1;
            ended = λ nothing some. absurd (omega (arith, ap length none, some));
            range = λ more. absurd (omega (arith, more));
            at_end = λ end. (none, at-some-in-hand _ _ hand e.in_hand);
            unchanged = λ end empty.
                (at-no-in-hand _ _ hand e.in_hand empty).0
                ∙ sym (without_range-end old);
          },
        ),
      );
    }
