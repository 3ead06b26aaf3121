-- If a splice fails, each item of the iterator is in the list, in `held`, in `in_hand` or in
-- `rest`.
use Rattle.std.proofs.Common.{rules, ◌≡◌, ◌≤◌, ◌+◌, ◌*◌, ◌-◌, ◌++◌, ◌∙◌, ap, arith, drop, length, length-append, sym, take}
use Rattle.std.proofs.lemmas.Bool.{false≢true}
use Rattle.std.specs.Iterator.{at_most, size}
use mathlib.Core.Logic.{⊎_elim}
use Rattle.thin_runner.specs.Hinted.{hinted_claim, hinted_count, hinted_items}
use Rattle.thin_runner.proofs.HintedLemmas.{drains-items}
use Rattle.thin_runner.proofs.SplicesLemmas.{at-no-in-hand, at-some-in-hand, finishes-splices, no-tail, replaces, replaces-of, some-tail, stops-of, stopped-claim, stopped-ended, stopped-items, tail-count}
use Rattle.thin_runner.specs.commands.Splices.{without_range}
use Rattle.thin_vec.specs.Edits.Splice.{list_without_range, splice_front, splice_iter, splice_range_len, splice_tail}
use Rattle.thin_vec.proofs.FinishCostLemmas.{finish-costs}
use Rattle.thin_vec.specs.ThinVec.{HasRoomFor}
use Rattle.thin_runner.proofs.context.Context.splice.Goals.{After-take_ends}
use Rattle.thin_runner.proofs.context.Context.splice.Goals as goal

left : (g : _) (c : After-take_ends g) → list_without_range c.take_ends.new.ends
    ≡ without_range c.args.list.now c.args.start c.args.end
left g c = c.take_ends.ensures.preserved.without_range ∙ c.splice-splice.ensures.without_range

front : (g : _) (c : After-take_ends g)
    → splice_front c.take_ends.new.ends ≡ take c.args.start c.args.list.now.items
front g c = c.take_ends.ensures.preserved.front ∙ c.splice-splice.ensures.front

tail : (g : _) (c : After-take_ends g)
    → splice_tail c.take_ends.new.ends ≡ drop c.args.end c.args.list.now.items
tail g c = c.take_ends.ensures.preserved.tail ∙ c.splice-splice.ensures.tail

range : (g : _) (c : After-take_ends g)
    → splice_range_len c.take_ends.new.ends ≡ c.args.end - c.args.start
range g c = c.take_ends.ensures.preserved.range ∙ c.splice-splice.ensures.range

moved : (g : _) (c : After-take_ends g) → 2 * length (splice_tail c.take_ends.new.ends)
    ≡ 2 * (length c.args.list.now.items - c.args.end)
moved g c = ap (λ n. 2 * n) (tail-count c.args.list.now.items _ c.args.end (tail g c))

items : (g : _) (c : After-take_ends g)
    → hinted_items (splice_iter c.take_ends.new.ends) ≡ c.args.items.items
items g c = ap hinted_items (c.take_ends.ensures.preserved.iter ∙ c.splice-splice.ensures.value)
    ∙ c.new.ensures.items

claim : (g : _) (c : After-take_ends g)
    → hinted_claim (splice_iter c.take_ends.new.ends) ≡ c.args.lower
claim g c = ap hinted_claim (c.take_ends.ensures.preserved.iter ∙ c.splice-splice.ensures.value)
    ∙ c.new.ensures.lower

count : (g : _) (c : After-take_ends g) → hinted_count (splice_iter c.take_ends.new.ends)
    ≡ at_most (c.args.lower + length c.args.items.items)
count g c = λ i. at_most (claim g c i + length (items g c i))

pub returns-in-Ok-finish : goal.returns-in-Ok-finish
returns-in-Ok-finish g c =
    let at = (goal.at.returns-in-Ok-finish g c).After-take_ends in
    let written : c.finish.new.self.0 ≡ c.list-1.given.0 =
    sym (c.list-1.given.1 (sym (c.take_ends.ensures.preserved.lender
    ∙ c.splice-splice.ensures.same_reference))) in
    let e = c.in-Ok-finish.ensures in
    let all = drains-items (splice_iter c.take_ends.new.ends) e.items.0 e.items.1
    ∙ items g at in
    let grows = finishes-splices e.had_room e.at_end
    (λ some. ((e.before_tail some).0, (e.before_tail some).1)) in
    record {
      allowed = (
        (c.requires.start_le_end, c.requires.in_bounds),
        (
          search rules,
          replaces-of written
              (replaces (e.items.2 ∙ (λ i. (front g at i ++ all i) ++ tail g at i)) grows
              (finish-costs c.take_ends.new.ends g.met.G.Growth.law e.items.0 e.items.2
              grows.at_end grows.before_tail e.range_room)
              e.preserved (left g at) (count g at) (moved g at) (tail g at) (range g at)),
        ),
      );
    }

pub returns-in-Err-finish : goal.returns-in-Err-finish
returns-in-Err-finish g c =
    let at = (goal.at.returns-in-Err-finish g c).After-take_ends in
    let k = c.take_ends.ensures.preserved in
    let s = c.splice-splice.ensures in
    let xs = c.args.list.now.items in
    let start = c.args.start in
    let end = c.args.end in
    let written : c.finish.new.self.0 ≡ c.list-1.given.0 =
    sym (c.list-1.given.1 (sym (k.lender ∙ s.same_reference))) in
    let drawn = splice_iter c.take_ends.new.ends in
    let before = splice_front c.take_ends.new.ends in
    let after = splice_tail c.take_ends.new.ends in
    let may = c.args.lower + length c.args.items.items in
    let most : size (hinted_count drawn) ≡ may =
    omega (arith, claim g at, ap length (items g at)) in
    let width = k.range ∙ s.range in
    let e = c.in-Err-finish.ensures in
    let refused = c.in-Err-finish.refused in
    let placed = e.placed.0 in
    let grows = finishes-splices e.had_room e.at_end
    (λ some. ((e.before_tail some).0, (e.before_tail some).1)) in
    record {
      allowed = (
        (c.requires.start_le_end, c.requires.in_bounds),
        (
          search rules,
          stops-of written (record {
            placed = placed;
            all = sym (items g at) ∙ stopped-items drawn placed refused e.placed.2;
            claim = stopped-claim drawn placed refused e.placed.2 ∙ claim g at;
            filled = replaces (e.placed.1 ∙ (λ i. (front g at i ++ placed) ++ tail g at i)) grows
                (finish-costs c.take_ends.new.ends g.met.G.Growth.law placed e.placed.1
                grows.at_end grows.before_tail e.range_room)
                e.preserved (left g at) (count g at) (moved g at) (tail g at) (range g at);
            no_room = λ places. false≢true (⊎_elim
                (λ (few : may ≤ end - start). e.succeeds (omega (arith, few, most, width)))
                (λ (room : (end ≡ length xs)
                × HasRoomFor (without_range c.args.list.now start end) may).
                e.succeeds_at_end (no-tail xs after end (tail g at) room.0) (omega (
                  arith,
                  room.1,
                  most,
                  ap (λ v. length v.items) (left g at),
                  ap (λ v. v.capacity) (left g at),
                ))) places);
            by_hint = e.cause.by_hint;
            by_held = e.cause.by_held;
            by_in_hand = λ more some.
                (e.cause.by_in_hand (some-tail xs after end (tail g at) more) some).0;
            by_push = λ full some.
                (e.cause.by_push (no-tail xs after end (tail g at) full) some).1;
            ended = stopped-ended drawn placed refused e.placed.2;
            range = λ more. omega (
              arith,
              width,
              (e.before_tail (some-tail xs after end (tail g at) more)).2,
              ap length e.placed.1,
              length-append (before ++ placed) after,
              length-append before placed,
              ap length (front g at),
              ap length (tail g at),
              ap (λ v. length v.items) (left g at),
              length-append (take start xs) (drop end xs),
            );
            at_end = λ full.
                let last = no-tail xs after end (tail g at) full in
                (e.held_at_end last, at-some-in-hand _ _ refused.in_hand (e.in_hand_at_end last));
            unchanged = λ full none.
                (at-no-in-hand _ _ refused.in_hand
                (e.in_hand_at_end (no-tail xs after end (tail g at) full)) none).0
                ∙ left g at;
          }),
        ),
      );
    }
