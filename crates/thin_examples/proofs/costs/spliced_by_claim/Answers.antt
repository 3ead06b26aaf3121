-- The iterator of `spliced_by_claim` yields three items, whatever it claims. They take three moves,
-- and the item after the range takes at most two.
use Rattle.std.proofs.Common.{rules, ◌≡◌, ◌∙◌, ◌++◌, ap, arith, drop, length, length-append, take}
use Rattle.std.proofs.lemmas.List.{length-drop}
use Rattle.thin_runner.proofs.HintedLemmas.{drains-items}
use Rattle.thin_runner.specs.Hinted.{hinted_items}
use Rattle.thin_vec.specs.Edits.Splice.{splice_front, splice_iter, splice_tail}
use Rattle.thin_examples.proofs.costs.spliced_by_claim.Goals as goal

pub returns : goal.returns
returns g c =
    let s = c.splice.ensures in
    let e = c.in_ok-finish.ensures in
    let front = splice_front c.splice.result in
    let tail = splice_tail c.splice.result in
    let xs = c.args.list.now.items in
    let new = e.items.0 in
    let yielded = drains-items (splice_iter c.splice.result) new e.items.1
    ∙ (ap hinted_items s.value ∙ c.new.ensures.items) in
    let three : length c.in_ok-numbers.numbers.items ≡ 3 = search rules in
    let left : c.finish.new.self.0 ≡ c.list-1.given.0 = search rules in
    record {
      five_moves = omega (
        arith,
        c.requires.five,
        three,
        e.moves_at_most,
        ap length yielded,
        ap length e.items.2,
        ap (λ list. list.cost.moves) left,
        ap (λ list. list.cost.moves) s.without_range,
        ap (λ list. length list.items) s.without_range,
        length-append (take 2 xs) (drop 4 xs),
        ap length s.front,
        ap length s.tail,
        length-drop 4 xs,
        length-append (front ++ new) tail,
        length-append front new,
      );
    }
