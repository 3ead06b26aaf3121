-- Contracts describe a `Hinted` iterator by the list of its remaining items and by the lower bound
-- of its size hint.
use Rattle.std.specs.Prelude.{◌≡◌, ℕ, ◌+◌, List, Option, length}
use Rattle.std.specs.Iterator.{Count, YieldsFirst, at_most}
use Rattle.std.specs.Vec.Iter.{into_iter_items}
use Rattle.thin_runner.specs.declared.hinted.Hinted.{Hinted}

module _ {T A : Type 0} where
  -- `hinted_items` is the list of the remaining items of the iterator, in order.
  abbrev pub hinted_items : Hinted T A → List T
  hinted_items h = into_iter_items h.items

  -- `hinted_claim` is the lower bound of the iterator's size hint. It may exceed the number of
  -- remaining items.
  abbrev pub hinted_claim : Hinted T A → ℕ
  hinted_claim h = h.lower

  -- `hinted_count` is an upper bound on the number of items that the iterator may still yield. It
  -- is the number of the remaining items plus the lower bound of the size hint.
  abbrev pub hinted_count : Hinted T A → Count
  hinted_count h = at_most (hinted_claim h + length (hinted_items h))

  -- `HintedSteps old item new` holds if a call to `next` may turn the iterator `old` into `new` and
  -- return `item`. If `old` has remaining items, then `item` is the first of them. Otherwise,
  -- `item` is `None`. The lower bound of the size hint does not change.
  abbrev pub HintedSteps : Hinted T A → Option T → Hinted T A → Type 0
  HintedSteps old item new =
      YieldsFirst hinted_items old item new × (hinted_claim new ≡ hinted_claim old)
