-- The list has what the iterator over the text yields, which is its characters.
use Rattle.std.proofs.lemmas.Iterator.{YieldsList-from_chars}
use Rattle.thin_vec.proofs.CallerLemmas.{items_from_collect}
use Rattle.thin_examples.proofs.make.chars_of.Goals as goal

pub returns : goal.returns
returns g c = record {
  items = items_from_collect _ c.collect.result c.collect.ensures.ran
      (YieldsList-from_chars c.args.text.now c.utf8.text c.chars.ensures.rest);
}
