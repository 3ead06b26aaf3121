-- To compare an item with the last kept item, `dedup_by_key` calls its closure first for the item
-- itself, and then for the last kept item.
use Rattle.std.proofs.Common.{rules}
use Rattle.std.proofs.Math.Bool.{not-not}
use Rattle.thin_vec.proofs.edits.dedup.SameKeyPairTest.test.Goals as goal

pub returns-clause-tested : goal.returns-clause-tested
returns-clause-tested g c = record {
  between = c.key-key.new.self;
  key = c.key-key.result;
  other = c.key.result;
  first = search rules;
  second = search rules;
  compared = simp not-not (search rules);
}
