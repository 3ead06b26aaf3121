-- This file proves that `next_capacity` returns the old capacity if it suffices, and otherwise the
-- capacity that the rule `doubling` chooses.
use Rattle.std.proofs.Common.{sym, ◌∙◌, arith}
use Rattle.thin_block.specs.Growth.{doubling}
use Rattle.thin_block.proofs.CapacityLemmas.{ruled-same, ruled-rule}
use Rattle.thin_block.proofs.growth.doubling.next_capacity.Goals as goal

pub returns-then-want-cap : goal.returns-then-want-cap
returns-then-want-cap g c =
    record { value = sym (ruled-same doubling _ _ c.args.cap c.args.want (omega arith)) }

pub returns : goal.returns
returns g c = record {
  value = c.next_capacity.ensures.value
      ∙ sym (ruled-rule doubling _ _ c.args.cap c.args.want (omega arith) (omega arith));
}
