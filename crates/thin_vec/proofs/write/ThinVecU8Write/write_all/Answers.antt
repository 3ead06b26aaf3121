-- `write_all` calls `reserve`. The contracts of both functions name the same capacity, because
-- the item type has the size and the alignment of `u8`.
use Rattle.std.proofs.Common.{◌∙◌, Some, ap, sym}
use Rattle.thin_block.proofs.ResultLemmas.{none-some}
use Rattle.thin_vec.proofs.write.ThinVecU8Write.write_all.Goals as goal

pub returns-clause-capacity : goal.returns-clause-capacity
returns-clause-capacity g c =
    c.in-Ok.ensures.capacity
    ∙ ap (λ n. Some n) (sym c.extend_from_copies_reserved.ensures.capacity)

pub returns-clause-overflow : goal.returns-clause-overflow
returns-clause-overflow g c = λ none. absurd (none-some none (returns-clause-capacity g c))
