-- `from_str` fails with the error of `from_copies`. The contracts of both functions name the same
-- capacity, because the item type has the size and the alignment of `u8`.
use Rattle.std.proofs.Common.{◌∙◌, ap, length, arith}
use Rattle.thin_block.specs.Growth.{exact_capacity}
use Rattle.thin_vec.proofs.list.ReservesLemmas.{tells-same}
use Rattle.thin_vec.proofs.convert.from.ThinVec+u8+A.from_str.Goals as goal

pub returns-clause-overflow : goal.returns-clause-overflow
returns-clause-overflow g c =
    tells-same _ _ _ _ (ap (λ bytes. exact_capacity 1 1 0 (length bytes)) c.as_bytes.ensures.value)
    c.from_copies.ensures.overflow

pub returns-clause-items : goal.returns-clause-items
returns-clause-items g c = search (arith, ◌∙◌)

pub returns-clause-capacity : goal.returns-clause-capacity
returns-clause-capacity g c = search (arith, ◌∙◌)
