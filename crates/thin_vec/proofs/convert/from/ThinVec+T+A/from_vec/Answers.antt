-- `from_vec` requests a block for exactly the items of the vector.
use Rattle.std.proofs.Common.{◌∙◌, ap}
use Rattle.thin_block.specs.Growth.{exact_capacity}
use Rattle.thin_vec.proofs.list.ReservesLemmas.{tells-made, tells-same}
use Rattle.thin_vec.proofs.convert.from.ThinVec+T+A.from_vec.Goals as goal

pub returns-in-Err-clause-overflow : goal.returns-in-Err-clause-overflow
returns-in-Err-clause-overflow g c =
    tells-same _ _ _ _
    (ap (λ n. exact_capacity _ _ 0 n) (c.len.ensures ∙ c.args.items.ok.0))
    c.in-Err.ensures.overflow

pub returns-in-Ok-clause-overflow : goal.returns-in-Ok-clause-overflow
returns-in-Ok-clause-overflow g c =
    tells-made _ _ _ _
    (ap (λ n. exact_capacity _ _ 0 n) (c.len.ensures ∙ c.args.items.ok.0))
    c.in-Ok.ensures.overflow
