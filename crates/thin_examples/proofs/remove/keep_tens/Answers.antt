-- Proves that `keep_tens` leaves the numbers that the spec function `dedup` keeps if it compares
-- the values of `number / 10`.
use Rattle.std.proofs.Common.{rules}
use Rattle.thin_vec.proofs.EditLemmas.{deduped_dedup}
use Rattle.thin_examples.proofs.remove.keep_tens.Goals as goal

pub returns-clause-items : goal.returns-clause-items
returns-clause-items g c = deduped_dedup _ _
    (λ x y b t x' y' k. search rules) c.dedup_by_key.ensures.deduped
