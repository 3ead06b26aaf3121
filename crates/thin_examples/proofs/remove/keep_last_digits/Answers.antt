-- Proves that `keep_last_digits` leaves the numbers that the spec function `dedup` keeps if it
-- compares last digits.
use Rattle.std.proofs.Common.{rules}
use Rattle.thin_vec.proofs.EditLemmas.{deduped_dedup}
use Rattle.thin_examples.proofs.remove.keep_last_digits.Goals as goal

pub returns-clause-items : goal.returns-clause-items
returns-clause-items g c = deduped_dedup _ _
    (λ x y b t x' y' k. search rules) c.dedup_by.ensures.deduped
