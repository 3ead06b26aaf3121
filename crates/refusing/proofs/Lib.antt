-- Lemmas about calls to `refuses`, `granted` and `returned`, for the hand-written proofs of the
-- methods of `Refusing`.
mod Asks
mod Counting
