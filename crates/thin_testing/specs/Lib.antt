-- The module `Multiples` defines the growth rule that only tests use, and proves that it keeps the
-- law of growth rules (`IsLawful`).
pub mod Multiples
