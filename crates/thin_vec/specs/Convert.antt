-- The module `IntoIter` contains the definitions for the contracts of the conversions in
-- `src/convert/`.
pub mod IntoIter
