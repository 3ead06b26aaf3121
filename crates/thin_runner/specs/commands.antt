-- The modules below contain the definitions that `Steps` uses to state what commands may do. Each
-- module is about one kind of command.
pub mod Items
pub mod Room
pub mod Many
pub mod Filters
pub mod Ranges
pub mod Splices
