-- A type former says which values are contained in each value of a generic type. With a type
-- former, the prover accepts types that contain themselves through the generic type, such as a tree
-- with a list of trees.
pub mod list
