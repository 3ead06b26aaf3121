-- The type former of `ThinVec` says which values a list contains.
pub mod ThinVec
