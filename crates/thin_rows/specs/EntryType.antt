-- Defines the type of an entry in a row, and the capacity of a row to which an entry is added. The
-- size and the alignment of an entry determine how many entries fit into a block.
use Rattle.std.specs.Prelude.{ℕ, ◌+◌, [], ◌∷◌, Option}
use Rattle.std.specs.Align.{type_align}
use Rattle.std.specs.Borrow.{RattleType, usize}
use Rattle.std.specs.Mem.{type_size}
use denote.Struct.Tuple.{Tuple}
use Rattle.thin_vec.specs.Growth.{doubling, grown_capacity}

-- `entry_type V` is the type of a pair of a column and a value of the type `V`.
abbrev pub entry_type : RattleType → RattleType
entry_type V = Tuple (usize ∷ V ∷ [])

-- `capacity_after_insert V n` is the new capacity of a row whose capacity is `n`, and which gets
-- room for an entry more than `n`. The values have the type `V`. The result is `None` if the new
-- capacity would be too large.
abbrev pub capacity_after_insert : RattleType → ℕ → Option ℕ
capacity_after_insert V n =
    grown_capacity doubling (type_size (entry_type V)) (type_align (entry_type V)) n (n + 1)
