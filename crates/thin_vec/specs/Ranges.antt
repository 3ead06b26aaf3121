-- The definition in this file says which items of a list a range selects. (See std's
-- `slice::range`.)
use Rattle.std.specs.Prelude.{ℕ, ◌&&◌, Option, if◌then◌else◌, nat_le}
use Rattle.std.specs.Range.Bound.{end_index, start_index}
use Rattle.std.specs.declared.option.Option.TheVariants.{None, Some}
use Rattle.std.specs.declared.ops.Bound.{Bound}

-- Let `i..j` be the range with the bounds `start` and `end` in a list of length `len`. Then
-- `range_between start end len` is `Some (i, j)` if `i ≤ j ≤ len`, and `None` otherwise.
abbrev pub range_between : Bound ℕ → Bound ℕ → ℕ → Option (ℕ × ℕ)
range_between start end len =
    if nat_le (start_index start) (end_index end len) && nat_le (end_index end len) len
    then Some (start_index start, end_index end len)
    else None
