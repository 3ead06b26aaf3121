-- This file computes the size of a block in bytes, and defines when a block is small enough to be
-- allocated, and when it is padded.
use Rattle.std.specs.Prelude.{ℕ, zero, suc, ◌+◌, ◌*◌, ◌-◌, ◌^◌, ◌&&◌, ◌==◌, Bool, IsTrue, Option, if◌then◌else◌, max, nat_le, nat_lt}
use Rattle.std.specs.declared.option.Option.TheVariants.{Some, None}
use Rattle.std.specs.Int.{next_multiple_of}
use Rattle.std.specs.Mem.{type_size}
use Rattle.std.specs.Align.{type_align}
use denote.RattleType.{RattleType}

-- `items_offset a` is the offset in bytes of the first item in a block whose items have the
-- alignment `a`.
abbrev pub items_offset : ℕ → ℕ
items_offset a = max 16 a

-- `block_align a` is the alignment in bytes of a block whose items have the alignment `a`. It is at
-- least 8.
abbrev pub block_align : ℕ → ℕ
block_align a = max 8 a

-- `block_bytes s a c` is the size in bytes of a block for `c` items of size `s` and alignment `a`,
-- including padding at the end.
abbrev pub block_bytes : ℕ → ℕ → ℕ → ℕ
block_bytes s a c = next_multiple_of (items_offset a + c * s) (block_align a)

-- `fits s a c` is true if a block for `c` items of size `s` and alignment `a` is small enough to be
-- allocated: the capacity `c` and the size of the block in bytes are at most `isize::MAX`.
unfoldable pub fits : ℕ → ℕ → ℕ → Bool
fits s a c = nat_lt c (2 ^ 63)
    && nat_lt (next_multiple_of (max 16 a + c * s) (max 8 a)) (2 ^ 63)

-- `Fits R c` holds if a block for `c` items of the type `R` is small enough to be allocated.
abbrev pub Fits : RattleType → ℕ → Type 0
Fits R c = IsTrue (fits (type_size R) (type_align R) c)

-- `min_non_zero_cap s` is the least capacity that the rule `Doubling` chooses for the first block
-- of a list with items of `s` bytes.
unfoldable pub min_non_zero_cap : ℕ → ℕ
min_non_zero_cap s = if nat_lt (2 ^ 61 - 1) s then 1 else 4

-- `in_words s` says whether items of `s` bytes form words of 8 or 16 bytes. If `s` is 1, 2, 4, 8 or
-- 16, then `in_words s` is `Some (m, k)`: a word consists of `m` items, and the header is as large
-- as `k` words. Otherwise, it is `None`.
abbrev pub in_words : ℕ → Option (ℕ × ℕ)
in_words s = if s == 1 then Some (8, 2) else (if s == 2 then Some (4, 2) else
    (if s == 4 then Some (2, 2) else (if s == 8 then Some (1, 2) else
    (if s == 16 then Some (1, 1) else None))))

-- `double_to k n p` doubles `p` until the result is at least `n`, but at most `k` times.
abbrev pub double_to : ℕ → ℕ → ℕ → ℕ
double_to zero n p = p
double_to (suc more) n p = if nat_le n p then p else double_to more n (2 * p)

-- `least_power n` is the least power of two that is at least `n`. std's `usize::next_power_of_two`
-- returns the same number if the number fits into a `usize`.
unfoldable pub least_power : ℕ → ℕ
least_power n = double_to n n 1

-- `may_have_padding s a c` is true if a block for `c` items of size `s` and alignment `a` is padded
-- unless `has_room_for_padding s a c` is false.
abbrev pub may_have_padding : ℕ → ℕ → ℕ → Bool
may_have_padding s a c = nat_lt 16 s && (nat_le 8 a && nat_le 32 c)

-- `has_room_for_padding s a c` is true if `c` items of size `s` and alignment `a` take less than
-- `2 ^ 62` bytes, and the least power of two that is enough for the header and `c` items is also
-- enough for the header and `c + 1` items.
abbrev pub has_room_for_padding : ℕ → ℕ → ℕ → Bool
has_room_for_padding s a c = nat_lt (c * s) (2 ^ 62)
    && nat_le (items_offset a + (c + 1) * s) (least_power (items_offset a + c * s))

-- `has_padding s a c` is true if a block for `c` items of size `s` and alignment `a` is padded: in
-- front of the header is unused memory, which takes as many bytes as an item together with the
-- header. The prover unfolds this definition only on request.
unfoldable pub has_padding : ℕ → ℕ → ℕ → Bool
has_padding s a c = may_have_padding s a c && has_room_for_padding s a c

-- `front_bytes s a c` is the number of bytes before the header of a block for `c` items of size `s`
-- and alignment `a`. Together with the header, they take as many bytes as an item.
abbrev pub front_bytes : ℕ → ℕ → ℕ → ℕ
front_bytes s a c = if has_padding s a c then s - 16 else 0

-- `memory_bytes s a c` is the number of bytes that a block for `c` items of size `s` and alignment
-- `a` requests.
abbrev pub memory_bytes : ℕ → ℕ → ℕ → ℕ
memory_bytes s a c = if has_padding s a c then (c + 2) * s else block_bytes s a c
