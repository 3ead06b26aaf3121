-- This file defines growth rules, which choose the new capacity of a list, and the law that every
-- growth rule must satisfy.
use Rattle.std.specs.Prelude.{◌≡◌, ℕ, ◌+◌, ◌-◌, ◌*◌, ◌/◌, ◌^◌, ◌<◌, ◌≤◌, ◌==◌, IsTrue, Option, if◌then◌else◌, max, nat_le, nat_lt}
use Rattle.std.specs.declared.option.Option.TheVariants.{Some, None}
use Rattle.std.specs.Mem.{type_size}
use Rattle.std.specs.Align.{type_align}
use denote.RattleType.{RattleType}
use Rattle.std.specs.Int.{IsPowerOfTwo}
use Rattle.thin_block.specs.Capacity.{fits, min_non_zero_cap, items_offset, least_power}

-- `GrowthRule` is the type of growth rules. A rule maps the size of an item, its alignment, the old
-- capacity and the required capacity to the new capacity. It returns `None` if it chooses none,
-- because this capacity would be too large or for a reason of its own.
abbrev pub GrowthRule : Type 0
GrowthRule = ℕ → ℕ → ℕ → ℕ → Option ℕ

-- `IsValidGrowth s a c want n` holds if a block for items of size `s` and alignment `a` may grow
-- from the capacity `c` to the capacity `n` in order to hold `want` items.
pub record IsValidGrowth (s a c want n : ℕ) : Type 0 where
  pub enough : want ≤ n
  pub doubled : 2 * c ≤ n
  pub fits : IsTrue (fits s a n)

-- `GrowsValidly R c want n` is `IsValidGrowth` for items of the type `R`.
abbrev pub GrowsValidly : RattleType → ℕ → ℕ → ℕ → Type 0
GrowsValidly R c want n = IsValidGrowth (type_size R) (type_align R) c want n

-- `IsLawful rule` holds if each capacity that `rule` chooses, for a required capacity above the old
-- one and below 2^64, is at least the required capacity, at least twice the old capacity, and small
-- enough to be allocated.
abbrev pub IsLawful : GrowthRule → Type 0
IsLawful rule = (s a c want n : ℕ) → c < want → want < 2 ^ 64 → rule s a c want ≡ Some n
    → IsValidGrowth s a c want n

-- `checked_capacity s a n` is `Some n` if a block for `n` items of size `s` and alignment `a` is
-- small enough to be allocated, and `None` otherwise.
unfoldable pub checked_capacity : ℕ → ℕ → ℕ → Option ℕ
checked_capacity s a n = if fits s a n then Some n else None

-- `doubling` is the growth rule `Doubling`. It chooses the greater of two numbers: the required
-- capacity, and twice the old capacity. If the old capacity is 0, the second number is
-- `min_non_zero_cap` instead. `reserve` in the Rust crate thin-vec uses the same rule.
unfoldable pub doubling : GrowthRule
doubling s a c want =
    checked_capacity s a (max want (if c == 0 then min_non_zero_cap s else 2 * c))

-- `power_bytes` is the growth rule `PowerBytes`. It rounds the size of a block up to a power of
-- two, and chooses the greatest capacity for which a block fits into the rounded size. For items of
-- size 0, the rule is the same as `doubling`.
unfoldable pub power_bytes : GrowthRule
power_bytes s a c want = if s == 0 then doubling s a c want else checked_capacity s a
    ((least_power (items_offset a + max want (2 * c) * s) - items_offset a) / s)

-- `FillsPowerOfTwo s a c` holds if, for some power of two `p`, the header and `c` items fit into
-- `p` bytes, but the header and `c + 1` items do not. Items have the size `s` and the alignment
-- `a`.
pub record FillsPowerOfTwo (s a c : ℕ) : Type 0 where
  pub power : ℕ
  pub is_power : IsPowerOfTwo power
  pub holds : items_offset a + c * s ≤ power
  pub is_full : power < items_offset a + (c + 1) * s

-- `grown_capacity rule s a c want` is the capacity of a block for items of size `s` and alignment
-- `a` after reserving room for `want` items in total under the growth rule `rule`. The old capacity
-- is `c`. If the rule chooses no capacity, the result is `None`.
unfoldable pub grown_capacity : GrowthRule → ℕ → ℕ → ℕ → ℕ → Option ℕ
grown_capacity rule s a c want = if nat_le want c then Some c else
    (if nat_lt want (2 ^ 64) then rule s a c want else None)

-- `exact_capacity s a c want` is the capacity of a block for items of size `s` and alignment `a`
-- after reserving room for exactly `want` items in total. The old capacity is `c`. If the new block
-- would be too large, the result is `None`.
unfoldable pub exact_capacity : ℕ → ℕ → ℕ → ℕ → Option ℕ
exact_capacity s a c want = if nat_le want c then Some c else checked_capacity s a want
