-- This file proves that `next_capacity` returns the capacity that the rule `power_bytes` chooses,
-- although the code caps sizes and capacities at `usize::MAX`, and that blocks of this capacity are
-- not padded.
use Rattle.std.proofs.Common.{◌≡◌, ◌+◌, ◌*◌, ◌^◌, ◌<◌, ◌≤◌, ◌∙◌, ap, arith, max, subst, sym}
use denote.Param.{param}
use Rattle.std.specs.Align.{type_align}
use Rattle.std.specs.Mem.{type_size}
use Rattle.thin_block.specs.Capacity.{least_power}
use Rattle.thin_block.specs.PowerLaws.{least_power_is, one_least_power, powers_of_none}
use Rattle.thin_block.proofs.growth.PowersLemmas.{each_fills, each_unpadded, power_is, power_past}
use Rattle.thin_block.proofs.growth.PowersLemmas.{takes_none}
use Rattle.thin_block.proofs.growth.power_bytes.PowerBytesGrowth.next_capacity.Goals as goal
use Rattle.thin_block.proofs.sizes.SizesLemmas.{positive}

pub returns-then-size-eq0 : goal.returns-then-size-eq0
returns-then-size-eq0 g c =
    let R = param 0 g.row.T in
    let none = takes_none (type_size R) _ c.item_size-size.ensures.value c.if-size-eq0.true in
    let value = c.next_capacity.ensures.value
    ∙ sym (powers_of_none (type_size R) (type_align R) c.args.cap c.args.want none) in
    record {
      value = value;
      capacity = λ some. absurd (omega (arith, some, none));
      unpadded = each_unpadded (type_size R) (type_align R) c.args.cap c.args.want
          c.next_capacity.result value;
    }

pub returns-then-bytes-clause-value : goal.returns-then-bytes-clause-value
returns-then-bytes-clause-value g c =
    let R = param 0 g.row.T in
    let items = c.max-items.ensures ∙ ap (max c.args.want) c.saturating_mul.ensures in
    let size = c.item_size-size.result in
    let some : 0 < size = positive size c.if-size-eq0.false in
    let sum : 2 ^ 63 < 16 + c.max-items.result * size =
    omega (arith, c.saturating_mul-2.ensures, c.saturating_add-bytes.ensures, c.if-bytes.true) in
    let large = subst (λ k. 2 ^ 63 < 16 + k * size) items sum in
    power_past R c.args.cap c.args.want size c.item_size-size.ensures.value some c.requires large

pub returns : goal.returns
returns g c =
    let R = param 0 g.row.T in
    let items = c.max-items.ensures ∙ ap (max c.args.want) c.saturating_mul.ensures in
    let size = c.item_size-size.result in
    let some : 0 < size = positive size c.if-size-eq0.false in
    let bytes = c.saturating_add-bytes.result in
    let sum : bytes ≡ 16 + c.max-items.result * size =
    omega (arith, c.saturating_mul-2.ensures, c.saturating_add-bytes.ensures, c.if-bytes.false) in
    let whole = subst (λ k. bytes ≡ 16 + k * size) items sum in
    let small = subst (λ n. n ≤ 2 ^ 63) whole (omega (arith, c.if-bytes.false)) in
    let told = c.next_power_of_two.ensures in
    let power = one_least_power bytes c.next_power_of_two.result (least_power bytes)
    (told.power, told.lower_bound, told.upper_bound) (least_power_is bytes)
    ∙ ap least_power whole in
    let value = c.checked_capacity.ensures.value
    ∙ power_is R c.args.cap c.args.want size c.item_size-size.ensures.value some c.requires
    small c.next_power_of_two.result power in
    record {
      value = value;
      capacity = each_fills (type_size R) (type_align R) c.args.cap c.args.want
          c.checked_capacity.result value;
      unpadded = each_unpadded (type_size R) (type_align R) c.args.cap c.args.want
          c.checked_capacity.result value;
    }
