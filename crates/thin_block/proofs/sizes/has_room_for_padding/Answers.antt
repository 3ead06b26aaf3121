-- The product that `has_room_for_padding` computes does not exceed `usize::MAX`, since a block of
-- this capacity is small enough to be allocated. The result is the value of the definition in
-- specs/Capacity.antt, although the code caps the item size at `usize::MAX`.
use Rattle.std.proofs.Common.{◌≡◌, ◌*◌, ap, ◌∙◌, arith}
use Rattle.std.specs.Mem.{type_size}
use Rattle.thin_block.proofs.CapacityLemmas.{fits-bytes}
use Rattle.thin_block.proofs.padded.PaddedLemmas.{room_is}
use Rattle.thin_block.proofs.sizes.SizesLemmas.{capped_product}
use denote.Param.{param}
use Rattle.thin_block.proofs.sizes.has_room_for_padding.Goals as goal

pub overflow_mul-items : goal.overflow_mul-items
overflow_mul-items g c =
    let R = param 0 g.row.T in
    let low = fits-bytes R c.args.cap c.requires in
    let same : c.args.cap * c.item_size-size.result ≡ c.args.cap * type_size R =
    ap (λ k. c.args.cap * k) c.item_size-size.ensures.value
    ∙ capped_product c.args.cap (type_size R) low in
    record { fits = omega (arith, low, same) }

pub returns : goal.returns
returns g c =
    let R = param 0 g.row.T in
    let same : c.args.cap * c.item_size-size.result ≡ c.args.cap * type_size R =
    ap (λ k. c.args.cap * k) c.item_size-size.ensures.value
    ∙ capped_product c.args.cap (type_size R) (fits-bytes R c.args.cap c.requires) in
    let told = c.next_power_of_two.ensures in
    record {
      value = room_is R c.args.cap c.item_size-size.result c.next_power_of_two.result
          c.item_size-size.ensures.value same c.if-items.false
          (told.power, told.lower_bound, told.upper_bound);
    }
