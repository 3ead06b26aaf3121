-- If a block of the given capacity is small enough to be allocated, then no sum or product that
-- `block_bytes` computes exceeds `usize::MAX`.
use Rattle.std.proofs.Common.{◌≡◌, ℕ, ◌+◌, ◌*◌, ◌^◌, ◌<◌, ap, ◌∙◌, arith}
use Rattle.std.specs.Mem.{type_size}
use Rattle.std.specs.Align.{type_align}
use Rattle.std.specs.Int.{next_multiple_of}
use Rattle.thin_block.specs.Capacity.{items_offset, block_bytes, Fits}
use Rattle.thin_block.proofs.sizes.SizesLemmas.{fits_tells, rounded, capped_product}
use prog.Memory.{capped}
use denote.Param.{param}
use denote.RattleType.{RattleType}
use Rattle.thin_block.proofs.sizes.block_bytes.Goals as goal

summed : (R : RattleType) (c size : ℕ) → Fits R c → size ≡ capped (type_size R)
    → 16 + c * size ≡ items_offset (type_align R) + c * type_size R
summed R c size fits is =
    let room = (fits_tells R c fits).room in
    let start = (rounded R 0).offset in
    let same : c * size ≡ c * type_size R = ap (λ (k : ℕ). c * k) is
    ∙ capped_product c (type_size R) (omega arith) in
    omega arith

low : (R : RattleType) (c size : ℕ) → Fits R c → size ≡ capped (type_size R)
    → 16 + c * size < 2 ^ 63
low R c size fits is =
    let told = fits_tells R c fits in
    let start = (rounded R 0).offset in
    let sum = summed R c size fits is in
    omega arith

pub overflow_mul-cap : goal.overflow_mul-cap
overflow_mul-cap g c =
    let small = low (param 0 g.row.T) c.args.cap c.item_size.result c.requires
    c.item_size.ensures.value in
    record { fits = omega arith }

pub overflow_add-cap : goal.overflow_add-cap
overflow_add-cap g c =
    let small = low (param 0 g.row.T) c.args.cap c.item_size.result c.requires
    c.item_size.ensures.value in
    record { fits = omega arith }

pub next_multiple_of-requires-clause-fits : goal.next_multiple_of-requires-clause-fits
next_multiple_of-requires-clause-fits g c =
    let short = (fits_tells (param 0 g.row.T) c.args.cap
    c.requires).short in
    let sum = summed (param 0 g.row.T) c.args.cap c.item_size.result c.requires
    c.item_size.ensures.value in
    let value : next_multiple_of (16 + c.args.cap * c.item_size.result) c.block_align.result
    ≡ block_bytes (type_size (param 0 g.row.T)) (type_align (param 0 g.row.T)) c.args.cap =
    (λ i. next_multiple_of (sum i) (c.block_align.ensures.value i)) in
    omega arith

pub returns : goal.returns
returns g c =
    let sum = summed (param 0 g.row.T) c.args.cap c.item_size.result c.requires
    c.item_size.ensures.value in
    record {
      value = c.next_multiple_of.ensures.value
          ∙ (λ i. next_multiple_of (sum i) (c.block_align.ensures.value i));
    }
