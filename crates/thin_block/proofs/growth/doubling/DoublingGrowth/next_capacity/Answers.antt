-- This file proves that `next_capacity` returns the capacity that the rule `doubling` chooses,
-- although the code caps the doubled capacity at `usize::MAX`.
use Rattle.std.proofs.Common.{◌≡◌, ℕ, ◌*◌, ◌-◌, ◌^◌, ◌∙◌, ap, min}
use denote.Param.{param}
use Rattle.std.specs.Align.{type_align}
use Rattle.std.specs.Mem.{type_size}
use Rattle.thin_block.specs.Capacity.{min_non_zero_cap}
use Rattle.thin_block.specs.Growth.{checked_capacity}
use Rattle.thin_block.proofs.growth.doubling.DoublingGrowth.next_capacity.Goals.{then-cap-eq0}
use Rattle.thin_block.proofs.growth.doubling.DoublingGrowth.next_capacity.Goals.{else-cap-eq0}
use Rattle.thin_block.proofs.growth.doubling.DoublingGrowth.next_capacity.Goals as goal
use Rattle.thin_block.proofs.sizes.SizesLemmas.{doubling_is}

pub returns : goal.returns
returns g c =
    let s : ℕ = type_size (param 1 g.row.T) in
    let a : ℕ = type_align (param 1 g.row.T) in
    let none : c.args.cap ≡ 0 → c.if-cap-eq0.doubled ≡ min_non_zero_cap s =
    elim c.if-cap-eq0.branch [
      | then-cap-eq0 w ↦ λ _. w.doubled-is ∙ w.first_capacity-doubled.ensures.value
      | else-cap-eq0 w ↦ λ zeroed. absurd (w.if-cap-eq0.false zeroed)
    ] in
    let some : (c.args.cap ≡ 0 → ⊥) → c.if-cap-eq0.doubled ≡ min (c.args.cap * 2) (2 ^ 64 - 1) =
    elim c.if-cap-eq0.branch [
      | then-cap-eq0 w ↦ λ never. absurd (never w.if-cap-eq0.true)
      | else-cap-eq0 w ↦ λ _. w.doubled-is ∙ w.saturating_mul-doubled.ensures
    ] in
    record {
      value = c.checked_capacity.ensures.value
          ∙ (ap (checked_capacity s a) c.max.ensures
          ∙ doubling_is s a c.args.cap c.args.want c.if-cap-eq0.doubled c.requires none some);
    }
