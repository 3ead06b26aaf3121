-- This file proves that `fits` returns true if and only if `Fits` holds, that is, if a block of the
-- given capacity is small enough to be allocated.
use Rattle.std.proofs.Common.{◌≡◌, ℕ, ◌-◌, ◌*◌, ◌/◌, ◌^◌, ◌<◌, true, refl, sym, ap, ◌∙◌, arith, leb}
use native.Mathlib.Nat.{mul-zero}
use borrow.Author.Tests.{leb-true, le-leb}
use prog.Memory.{capped}
use denote.Param.{param}
use denote.RattleType.{RattleType}
use Rattle.std.specs.Align.{type_align}
use Rattle.std.specs.Mem.{type_size}
use Rattle.thin_block.specs.Capacity.{block_align, Fits}
use Rattle.thin_block.proofs.sizes.SizesLemmas.{fits_yes, fits_tells, divided, dividing, rounded}
use Rattle.thin_block.proofs.sizes.SizesLemmas.{whole_product, positive}
use Rattle.thin_block.proofs.sizes.fits.Goals as goal

nothing : (R : RattleType) (c size : ℕ) → size ≡ capped (type_size R)
    → size ≡ 0 → c * type_size R ≡ 0
nothing R c size is none =
    let gone : capped (type_size R) ≡ 0 = sym is ∙ none in
    let zeroed : c * capped (type_size R) ≡ 0 = ap (λ (k : ℕ). c * k) gone ∙ mul-zero c in
    whole_product c (type_size R) (omega arith) ∙ zeroed

pub returns-then-cap : goal.returns-then-cap
returns-then-cap g c =
    record {
      value = (
        λ no. cc,
        λ fits. let few = (fits_tells (param 0 g.row.T) c.args.cap
            fits).few in absurd (omega arith),
      );
    }

pub returns-then-size-eq0 : goal.returns-then-size-eq0
returns-then-size-eq0 g c =
    let about = rounded (param 0 g.row.T) 0 in
    let none = nothing (param 0 g.row.T) c.args.cap c.item_size-size.result
    c.item_size-size.ensures.value c.if-size-eq0.true in
    record {
      value = (
        λ yes. fits_yes (param 0 g.row.T) c.args.cap (omega arith) (omega arith),
        λ fits. refl,
      );
    }

pub overflow_sub-result : goal.overflow_sub-result
overflow_sub-result g c = let about = rounded (param 0 g.row.T) 0 in omega arith

pub overflow_sub-result-2 : goal.overflow_sub-result-2
overflow_sub-result-2 g c = let about = rounded (param 0 g.row.T) 0 in omega arith

same_limit : (R : RattleType) (c size align : ℕ) → align ≡ block_align (type_align R)
    → leb c ((2 ^ 63 - align - 16) / size) ≡ leb c
    ((2 ^ 63 - block_align (type_align R) - 16) / size)
same_limit R c size align is = ap (λ (a : ℕ). leb c ((2 ^ 63 - a - 16) / size)) is

by_division : (R : RattleType) (c size align : ℕ) → align ≡ block_align (type_align R)
    → size ≡ capped (type_size R) → 0 < size → c < 2 ^ 63
    → (leb c ((2 ^ 63 - align - 16) / size) ≡ true → Fits R c)
    × (Fits R c → leb c ((2 ^ 63 - align - 16) / size) ≡ true)
by_division R c size align is_align is some few =
    let limit = same_limit R c size align is_align in (
      λ yes. fits_yes R c few
          (divided R c size is some
          (leb-true c ((2 ^ 63 - block_align (type_align R) - 16) / size) (sym limit ∙ yes))),
      λ fits. limit ∙ le-leb c ((2 ^ 63 - block_align (type_align R) - 16) / size)
          (dividing R c size is some (fits_tells R c fits).room),
    )

pub returns : goal.returns
returns g c =
    let some = positive c.item_size-size.result c.if-size-eq0.false in
    record {
      value = by_division (param 0 g.row.T) c.args.cap c.item_size-size.result
          c.block_align.result c.block_align.ensures.value c.item_size-size.ensures.value some
          (omega arith);
    }
