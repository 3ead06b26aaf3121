-- `next_multiple` multiplies `cap` by `times`. If the product exceeds `usize::MAX`, the function
-- uses `usize::MAX` instead. This does not change the result. For both numbers, a block of this
-- capacity is too large to be allocated, so the result is `None`.
use Rattle.std.proofs.Common.{◌≡◌, ℕ, ◌-◌, ◌*◌, ◌≤◌, ◌^◌, Some, inl, inr, max, min, mul_comm, refl, sym, ap, ◌∙◌, arith}
use Rattle.std.proofs.lemmas.Bool.{cases_lt, false≢true}
use Rattle.std.specs.Mem.{type_size}
use Rattle.std.specs.Align.{type_align}
use denote.Param.{param}
use denote.RattleType.{RattleType}
use Rattle.thin_block.specs.Capacity.{Fits}
use Rattle.thin_block.specs.Growth.{checked_capacity}
use Rattle.thin_block.proofs.CapacityLemmas.{fits-small, fitting-none}
use Rattle.thin_testing.specs.Multiples.{multiple}
use Rattle.thin_testing.proofs.multiples.next_multiple.Goals as goal

module _ (R : RattleType) where
  fitting_some : (n : ℕ) → Fits R n → checked_capacity (type_size R) (type_align R) n ≡ Some n
  unfolding checked_capacity
  fitting_some n fit = rw fit refl

  past : (n m : ℕ) → 2 ^ 63 ≤ n → 2 ^ 63 ≤ m → checked_capacity (type_size R) (type_align R) n
      ≡ checked_capacity (type_size R) (type_align R) m
  past n m large larger =
      fitting-none R n (λ fit. absurd (omega (arith, large, fits-small R n fit)))
      ∙ sym (fitting-none R m (λ fit. absurd (omega (arith, larger, fits-small R m fit))))

  module _ (times c w next : ℕ) (is : next ≡ max w (min (c * times) (2 ^ 64 - 1))) where
    same : checked_capacity (type_size R) (type_align R) next
        ≡ multiple times (type_size R) (type_align R) c w
    unfolding multiple
    same =
        let turned : c * times ≡ times * c = mul_comm c times in
        elim (cases_lt (times * c) (2 ^ 64)) [
          | inl few ↦ ap (checked_capacity (type_size R) (type_align R))
              (omega (arith, is, turned, few))
          | inr many ↦ past next (max w (times * c)) (omega (arith, is, turned, many))
              (omega (arith, many))
        ]

pub returns-then-fits : goal.returns-then-fits
returns-then-fits g c =
    let R = param 0 g.row.T in
    let next = c.max-next.ensures ∙ ap (max c.args.want) c.saturating_mul.ensures in
    record {
      value = sym (fitting_some R c.max-next.result (c.fits.ensures.value.0 c.if-fits.true))
          ∙ same R c.args.times c.args.cap c.args.want c.max-next.result next;
    }

pub returns-else-fits : goal.returns-else-fits
returns-else-fits g c =
    let R = param 0 g.row.T in
    let next = c.max-next.ensures ∙ ap (max c.args.want) c.saturating_mul.ensures in
    let never : Fits R c.max-next.result → ⊥ =
    λ fit. false≢true (sym c.if-fits.false ∙ c.fits.ensures.value.1 fit) in
    record {
      value = sym (fitting-none R c.max-next.result never)
          ∙ same R c.args.times c.args.cap c.args.want c.max-next.result next;
    }
