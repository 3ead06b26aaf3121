-- This file proves that `resize` moves items only out of filled slots, and that all slots of the
-- old block are empty when `resize` frees it.
use Rattle.std.proofs.Common.{◌≡◌, ℕ, length, sym, ap, ◌∙◌, arith, rules}
use Rattle.std.specs.declared.option.Option.TheVariants.{None}
use Rattle.std.proofs.lemmas.List.{length-replicate}
use Rattle.thin_block.specs.Slots.{empty_slots, clear_slots, slot}
use Rattle.thin_block.proofs.SlotsLemmas.{bare-long, empty-slot, packed-filled, packed-emptied}
use Rattle.thin_block.proofs.block.Block.resize.Goals as goal

-- A call with a ghost argument has one goal for all that it requires, in the order of the clauses.
pub move_items_to-requires : goal.move_items_to-requires
move_items_to-requires g c κs within =
    let old = c.args.self.now in
    let made = ap (λ v. v.slots) c.in_ok-other-in_default.ensures.ok in (
      search rules,
      (
        search rules,
        (
          search rules,
          (
            search rules,
            (
              omega (
                arith,
                ap length made,
                bare-long g.row.T.Denot c.args.cap,
                c.requires.len,
                c.requires.len_le_cap,
              ),
              (
                (λ i p q. packed-filled old.slots old.len c.requires.packed i (omega arith)),
                (
                  (λ i p q. ap (λ s. slot s i) made ∙ empty-slot c.args.cap i),
                  ((λ _. c.requires.len), search rules),
                ),
              ),
            ),
          ),
        ),
      ),
    )

pub free-requires-clause-empty : goal.free-requires-clause-empty
free-requires-clause-empty g c =
    let old = c.args.self.now.slots in
    let left : c.replace-emptied.result.slots ≡ empty_slots (length old) =
    ap (λ b. b.slots) c.replace-emptied.ensures.value
    ∙ (ap (λ v. v.slots) c.move_items_to.ensures.changes
    ∙ (ap (λ (k : ℕ). clear_slots 0 k old) c.requires.len
    ∙ packed-emptied old c.args.self.now.len c.requires.packed)) in
    left ∙ ap (λ (k : ℕ). empty_slots k) (sym (ap length left ∙ length-replicate (length old) None))
