-- The test may change the first middle item, and changes no other item in the block.
use Rattle.thin_block.proofs.BlockLemmas.{slots-are}
use Rattle.std.proofs.Common.{◌≡◌, ◌<◌, ◌+◌, refl, ap, sym, ◌∙◌, arith, length, ◌++◌, ◌∷◌, Some}
use Rattle.thin_vec.specs.OpenBlock.{open_view}
use lib.ListN.{set}
use Rattle.thin_block.specs.Lends.{set_slot}
use Rattle.thin_block.specs.Slots.{slot}
use Rattle.std.proofs.lemmas.List.{nil_from_length}
use Rattle.thin_vec.proofs.OpenBlockLemmas.{middle-filled}
use Rattle.thin_vec.proofs.open_block.MiddleLemmas.{Written, write-step}
use Rattle.thin_vec.proofs.open_block.OpenBlock.test_next.Goals as goal

pub slot_mut-requires : goal.slot_mut-requires
slot_mut-requires g c =
    let h = c.self.inside in
    let o = c.self.invariant in
    record {
      filled = middle-filled h (open_view h) o h.middle_start (omega arith)
          (omega (arith, o.middle, c.requires.nonempty, ap (λ v. length v.middle) c.self.view_is));
    }

low : (g : _) (c : goal.After-self-1 g) → 0 < length (open_view c.self.inside).middle
low g c = omega (arith, c.requires.nonempty, ap (λ v. length v.middle) c.self.view_is)

facts : (g : _) (c : goal.After-self-1 g) → Written c.self.inside c.self.invariant
    (set_slot c.self.inside.block c.self.inside.middle_start c.test.new.later) 0 (low g c)
    c.slot_mut.result.now c.test.new.later
facts g c =
    let h = c.self.inside in
    let here : h.middle_start ≡ h.middle_start + 0 = omega arith in
    write-step h c.self.invariant (set_slot h.block h.middle_start c.test.new.later) 0 (low g c)
    c.slot_mut.result.now c.test.new.later
    (ap (λ n. slot h.block.slots n) (sym here) ∙ c.slot_mut.ensures.value)
    (slots-are refl (ap (λ n. set h.block.slots n (Some c.test.new.later)) here))

pub invariant_of-self : goal.invariant_of-self
invariant_of-self g c = (facts g c).shown.lies

pub returns-clause-tested : goal.returns-clause-tested
returns-clause-tested g c =
    let f = facts g c in
    let none = nil_from_length f.pre f.place in
    rw (sym (ap (λ v. v.middle) c.self.view_is)
    ∙ (f.was ∙ ap (λ l. l ++ c.slot_mut.result.now ∷ f.post) none)) (
      c.test.new.later,
      c.test.ensures.tested,
      ap (λ v. v.middle) f.shown.view ∙ ap (λ l. l ++ c.test.new.later ∷ f.post) none,
    )

pub returns-clause-count : goal.returns-clause-count
returns-clause-count g c =
    let f = facts g c in
    ap (λ v. length v.middle) f.shown.view ∙ (f.count ∙ ap (λ v. length v.middle) c.self.view_is)

pub returns-clause-changes : goal.returns-clause-changes
returns-clause-changes g c = let seen = (facts g c).shown.view in
    seen ∙ (λ i. record (c.self.view_is i) { middle = (sym seen i).middle })
