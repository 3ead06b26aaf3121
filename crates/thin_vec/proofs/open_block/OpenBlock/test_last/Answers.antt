-- The last front item is the last kept item. The test may change only this item in the block.
use Rattle.std.proofs.Common.{◌-◌, refl, ap, sym, ◌∙◌, arith, length}
use Rattle.thin_block.specs.Lends.{set_slot}
use Rattle.thin_vec.proofs.open_block.WriteLemmas.{WrittenLast, last-filled, write-last-step}
use Rattle.thin_vec.proofs.open_block.OpenBlock.test_last.Goals as goal

pub slot_mut-requires : goal.slot_mut-requires
slot_mut-requires g c =
    record {
      filled = last-filled c.self.inside c.self.invariant
          (omega (arith, c.requires.nonempty, ap (λ v. length v.front) c.self.view_is));
    }

facts : (g : _) (c : goal.After-self-1 g) → WrittenLast c.self.inside
    (set_slot c.self.inside.block (c.self.inside.front_end - 1) c.test.new.kept)
    c.slot_mut.result.now c.test.new.kept
facts g c =
    write-last-step c.self.inside c.self.invariant
    (set_slot c.self.inside.block (c.self.inside.front_end - 1) c.test.new.kept)
    c.test.new.kept
    (omega (arith, c.requires.nonempty, ap (λ v. length v.front) c.self.view_is))
    c.slot_mut.ensures.value refl

pub invariant_of-self : goal.invariant_of-self
invariant_of-self g c = (facts g c).shown.lies

pub returns-clause-tested : goal.returns-clause-tested
returns-clause-tested g c =
    let f = facts g c in
    record {
      before = f.pre;
      kept = c.slot_mut.result.now;
      kept_left = c.test.new.kept;
      was = sym (ap (λ v. v.front) c.self.view_is) ∙ f.was;
      asked = c.test.ensures.tested;
      now = ap (λ v. v.front) f.shown.view;
    }

pub returns-clause-changes : goal.returns-clause-changes
returns-clause-changes g c = let seen = (facts g c).shown.view in
    seen ∙ (λ i. record (c.self.view_is i) { front = (sym seen i).front })
