-- The test may change the item in slot `middle_start + k`, and changes no other item in the block.
use Rattle.std.proofs.Common.{◌<◌, ◌+◌, ◌∷◌, refl, ap, sym, ◌∙◌, arith, length}
use Rattle.thin_block.specs.Lends.{set_slot}
use Rattle.thin_vec.specs.OpenBlock.{open_view}
use Rattle.thin_vec.proofs.OpenBlockLemmas.{middle-filled}
use Rattle.thin_vec.proofs.open_block.MiddleLemmas.{Written, write-step}
use Rattle.thin_vec.proofs.open_block.OpenBlock.test.Goals as goal

pub slot_mut-requires : goal.slot_mut-requires
slot_mut-requires g c =
    let h = c.self.inside in
    let o = c.self.invariant in
    record {
      filled = middle-filled h (open_view h) o (h.middle_start + c.args.k) (omega arith)
          (omega (arith, o.middle, c.requires.in_bounds, ap (λ v. length v.middle) c.self.view_is));
    }

low : (g : _) (c : goal.After-self-1 g) → c.args.k < length (open_view c.self.inside).middle
low g c = omega (arith, c.requires.in_bounds, ap (λ v. length v.middle) c.self.view_is)

facts : (g : _) (c : goal.After-self-1 g) → Written c.self.inside c.self.invariant
    (set_slot c.self.inside.block (c.self.inside.middle_start + c.args.k) c.test.new.item)
    c.args.k (low g c) c.slot_mut.result.now c.test.new.item
facts g c = write-step c.self.inside c.self.invariant
    (set_slot c.self.inside.block (c.self.inside.middle_start + c.args.k) c.test.new.item)
    c.args.k (low g c) c.slot_mut.result.now c.test.new.item c.slot_mut.ensures.value refl

pub invariant_of-self : goal.invariant_of-self
invariant_of-self g c = (facts g c).shown.lies

pub returns-clause-tested : goal.returns-clause-tested
returns-clause-tested g c =
    let f = facts g c in
    record {
      before = f.pre;
      after = c.slot_mut.result.now ∷ f.post;
      end = c.test.new.item ∷ f.post;
      place = f.place;
      was = sym (ap (λ v. v.middle) c.self.view_is) ∙ f.was;
      asked = (c.test.new.item, c.test.ensures.tested, refl);
      now = ap (λ v. v.middle) f.shown.view;
    }

pub returns-clause-changes : goal.returns-clause-changes
returns-clause-changes g c = let seen = (facts g c).shown.view in
    seen ∙ (λ i. record (c.self.view_is i) { middle = (sym seen i).middle })

pub returns-clause-count : goal.returns-clause-count
returns-clause-count g c =
    let f = facts g c in
    ap (λ v. length v.middle) f.shown.view ∙ (f.count ∙ ap (λ v. length v.middle) c.self.view_is)
