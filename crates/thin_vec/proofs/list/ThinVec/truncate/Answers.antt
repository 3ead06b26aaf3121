-- The loop drops the items from index `len` onward, one by one.
use Rattle.std.proofs.Common.{◌≡◌, ◌≤◌, sym, ap, ◌∙◌, length, take, arith, None}
use lib.ListN.{set}
use Rattle.thin_block.specs.Slots.{packed_slots, items_in}
use Rattle.thin_vec.proofs.list.InsertRemoveLemmas.{emptying, emptying-none, emptying-filled, emptying-take, emptying-all}
use Rattle.thin_vec.proofs.ListBlockLemmas.{RestoresInvariant, settled, thin-room}
use Rattle.std.proofs.lemmas.List.{length-take, length-take-le}
use Rattle.thin_vec.proofs.BoundsLemmas.{bounds-like, bounds-of}
use Rattle.thin_vec.proofs.list.ThinVec.truncate.Goals as goal

pub loop-i-init : goal.loop-i-init
loop-i-init g c =
    let same_slots = ap (λ v. packed_slots v.items v.capacity) c.self.view_is in
    let stored = c.store_len.ensures.changes in
    record {
      slots = ap (λ v. v.slots) stored
          ∙ (c.self.invariant.packed.slots
          ∙ (same_slots ∙ sym (emptying-none c.args.self.now.items c.args.len c.args.self.now.capacity)));
      len = ap (λ v. v.len) stored;
      from = λ x e. c.self.invariant.from x (sym (ap (λ v. v.alloc) stored) ∙ e);
      alloc = ap (λ v. v.alloc) c.self.view_is;
      cost = ap (λ v. v.cost) stored ∙ ap (λ v. v.cost) c.self.view_is;
    }

pub take-requires : goal.take-requires
take-requires g c =
    let n : c.len-old.result ≡ length c.args.self.now.items = c.len-old.ensures.value
    ∙ (c.self.invariant.packed.len ∙ ap (λ v. length v.items) c.self.view_is) in
    record {
      filled = rw c.loop-i.invariant.slots
          (emptying-filled c.args.self.now.items c.args.len c.loop-i.i c.args.self.now.capacity
          c.loop-i.auto.i (omega (arith, c.loop-i-test.true, n)));
    }

pub loop-i-preserved : goal.loop-i-preserved
loop-i-preserved g c =
    let n : c.len-old.result ≡ length c.args.self.now.items = c.len-old.ensures.value
    ∙ (c.self.invariant.packed.len ∙ ap (λ v. length v.items) c.self.view_is) in
    let h = c.loop-i.invariant in
    let took = c.take.ensures.changes in
    record {
      slots = ap (λ v. v.slots) took
          ∙ (ap (λ s. set s c.loop-i.i None) h.slots
          ∙ emptying-take c.args.self.now.items c.args.len c.loop-i.i c.args.self.now.capacity
          c.loop-i.auto.i (omega (arith, c.loop-i-test.true, n)));
      len = ap (λ v. v.len) took ∙ h.len;
      from = λ x e. h.from x (sym (ap (λ v. v.alloc) took) ∙ e);
      alloc = h.alloc;
      cost = ap (λ v. v.cost) took ∙ h.cost;
    }

facts : (g : _) (c : goal.After-loop-i g)
    → RestoresInvariant c.loop-i.self-inside.block c.loop-i.self-inside.alloc
    (take c.args.len c.args.self.now.items) c.args.self.now.capacity
facts g c =
    let v = c.args.self.now in
    let n : c.len-old.result ≡ length v.items = c.len-old.ensures.value
    ∙ (c.self.invariant.packed.len ∙ ap (λ v. length v.items) c.self.view_is) in
    let h = c.loop-i.invariant in
    let end : c.loop-i.i ≡ length v.items =
    omega (arith, n, c.loop-i-test.false, c.loop-i.auto.i-end, c.if-len-old.false) in
    let room : length v.items ≤ v.capacity =
    omega (
      arith,
      thin-room c.self.inside.block c.self.inside.alloc c.self.invariant,
      ap (λ w. length w.items) c.self.view_is,
      ap (λ w. w.capacity) c.self.view_is,
    ) in
    let order : c.args.len ≤ length v.items = omega (arith, n, c.if-len-old.false) in
    let few = length-take-le c.args.len v.items order in
    settled c.loop-i.self-inside.block c.loop-i.self-inside.alloc (take c.args.len v.items)
    v.capacity
    (h.slots ∙ (ap (λ k. emptying v.items c.args.len k v.capacity) end
    ∙ emptying-all v.items c.args.len v.capacity order room))
    (h.len ∙ sym few) (omega (arith, few, order, room)) h.from

pub invariant_of-self : goal.invariant_of-self
invariant_of-self g c = (facts g c).thin

pub returns-clause-items : goal.returns-clause-items
returns-clause-items g c = (facts g c).items

pub returns-then-len-old-clause-bounds : goal.returns-then-len-old-clause-bounds
returns-then-len-old-clause-bounds g c =
    let same = bounds-of _ _ _ _ c.self.invariant c.self.view_is c.len-old.ensures.bounds in
    (same, same)

pub returns-clause-bounds : goal.returns-clause-bounds
returns-clause-bounds g c =
    let before = bounds-of _ _ _ _ c.self.invariant c.self.view_is c.len-old.ensures.bounds in (
      before,
      bounds-like _ _ _ before (facts g c).cap
          (omega (
            arith,
            ap length (facts g c).items,
            length-take c.args.len c.args.self.now.items,
          )),
    )

pub returns-clause-changes : goal.returns-clause-changes
returns-clause-changes g c = λ i. record {
  items = items_in c.loop-i.self-inside.block.slots;
  capacity = (facts g c).cap i;
  alloc = c.loop-i.invariant.alloc i;
  cost = c.loop-i.invariant.cost i;
}
