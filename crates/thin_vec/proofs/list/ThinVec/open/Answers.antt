-- `open` splits the items into front, middle and tail items, without moving any item.
use Rattle.std.proofs.Common.{◌≡◌, ◌≤◌, ap, sym, ◌∙◌, subst, arith, drop, length, take, rules}
use Rattle.std.specs.Prelude.{slice_range}
use Rattle.thin_block.specs.Slots.{items_in}
use Rattle.thin_vec.specs.ThinVec.{IsListBlock}
use Rattle.thin_vec.proofs.ListBlockLemmas.{list_view-becomes}
use Rattle.thin_vec.proofs.OpenBlockLemmas.{Found}
use Rattle.thin_vec.proofs.BoundsLemmas.{bounds-of}
use Rattle.thin_vec.proofs.open_block.StepLemmas.{open-step, opened, opened-view}
use Rattle.thin_vec.proofs.list.ThinVec.open.Goals as goal

was : (g : _) (c : goal.After-replace-block g)
    → IsListBlock c.replace-block.result c.self.inside.alloc
was g c = subst (λ b. IsListBlock b c.self.inside.alloc)
    (sym c.replace-block.ensures.value) c.self.invariant

same : (g : _) (c : goal.After-replace-block g) → items_in c.replace-block.result.slots
    ≡ c.args.self.now.items
same g c = ap (λ b. items_in b.slots) c.replace-block.ensures.value
    ∙ ap (λ v. v.items) c.self.view_is

facts : (g : _) (c : goal.After-replace-block g)
    → let within : c.args.end ≤ length (items_in c.replace-block.result.slots) =
    omega (arith, c.requires.in_bounds, ap length (same g c)) in
    Found (opened c.replace-block.result c.self.inside.alloc c.args.start c.args.end (was g c)
    c.requires.start_le_end within c.len-len.result)
    (opened-view c.replace-block.result c.self.inside.alloc c.args.start c.args.end (was g c)
    c.requires.start_le_end within)
facts g c =
    let within : c.args.end ≤ length (items_in c.replace-block.result.slots) =
    omega (arith, c.requires.in_bounds, ap length (same g c)) in
    open-step c.replace-block.result c.self.inside.alloc c.args.start c.args.end (was g c)
    c.requires.start_le_end within c.len-len.result
    (c.len-len.ensures.value
    ∙ (c.self.invariant.packed.len
    ∙ sym (ap (λ b. length (items_in b.slots)) c.replace-block.ensures.value)))

pub invariant_of-result : goal.invariant_of-result
invariant_of-result g c = (facts g c).lies

pub returns-clause-front : goal.returns-clause-front
returns-clause-front g c = ap (λ v. v.front) (facts g c).view
    ∙ ap (λ xs. take c.args.start xs) (same g c)

pub returns-clause-middle : goal.returns-clause-middle
returns-clause-middle g c = ap (λ v. v.middle) (facts g c).view
    ∙ ap (λ xs. slice_range xs c.args.start c.args.end) (same g c)

pub returns-clause-tail : goal.returns-clause-tail
returns-clause-tail g c = ap (λ v. v.tail) (facts g c).view
    ∙ ap (λ xs. drop c.args.end xs) (same g c)

pub returns-clause-changes : goal.returns-clause-changes
returns-clause-changes g c =
    let none = ap (λ b. b.slots) c.replace-block.ensures.after
    ∙ ap (λ v. v.slots) c.none.ensures.new in
    list_view-becomes c.self.view_is c.replace-block.new.dest (ap length none) (ap items_in none)
    (search rules)

pub returns-clause-bounds_before : goal.returns-clause-bounds_before
returns-clause-bounds_before g c =
    bounds-of _ _ _ _ c.self.invariant c.self.view_is c.len-len.ensures.bounds
