-- The slice of the middle items at `k - 1` and `k` is split into two slices of one item each.
use Rattle.std.proofs.Common.{◌+◌, ◌-◌, ◌++◌, ◌∷◌, ◌<◌, ◌≤◌, ap, sym, ◌∙◌, arith, length, refl, rules, suc}
use Rattle.std.proofs.lemmas.Grind.{common_steps}
use lib.ListN.{set}
use Rattle.thin_block.specs.Lends.{set_slots}
use Rattle.thin_vec.specs.OpenBlock.{open_view}
use Rattle.thin_vec.proofs.OpenBlockLemmas.{middle-filled}
use Rattle.thin_vec.proofs.open_block.WriteLemmas.{WrittenTwo, parts-of, write-two-step}
use Rattle.thin_vec.proofs.open_block.OpenBlock.test_pair.Goals as goal

pub slice_mut-requires-clause-filled : goal.slice_mut-requires-clause-filled
slice_mut-requires-clause-filled g c = λ j low high.
    let o = c.self.invariant in
    middle-filled c.self.inside (open_view c.self.inside) o j (omega (arith, low))
    (omega (arith, ap (λ v. length v.middle) c.self.view_is))

pub split_at_mut-kept-requires : goal.split_at_mut-kept-requires
split_at_mut-kept-requires g c = grind (arith, common_steps)

pub bounds-later-0 : goal.bounds-later-0
bounds-later-0 g c = grind (arith, common_steps)

facts : (g : _) (c : goal.After-self-3-1 g) → WrittenTwo c.self.inside c.self.invariant
    (c.args.k - 1)
    (set_slots c.self.inside.block (c.self.inside.middle_start + (c.args.k - 1))
    (set c.split_at_mut-kept.result.0.now 0 c.test.new.kept
    ++ set c.split_at_mut-kept.result.1.now 0 c.test.new.later)) c.index-kept-0.result
    c.index-later-0.result c.test.new.kept c.test.new.later
facts g c =
    let h = c.self.inside in
    let o = c.self.invariant in
    let parts = c.split_at_mut-kept in
    let at = h.middle_start + (c.args.k - 1) in
    let low : suc (c.args.k - 1) < length (open_view h).middle =
    omega (arith, ap (λ v. length v.middle) c.self.view_is) in
    let within : at + 2 ≤ length h.block.slots =
    omega (arith, ap (λ v. length v.middle) c.self.view_is) in
    let two = parts-of h.block.slots at c.slice_mut.result.now parts.result.0.now
    parts.result.1.now within c.slice_mut.ensures.value parts.ensures.value (search rules)
    c.test.new.kept c.test.new.later c.index-kept-0.is c.index-later-0.is in
    write-two-step h o _ refl (c.args.k - 1) c.test.new.kept c.test.new.later low two.0.first
    two.0.second two.1

pub invariant_of-self : goal.invariant_of-self
invariant_of-self g c = (facts g c).shown.lies

pub returns-clause-tested : goal.returns-clause-tested
returns-clause-tested g c =
    let f = facts g c in
    record {
      before = f.pre;
      kept = c.index-kept-0.result;
      left = c.test.new.kept;
      after = c.index-later-0.result ∷ f.post;
      end = c.test.new.later ∷ f.post;
      place = omega (arith, f.place, c.requires.nonzero);
      was = sym (ap (λ v. v.middle) c.self.view_is) ∙ f.was;
      asked = (c.test.new.later, search rules, refl);
      now = ap (λ v. v.middle) f.shown.view;
    }

pub returns-clause-changes : goal.returns-clause-changes
returns-clause-changes g c = let seen = (facts g c).shown.view in
    seen ∙ (λ i. record (c.self.view_is i) { middle = (sym seen i).middle })

pub returns-clause-count : goal.returns-clause-count
returns-clause-count g c =
    let f = facts g c in
    ap (λ v. length v.middle) f.shown.view ∙ (f.count ∙ ap (λ v. length v.middle) c.self.view_is)
