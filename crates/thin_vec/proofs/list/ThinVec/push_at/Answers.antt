-- `put_and_set_len` writes `value` into the slot directly after the last item.
use Rattle.std.proofs.Common.{◌≡◌, ◌++◌, ◌∷◌, [], ap, ◌∙◌, length, arith, refl, subst, sym}
use Rattle.std.proofs.lemmas.List.{length_push}
use Rattle.thin_block.specs.Capacity.{Fits}
use Rattle.thin_block.specs.Slots.{items_in}
use Rattle.thin_vec.proofs.ListBlockLemmas.{RestoresInvariant, restores-push}
use Rattle.thin_vec.proofs.list.ReservesLemmas.{keeps-settled}
use denote.Param.{param}
use Rattle.thin_vec.proofs.list.ThinVec.push_at.Goals as goal

stored-len : (g : _) (c : goal.After-put_and_set_len g) → c.args.len ≡ c.self.inside.block.len
stored-len g c = omega (
  arith,
  c.requires.len,
  c.self.invariant.packed.len,
  ap (λ v. length v.items) c.self.view_is,
)

facts : (g : _) (c : goal.After-put_and_set_len g)
    → RestoresInvariant c.put_and_set_len.new.self c.self.inside.alloc
    (items_in c.self.inside.block.slots ++ c.args.value ∷ []) (length c.self.inside.block.slots)
facts g c =
    restores-push c.self.invariant c.put_and_set_len.new.self c.args.value c.args.len
    (stored-len g c)
    (omega (
      arith,
      c.requires.len,
      c.requires.room,
      ap (λ v. v.capacity) c.self.view_is,
    ))
    c.put_and_set_len.ensures.changes

pub invariant_of-self : goal.invariant_of-self
invariant_of-self g c = (facts g c).thin

pub returns-clause-items : goal.returns-clause-items
returns-clause-items g c = (facts g c).items ∙ ap (λ v. v.items ++ c.args.value ∷ []) c.self.view_is

pub returns-clause-len : goal.returns-clause-len
returns-clause-len g c = ap length (returns-clause-items g c) ∙ length_push _ _

pub returns-clause-preserved : goal.returns-clause-preserved
returns-clause-preserved g c =
    keeps-settled _ _ c.self.invariant c.self.view_is
    (subst (Fits (param 0 g.row.T)) (sym (ap (λ v. v.capacity) c.self.view_is))
    c.requires.bounds.fits) (facts g c)
    (ap (λ v. v.cost) c.put_and_set_len.ensures.changes) (refl, refl)
