-- These two lemmas are about the record `BlockView`, which is how contracts see a block.
use Rattle.std.proofs.Common.{◌≡◌, ℕ, List, ap, ◌∙◌}
use Rattle.std.specs.Prelude.{Option}
use Rattle.thin_block.specs.Block.{BlockView}

module _ {T A : Type 0} where
  pub slots-are : {v w : BlockView T A} {s : List (Option T)} → v ≡ w → w.slots ≡ s
      → v ≡ record w { slots = s }
  slots-are {w = w} e h = e ∙ ap (λ (s : List (Option T)). record w { slots = s }) h

  pub then-len : {u v w : BlockView T A} {n : ℕ} → w ≡ record v { len = n } → v ≡ u
      → w ≡ record u { len = n }
  then-len {n = n} e h = e ∙ ap (λ (v : BlockView T A). record v { len = n }) h
