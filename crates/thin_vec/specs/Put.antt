-- The definitions in this file describe the loops of `src/put.rt`, which put items into the empty
-- slots of a block.
use Rattle.std.specs.Prelude.{◌≡◌, ℕ, ◌+◌, ◌<◌, ◌≤◌, Bool, true, false, List, Option, length}
use Rattle.std.specs.Iterator.{Count, IsFinite, Yields, YieldsThen, size}
use Rattle.std.specs.declared.option.Option.TheVariants.{None}
use Rattle.thin_vec.specs.declared.put.Filled.{Filled}

-- `YieldsThenMayEnd steps s xs ended t` states that the iterator `s` yielded the items `xs` and
-- became `t`. If `ended` is true, one more call to `next` returned `None`.
abbrev pub YieldsThenMayEnd : {S X : Type 0} → (S → Option X → S → Type 0) → S → List X → Bool → S
    → Type 0
YieldsThenMayEnd steps s xs true t = YieldsThen steps s xs None t
YieldsThenMayEnd steps s xs false t = Yields steps s xs t

-- `IsFilledBy steps can remaining room s f` describes a loop that moves items of the iterator `s`
-- into `room` empty slots, until all are full or `next` returns `None`. The result `f` contains the
-- rest of the iterator.
pub record IsFilledBy {S X : Type 0} (steps : S → Option X → S → Type 0) (can : S → Type 0)
    (remaining : S → Count) (room : ℕ) (s : S) (f : Filled S) : Type 0 where
  pub items : List X
  pub gave : YieldsThenMayEnd steps s items f.ended f.rest
  pub full : f.ended ≡ false → length items ≡ room
  pub short : f.ended ≡ true → length items < room
  pub asked : f.ended ≡ false → can f.rest × IsFinite (remaining f.rest)
  pub nearer : f.ended ≡ false → length items + size (remaining f.rest) ≤ size (remaining s)
