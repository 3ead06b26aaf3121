-- The counts in a map whose keys are lists of bytes.
use Rattle.std.specs.BTreeMap.{BTreeMap, get_by}
use Rattle.std.specs.Cmp.Lexicographic.{slice_cmp}
use Rattle.std.specs.Option.{option_map_or}
use Rattle.std.specs.Ordering.{nat_cmp}
use Rattle.std.specs.Prelude.{ℕ, List}
use Rattle.std.specs.declared.alloc.Global.{Global}
use Rattle.thin_vec.specs.ThinVec.{ListView}

-- `count_of counts bytes` is the count at the key whose items are `bytes`, or 0 if there is none.
abbrev pub count_of : BTreeMap (ListView ℕ Global) ℕ → List ℕ → ℕ
count_of counts bytes =
    option_map_or (λ count. count) (get_by (λ key. slice_cmp nat_cmp bytes key.items) counts) 0
