-- The items of the lists in a map.
use Rattle.std.specs.BTreeMap.{BTreeMap, get}
use Rattle.std.specs.Option.{option_map_or}
use Rattle.std.specs.Ordering.{nat_cmp}
use Rattle.std.specs.Prelude.{ℕ, List, []}
use Rattle.std.specs.declared.alloc.Global.{Global}
use Rattle.thin_vec.specs.ThinVec.{ListView}

-- `items_at lists key` contains the items of the list at `key`, or no item if there is no such
-- list.
abbrev pub items_at : BTreeMap ℕ (ListView ℕ Global) → ℕ → List ℕ
items_at lists key = option_map_or (λ list. list.items) (get nat_cmp lists key) []
