-- These definitions are for methods that replace a range of a list with other items. They say which
-- items the list contains afterwards, and how many moves are counted. (std: `Vec::splice`)
use Rattle.std.specs.Prelude.{◌≡◌, ℕ, ◌+◌, ◌-◌, ◌==◌, List, if◌then◌else◌, length}
use Rattle.std.specs.List.{AllZip, replace_range}
use Rattle.thin_vec.specs.ThinVec.{ListView}

module _ {T A : Type 0} where
  -- `moves_replacing v i j k` is the number of moves that are counted if `k` new items replace the
  -- items `i..j` of the list `v`.
  abbrev pub moves_replacing : ListView T A → ℕ → ℕ → ℕ → ℕ
  moves_replacing v i j k = k + (if k == j - i then 0 else length v.items - j)

-- `ReplacesByClones clones xs i j sources ys` holds if replacing the items `i..j` of `xs` with
-- clones of `sources`, in order, results in `ys`. The relation `clones` says what a clone is.
pub record ReplacesByClones {T : Type 0} (clones : T → T → Type 0) (xs : List T) (i j : ℕ)
    (sources ys : List T) : Type 0 where
  pub copies : List T
  pub cloned : AllZip clones sources copies
  pub items : ys ≡ replace_range xs i j copies
