-- The items that remain if every second item of a list is removed.
use Rattle.std.specs.Prelude.{Bool, true, false, List, [], ◌∷◌}

-- `alternating keep xs` contains every second item of `xs`, beginning with the first item if `keep`
-- is true, and with the second item otherwise.
abbrev pub alternating : {T : Type 0} → Bool → List T → List T
alternating keep [] = []
alternating true (x ∷ xs) = x ∷ alternating false xs
alternating false (x ∷ xs) = alternating true xs

-- `every_second xs` contains the first item of `xs`, the third, the fifth, and so on.
abbrev pub every_second : {T : Type 0} → List T → List T
every_second xs = alternating true xs
