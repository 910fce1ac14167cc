-- Which states of its parts a state of a combination stands for, by the sizes of the parts and of the whole.
use Rattle.std.specs.Prelude.{ℕ, ◌+◌, ◌-◌, ◌*◌, ◌/◌, ◌%◌, cond, Option, Some, None, nat_lt}
use Rattle.monitor.specs.Combinations.{limited}
use Rattle.monitor.specs.declared.combine.Part.{Part}
use Rattle.monitor.specs.declared.combine.Part.TheVariants.{Left, Right}
use Rattle.monitor.specs.declared.combine.Sizes.{Sizes}

-- the sizes where A's states come first and then B's, and where states are pairs
abbrev pub sum_sizes : ℕ → ℕ → Sizes
sum_sizes m n = record { left = m; right = n; whole = limited m n (m + n) }

abbrev pub product_sizes : ℕ → ℕ → Sizes
product_sizes m n = record { left = m; right = n; whole = limited m n (m * n) }

-- A's states and then B's
abbrev pub part_of : Sizes → ℕ → Option Part
part_of n s = cond (nat_lt s n.whole) (Some (cond (nat_lt s n.left) (Left s) (Right (s - n.left)))) None

-- state a × (B's number of states) + b stands for the pair of a and b
abbrev pub pair_of : Sizes → ℕ → Option (ℕ × ℕ)
pair_of n s = cond (nat_lt s n.whole) (Some (s / n.right, s % n.right)) None
