-- How a line is read, item by item, as numbers. For contracts of private functions.
use Rattle.std.specs.Prelude.{ℕ, suc, ◌+◌, ◌-◌, ◌^◌, Bool, true, false, cond, not, ◌&&◌, ◌||◌, List, [], ◌∷◌, Ok, Err, Result, ◌==◌, nat_le, nat_lt}
use Rattle.history.specs.declared.Refusal.{Refusal}
use Rattle.history.specs.declared.Refusal.TheVariants.{UnknownItem, MissingOperand, TooManyTemporalItems, UnusedValue}
use Rattle.history.specs.declared.Refused.{Refused}
use Rattle.formula.specs.Lines.{go_on}
use Rattle.rule.specs.declared.progress.Progress.{Progress}

-- one value is given
abbrev pub gives : Progress → Progress
gives p = record { depth = p.depth + 1; temporal = p.temporal; end = p.end }

-- n values are taken and one is given
abbrev pub takes : ℕ → Progress → Result Progress Refusal
takes n p =
    cond (nat_lt p.depth n) (Err MissingOperand) (Ok record { depth = p.depth - n + 1; temporal = p.temporal; end = p.end })

-- a temporal item, with its bit behind the last position
abbrev pub counts : Bool → Progress → Result Progress Refusal
counts bit p =
    cond (nat_le 6 p.temporal) (Err TooManyTemporalItems)
    (Ok record { depth = p.depth; temporal = suc p.temporal; end = p.end + cond bit (2 ^ p.temporal) 0 })

abbrev pub then_counts : Bool → Result Progress Refusal → Result Progress Refusal
then_counts bit (Ok p) = counts bit p
then_counts bit (Err why) = Err why

-- the item with byte b, of a past line or a future line, where n guards are named
abbrev pub stepped : Bool → ℕ → ℕ → Progress → Result Progress Refusal
stepped looks_back n b p =
    cond (b == 33) (takes 1 p)
    (cond (b == 38 || b == 124) (takes 2 p)
    (cond (cond looks_back (b == 89 || b == 79) (b == 88 || b == 70)) (then_counts false (takes 1 p))
    (cond (cond looks_back (b == 72) (b == 87 || b == 71)) (then_counts true (takes 1 p))
    (cond (cond looks_back (b == 83) (b == 85)) (then_counts false (takes 2 p))
    (cond (not looks_back && b == 86) (then_counts true (takes 2 p))
    (cond (nat_le 97 b && (nat_le b 122 && nat_le (b - 96) n)) (Ok (gives p)) (Err UnknownItem)))))))

-- one value is left, or the line of that length is refused
abbrev pub closed : ℕ → Progress → Result Progress Refused
closed n p =
    cond (p.depth == 0) (Err record { refusal = MissingOperand; place = n })
    (cond (p.depth == 1) (Ok p) (Err record { refusal = UnusedValue; place = n }))

-- all items, from index i of the line on
abbrev pub outlined : Bool → ℕ → Progress → ℕ → List ℕ → Result Progress Refused
outlined looks_back n p i [] = closed i p
outlined looks_back n p i (b ∷ bs) = go_on i (stepped looks_back n b p) (λ q. outlined looks_back n q (suc i) bs)

-- nothing read yet
abbrev pub untaken : Progress
untaken = record { depth = 0; temporal = 0; end = 0 }
