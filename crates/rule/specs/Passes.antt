-- How a line is valued at an event, item by item, as numbers. For contracts of private functions.
use Rattle.std.specs.Prelude.{ℕ, ◌+◌, ◌-◌, ◌*◌, ◌/◌, ◌%◌, ◌^◌, Bool, false, cond, not, ◌&&◌, ◌||◌, List, [], ◌∷◌, drop, Some, None, Option, ◌==◌}
use Rattle.history.specs.Histories.{nth}
use Rattle.history.specs.declared.Label.{Label}
use Rattle.monitor.specs.Guards.{triggers}
use Rattle.monitor.specs.declared.guard.Guard.{Guard}
use Rattle.formula.specs.Automata.{number_of, value, values}
use Rattle.formula.specs.Formulas.{Future, items}
use Rattle.rule.specs.declared.pass.Pass.{Pass}

-- the lowest bit of a number
abbrev pub low : ℕ → Bool
low n = n % 2 == 1

-- the value that came last, the one before it, and the bit of the temporal item at hand
abbrev pub last : Pass → Bool
last p = low p.stack

abbrev pub earlier : Pass → Bool
earlier p = low (p.stack / 2)

abbrev pub looked : Pass → Bool
looked p = low p.ahead

-- a value upon the rest of the stack: upon all, all but the last, all but the last two
abbrev pub put : ℕ → Pass → Bool → Pass
put rest p v = record { stack = cond v 1 0 + 2 * rest; ahead = p.ahead; here = p.here; weight = p.weight }

abbrev pub push : Pass → Bool → Pass
push p v = put p.stack p v

abbrev pub one : Pass → Bool → Pass
one p v = put (p.stack / 2) p v

abbrev pub two : Pass → Bool → Pass
two p v = put (p.stack / 2 / 2) p v

-- the bit here of a temporal item
abbrev pub keep : Pass → Bool → Pass
keep p b = record { stack = p.stack; ahead = p.ahead / 2; here = p.here + cond b p.weight 0; weight = p.weight * 2 }

abbrev pub triggered : Label → Option Guard → Bool
triggered e None = false
triggered e (Some g) = triggers g e

-- the item with byte b
abbrev pub valued : List Guard → Label → ℕ → Pass → Pass
valued guards e b p =
    cond (b == 33) (one p (not (last p)))
    (cond (b == 38) (two p (earlier p && last p))
    (cond (b == 124) (two p (earlier p || last p))
    (cond (b == 88 || (b == 87 || b == 89)) (keep (one p (looked p)) (last p))
    (cond (b == 71 || b == 72) (keep (one p (last p && looked p)) (last p && looked p))
    (cond (b == 70 || b == 79) (keep (one p (last p || looked p)) (last p || looked p))
    (cond (b == 85 || b == 83)
    (keep (two p (last p || (earlier p && looked p))) (last p || (earlier p && looked p)))
    (cond (b == 86)
    (keep (two p (last p && (earlier p || looked p))) (last p && (earlier p || looked p)))
    (push p (triggered e (nth guards (b - 96)))))))))))

-- one item after another
abbrev pub passed : List Guard → Label → Pass → List ℕ → Pass
passed guards e p [] = p
passed guards e p (b ∷ bs) = passed guards e (valued guards e b p) bs

-- a pass before its first item and behind its last
abbrev pub begun : ℕ → Pass
begun d = record { stack = 0; ahead = d; here = 0; weight = 1 }

abbrev pub ended : Future → Label → List Bool → Pass
ended f e d = record {
  stack = cond (value f 0 e d) 1 0;
  ahead = number_of (drop (items f) d);
  here = number_of (values f 0 e d);
  weight = 2 ^ items f;
}
