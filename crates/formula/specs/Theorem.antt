-- The theorem between the two: a line's automaton can be driven to a bad state exactly when the line does not hold.
use Rattle.std.specs.Prelude.{◌≡◌, ℕ, ◌≤◌, ◌↔◌, List, ◌∷◌, Ok}
use Rattle.history.specs.declared.Label.{Label}
use Rattle.monitor.specs.Meanings.{Drives}
use Rattle.monitor.specs.declared.guard.Guard.{Guard}
use Rattle.formula.specs.Automata.{future, past, mirrored}
use Rattle.formula.specs.Formulas.{Future, Past, items}
use Rattle.formula.specs.Lines.{future_line, past_line}
use Rattle.formula.specs.Sequences.{Holds, HoldsThroughout}

-- on every sequence of one event or more
abbrev pub FutureDriven : Future → Type 0
FutureDriven f = (e : Label) (w : List Label) → Drives (future f) (e ∷ w) ↔ (Holds f (e ∷ w) → ⊥)

abbrev pub PastDriven : Past → Type 0
PastDriven f = (e : Label) (w : List Label) → Drives (past f) (e ∷ w) ↔ (HoldsThroughout f (e ∷ w) → ⊥)

-- of every line that can be read; and such a line has at most six temporal items
abbrev pub LinesDriven : Type 0
LinesDriven =
    ((guards : List Guard) (bytes : List ℕ) (f : Future) → future_line guards bytes ≡ Ok f → (items f ≤ 6) × FutureDriven f)
    × ((guards : List Guard) (bytes : List ℕ) (f : Past) → past_line guards bytes ≡ Ok f → (items (mirrored f) ≤ 6) × PastDriven f)
