-- The promise of a rule line: its monitor can be driven to a bad state exactly when its line does not hold.
use Rattle.std.specs.Prelude.{◌≡◌, ◌↔◌, List, ◌∷◌, Ok, Result}
use Rattle.history.specs.declared.Label.{Label}
use Rattle.history.specs.declared.Refused.{Refused}
use Rattle.monitor.specs.Meanings.{Meaning, Drives}
use Rattle.formula.specs.Sequences.{Holds, HoldsThroughout}
use Rattle.rule.specs.RuleFiles.{Rule, Formula, ahead, behind, formula_of}
use Rattle.rule.specs.RuleLines.{automaton}

-- a line holds on a sequence: a future line from its first position on, a past line at every position
abbrev pub LineHolds : Formula → List Label → Type 0
LineHolds (ahead f) w = Holds f w
LineHolds (behind f) w = HoldsThroughout f w

-- what a line's items are read as is a formula, and a monitor of that meaning is driven to a bad state by a sequence of one event
-- or more exactly when the formula's line does not hold on it
pub record LineDriven (meaning : Meaning) (line : Result Formula Refused) : Type 0 where
  pub formula : Formula
  pub is : line ≡ Ok formula
  pub driven : (e : Label) (w : List Label) → Drives meaning (e ∷ w) ↔ (LineHolds formula (e ∷ w) → ⊥)

-- the same of a rule and the automaton of its formula
abbrev pub RuleDriven : Rule → Type 0
RuleDriven r = LineDriven (automaton (formula_of r)) (formula_of r)
