-- The worked examples, each decided by its recursion.
use Rattle.std.proofs.Common.{◌≡◌, ℕ, Bool, true, false, List, [], Ok, Decides, MatchBool, refl}
use Rattle.std.proofs.lemmas.Bool.Decides.{not_from_Decides}
use Rattle.history.specs.declared.Label.{Label}
use Rattle.formula.proofs.PastDriven.{holding, decides_throughout}
use Rattle.formula.proofs.Satisfied.{satisfies, decides}
use Rattle.formula.specs.Automata.{mirrored}
use Rattle.formula.specs.Examples.{guards, FutureExample, PastExample, FutureExamples, PastExamples}
use Rattle.formula.specs.Formulas.{Future, Past}
use Rattle.formula.specs.Lines.{future_line, past_line}

decided : {P : Type 0} (t r : Bool) → Decides t P → t ≡ r → MatchBool r P (P → ⊥)
decided t true d e = d.0 e
decided t false d e = not_from_Decides t d e

shown : (items : List ℕ) (w : List Label) (holds : Bool) (f : Future) → future_line guards items ≡ Ok f → satisfies f w ≡ holds → FutureExample items w holds
shown items w holds f p q = record { formula = f; read = p; so = decided (satisfies f w) holds (decides f w) q }

shown_past : (items : List ℕ) (w : List Label) (holds : Bool) (f : Past) → past_line guards items ≡ Ok f → holding (mirrored f) [] w ≡ holds → PastExample items w holds
shown_past items w holds f p q = record { formula = f; read = p; so = decided (holding (mirrored f) [] w) holds (decides_throughout f w) q }

pub future_examples : FutureExamples
future_examples = record {
  e0 = shown _ _ _ _ refl refl;
  e1 = shown _ _ _ _ refl refl;
  e2 = shown _ _ _ _ refl refl;
  e3 = shown _ _ _ _ refl refl;
  e4 = shown _ _ _ _ refl refl;
  e5 = shown _ _ _ _ refl refl;
  e6 = shown _ _ _ _ refl refl;
  e7 = shown _ _ _ _ refl refl;
  e8 = shown _ _ _ _ refl refl;
  e9 = shown _ _ _ _ refl refl;
  e10 = shown _ _ _ _ refl refl;
  e11 = shown _ _ _ _ refl refl;
  e12 = shown _ _ _ _ refl refl;
  e13 = shown _ _ _ _ refl refl;
  e14 = shown _ _ _ _ refl refl;
  e15 = shown _ _ _ _ refl refl;
  e16 = shown _ _ _ _ refl refl;
  e17 = shown _ _ _ _ refl refl;
  e18 = shown _ _ _ _ refl refl;
  e19 = shown _ _ _ _ refl refl;
  e20 = shown _ _ _ _ refl refl;
  e21 = shown _ _ _ _ refl refl;
  e22 = shown _ _ _ _ refl refl;
  e23 = shown _ _ _ _ refl refl;
  e24 = shown _ _ _ _ refl refl;
  e25 = shown _ _ _ _ refl refl;
  e26 = shown _ _ _ _ refl refl;
  e27 = shown _ _ _ _ refl refl;
  e28 = shown _ _ _ _ refl refl;
  e29 = shown _ _ _ _ refl refl;
  e30 = shown _ _ _ _ refl refl;
  e31 = shown _ _ _ _ refl refl;
  e32 = shown _ _ _ _ refl refl;
  e33 = shown _ _ _ _ refl refl;
  e34 = shown _ _ _ _ refl refl;
  e35 = shown _ _ _ _ refl refl;
}

pub past_examples : PastExamples
past_examples = record {
  e0 = shown_past _ _ _ _ refl refl;
  e1 = shown_past _ _ _ _ refl refl;
  e2 = shown_past _ _ _ _ refl refl;
  e3 = shown_past _ _ _ _ refl refl;
  e4 = shown_past _ _ _ _ refl refl;
  e5 = shown_past _ _ _ _ refl refl;
  e6 = shown_past _ _ _ _ refl refl;
  e7 = shown_past _ _ _ _ refl refl;
  e8 = shown_past _ _ _ _ refl refl;
  e9 = shown_past _ _ _ _ refl refl;
  e10 = shown_past _ _ _ _ refl refl;
  e11 = shown_past _ _ _ _ refl refl;
  e12 = shown_past _ _ _ _ refl refl;
  e13 = shown_past _ _ _ _ refl refl;
  e14 = shown_past _ _ _ _ refl refl;
  e15 = shown_past _ _ _ _ refl refl;
  e16 = shown_past _ _ _ _ refl refl;
  e17 = shown_past _ _ _ _ refl refl;
  e18 = shown_past _ _ _ _ refl refl;
  e19 = shown_past _ _ _ _ refl refl;
  e20 = shown_past _ _ _ _ refl refl;
  e21 = shown_past _ _ _ _ refl refl;
  e22 = shown_past _ _ _ _ refl refl;
  e23 = shown_past _ _ _ _ refl refl;
  e24 = shown_past _ _ _ _ refl refl;
  e25 = shown_past _ _ _ _ refl refl;
  e26 = shown_past _ _ _ _ refl refl;
  e27 = shown_past _ _ _ _ refl refl;
  e28 = shown_past _ _ _ _ refl refl;
  e29 = shown_past _ _ _ _ refl refl;
  e30 = shown_past _ _ _ _ refl refl;
  e31 = shown_past _ _ _ _ refl refl;
}
