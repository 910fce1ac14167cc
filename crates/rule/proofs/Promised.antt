-- Every rule line keeps the promise, by its invariant.
use Rattle.std.proofs.Common.{◌≡◌, ℕ, Bool, true, false, ◌↔◌, List, ◌∷◌, take, Ok, Err, Result, sym, refl, ap, subst}
use Rattle.std.proofs.lemmas.Bool.{false≢true}
use Rattle.history.specs.declared.Label.{Label}
use Rattle.history.specs.declared.Refused.{Refused}
use Rattle.monitor.specs.Meanings.{Drives}
use Rattle.monitor.specs.declared.guard.Guard.{Guard}
use Rattle.formula.specs.Formulas.{Future, Past}
use Rattle.formula.specs.Lines.{future_line, past_line}
use Rattle.formula.proofs.FutureDriven.{future_driven}
use Rattle.formula.proofs.PastDriven.{past_driven}
use Rattle.rule.specs.Kinds.{back}
use Rattle.rule.specs.Driven.{LineHolds, RuleDriven}
use Rattle.rule.specs.Held.{held}
use Rattle.rule.specs.RuleFiles.{Formula, ahead, behind, ahead_of, behind_of, formula_of}
use Rattle.rule.specs.RuleLines.{outlines, automaton}
use Rattle.rule.specs.declared.line.RuleLine.{RuleLine}
use Rattle.rule.specs.declared.progress.Progress.{Progress}

module _ (guards : List Guard) (bytes : List ℕ) (o : Progress) where
  agree : (x : Result Formula Refused) (f : Formula) → x ≡ Ok f
      → ((e : Label) (w : List Label) → Drives (automaton (Ok f)) (e ∷ w) ↔ (LineHolds f (e ∷ w) → ⊥))
      → (e : Label) (w : List Label) → Drives (automaton x) (e ∷ w) ↔ (LineHolds f (e ∷ w) → ⊥)
  agree x f q d e w = subst (λ y. Drives (automaton y) (e ∷ w) ↔ (LineHolds f (e ∷ w) → ⊥)) (sym q) (d e w)

  promised : (looks_back : Bool) → outlines o (formula_of record { looks_back = looks_back; guards = guards; items = bytes }) ≡ true
      → RuleDriven record { looks_back = looks_back; guards = guards; items = bytes }
  promised false p = look (future_line guards bytes) refl p
    where
      look : (x : Result Future Refused) → future_line guards bytes ≡ x → outlines o (ahead_of x) ≡ true
          → RuleDriven record { looks_back = false; guards = guards; items = bytes }
      look (Ok f) q p = record { formula = ahead f; is = ap ahead_of q; driven = agree _ (ahead f) (ap ahead_of q) (future_driven f) }
      look (Err why) q p = absurd (false≢true p)
  promised true p = look (past_line guards bytes) refl p
    where
      look : (x : Result Past Refused) → past_line guards bytes ≡ x → outlines o (behind_of x) ≡ true
          → RuleDriven record { looks_back = true; guards = guards; items = bytes }
      look (Ok f) q p = record { formula = behind f; is = ap behind_of q; driven = agree _ (behind f) (ap behind_of q) (past_driven f) }
      look (Err why) q p = absurd (false≢true p)

pub line_promised : (l : RuleLine) → RuleDriven (held l)
line_promised l = promised (take l.letters l.guards) (take l.size l.items) l.outline (back l.kind) l.lawful
