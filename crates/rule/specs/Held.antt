-- The rule that a line holds, and the answers of its automaton as numbers.
use Rattle.std.specs.Prelude.{ℕ, ◌+◌, ◌-◌, ◌^◌, Bool, false, cond, ◌&&◌, [], ◌∷◌, take, ◌==◌, nat_le}
use Rattle.history.specs.declared.Label.{Label}
use Rattle.monitor.specs.Guards.{guard_at}
use Rattle.rule.specs.Kinds.{back}
use Rattle.rule.specs.RuleFiles.{Rule}
use Rattle.rule.specs.Passes.{passed, begun}
use Rattle.rule.specs.declared.line.RuleLine.{RuleLine}
use Rattle.rule.specs.declared.pass.Pass.{Pass}
use Rattle.rule.specs.declared.progress.Progress.{Progress}

abbrev pub held : RuleLine → Rule
held l = record { looks_back = back l.kind; guards = take l.letters l.guards; items = take l.size l.items }

-- what a new line holds: the future line a!a|, which holds on every sequence, with the guard of ten zero bytes
abbrev pub always_held : Rule
always_held = record {
  looks_back = false;
  guards = guard_at [] 0 ∷ [];
  items = 97 ∷ 33 ∷ 97 ∷ 124 ∷ [];
}

abbrev pub pass_over : Rule → Label → ℕ → Pass
pass_over r e d = passed r.guards e (begun d) r.items

-- for contracts of private functions
abbrev pub steps_ahead : Rule → ℕ → Label → ℕ → Bool
steps_ahead r s e t =
    cond (t == 0) false
    (cond (s == 0) ((pass_over r e (t - 1)).stack == 0) ((pass_over r e (t - 1)).here == s - 1))

abbrev pub leads_back : Pass → ℕ → Bool
leads_back p t = cond (p.stack == 0) (t == 1) (nat_le 2 t && p.here == t - 2)

abbrev pub steps_back : Rule → Progress → ℕ → Label → ℕ → Bool
steps_back r o s e t = cond (s == 1) (t == 1) (leads_back (pass_over r e (cond (s == 0) o.end (s - 2))) t)

-- one state more than bits for a future line, two for a past one
abbrev pub states_of : Bool → Progress → ℕ
states_of looks_back o = 2 ^ o.temporal + cond looks_back 2 1
