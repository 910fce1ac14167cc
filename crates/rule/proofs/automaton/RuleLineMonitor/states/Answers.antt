use Rattle.std.proofs.Common.{◌≡◌, ℕ, ◌+◌, ◌*◌, ◌%◌, ◌^◌, ◌≤◌, Bool, true, false, cond, take, ◌∙◌, ap₂, arith, pow_mono}
use Rattle.rule.specs.Kinds.{back}
use Rattle.rule.specs.declared.line.RuleLine.{RuleLine}
use Rattle.rule.proofs.Answered.{few, states_are}
use Rattle.rule.proofs.automaton.RuleLineMonitor.states.Goals as goal

few_items : (l : RuleLine) → l.outline.temporal ≤ 6
few_items l = few (take l.letters l.guards) (take l.size l.items) l.outline (back l.kind) l.lawful

-- at most 64 fits
small : (n : ℕ) → n ≤ 6 → (1 * 2 ^ n) % 65536 ≡ 2 ^ n
small n l = omega (arith, pow_mono l)

at_most_two : (b : Bool) → cond b 2 1 ≤ 2
at_most_two true = omega arith
at_most_two false = omega arith

pub overflow_shl-result : goal.overflow_shl-result
overflow_shl-result c = omega (arith, few_items c.args.self.now)

pub overflow_add-result : goal.overflow_add-result
overflow_add-result c =
    let n = c.args.self.now.outline.temporal in
    omega (arith, small n (few_items c.args.self.now), pow_mono (few_items c.args.self.now), c.spare_states.ensures, at_most_two (back c.args.self.now.kind))

pub returns : goal.returns
returns c =
    let l = c.args.self.now in
    ap₂ ◌+◌ (small l.outline.temporal (few_items l)) (c.spare_states.ensures)
    ∙ states_are (take l.letters l.guards) (take l.size l.items) l.outline (back l.kind) l.lawful
