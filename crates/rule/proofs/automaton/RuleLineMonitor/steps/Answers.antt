use Rattle.std.proofs.Common.{◌<◌, cond, take, sym, ap, ◌∙◌, subst}
use Rattle.rule.specs.Kinds.{back}
use Rattle.rule.specs.Held.{held, steps_back, steps_ahead}
use Rattle.rule.proofs.Answered.{steps_are}
use Rattle.rule.proofs.automaton.RuleLineMonitor.steps.Goals as goal

pub returns-in-Past : goal.returns-in-Past
returns-in-Past c =
    let l = c.args.self.now in
    let s = c.args.from in
    let e = c.args.event in
    let t = c.args.to in
    c.steps_back.ensures
    ∙ ap (λ b. cond b (steps_back (held l) l.outline s e t) (steps_ahead (held l) s e t)) (sym (ap back c.in-Past.is))
    ∙ steps_are (take l.letters l.guards) (take l.size l.items) l.outline (back l.kind) l.lawful s e t
    (subst (λ n. s < n) c.states-states.ensures c.if-from-states.false)
    (subst (λ n. t < n) c.states-states.ensures c.if-to-states.false)

pub returns-in-Future : goal.returns-in-Future
returns-in-Future c =
    let l = c.args.self.now in
    let s = c.args.from in
    let e = c.args.event in
    let t = c.args.to in
    c.steps_ahead.ensures
    ∙ ap (λ b. cond b (steps_back (held l) l.outline s e t) (steps_ahead (held l) s e t)) (sym (ap back c.in-Future.is))
    ∙ steps_are (take l.letters l.guards) (take l.size l.items) l.outline (back l.kind) l.lawful s e t
    (subst (λ n. s < n) c.states-states.ensures c.if-from-states.false)
    (subst (λ n. t < n) c.states-states.ensures c.if-to-states.false)
