use Rattle.std.proofs.Common.{◌≡◌, ◌-◌, ◌≤◌, false, ltb, length, get_or, sym, ap, ◌∙◌, arith}
use Rattle.history.proofs.Nth.{nth_none, nth_some}
use Rattle.monitor.specs.Guards.{triggers}
use Rattle.std.proofs.lemmas.Bool.{ltb-false}
use Rattle.rule.specs.Passes.{triggered}
use Rattle.rule.proofs.pass.Letters.hold.Goals as goal

pub returns-in-Some-get : goal.returns-in-Some-get
returns-in-Some-get c =
    let at = c.in-Some-get.ensures.lookup in
    let guards = c.args.self.now.guards.now in
    let n = c.args.letter - 96 in
    let place : c.from.result ≡ n - 1 = omega (arith, c.from.ensures, c.in-Some.ensures) in
    c.triggers.ensures
    ∙ ap (λ g. triggers g c.args.self.now.event) (at.1 ∙ ap (λ k. get_or guards k c.in-Some-get.guard.now) place)
    ∙ ap (triggered c.args.self.now.event) (sym (nth_some guards n c.in-Some-get.guard.now
    (omega arith) (omega (arith, at.3.0))))

pub returns-in-None : goal.returns-in-None
returns-in-None c =
    let none : false ≡ ltb c.from.result (length c.args.self.now.guards.now) = c.in-None.ensures.lookup.0 in
    let short : length c.args.self.now.guards.now ≤ c.from.result = ltb-false _ _ (sym none) in
    ap (triggered c.args.self.now.event)
    (sym (nth_none c.args.self.now.guards.now (c.args.letter - 96) (omega (arith, short, c.from.ensures, c.in-Some.ensures))))
