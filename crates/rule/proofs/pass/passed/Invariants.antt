use Rattle.std.proofs.Common.{◌≡◌, drop}
use Rattle.rule.specs.Passes.{passed, begun}
use Rattle.rule.proofs.Bounds.{Bounded}
use Rattle.rule.proofs.pass.passed.Given as goal

-- the items to come lead where all items lead
abbrev pub invariant-loop-item : goal.invariant-loop-item
invariant-loop-item l =
    (passed l.letters.guards.now l.letters.event l.pass (drop l.item-index l.items) ≡ passed l.letters.guards.now l.letters.event (begun l.ahead) l.items)
    × Bounded l.item-index l.pass
