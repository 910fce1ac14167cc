use Rattle.std.proofs.Common.{◌≡◌, ◌+◌, drop}
use Rattle.rule.specs.Kinds.{back}
use Rattle.rule.specs.Outlines.{outlined, untaken}
use Rattle.rule.proofs.Bounds.{Modest}
use Rattle.rule.proofs.progress.outlined.Given as goal

-- the items to come lead where all items lead
abbrev pub invariant-loop-k : goal.invariant-loop-k
invariant-loop-k l =
    (outlined (back l.kind) l.guards l.progress (l.k-counter + 1) (drop l.k-counter l.items) ≡ outlined (back l.kind) l.guards untaken 1 l.items)
    × Modest l.k-counter l.progress
