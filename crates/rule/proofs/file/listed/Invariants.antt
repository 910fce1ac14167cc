use Rattle.std.proofs.Common.{◌≡◌, true, length, take}
use Rattle.rule.specs.Parts.{all_listed}
use Rattle.rule.specs.RuleFiles.{guards_of}
use Rattle.rule.proofs.file.listed.Given as goal

-- the guards so far
abbrev pub invariant-loop-k : goal.invariant-loop-k
invariant-loop-k l =
    (all_listed l.bytes l.k ≡ true) × (take l.k l.guards ≡ guards_of l.bytes l.k) × (length l.guards ≡ 26)
