-- What a level of combinations means, in terms of the level below.
use Rattle.std.specs.Prelude.{take}
use Rattle.monitor.specs.Combinations.{either, both, only}
use Rattle.monitor.specs.Laws.{either_lawful, both_lawful, only_lawful}
use Rattle.monitor.specs.Meanings.{Meaning, Lawful}
use Rattle.rule.specs.Held.{held}
use Rattle.rule.specs.Kinds.{back}
use Rattle.rule.specs.RuleFiles.{formula_of}
use Rattle.rule.specs.RuleLines.{automaton, rule_lawful}
use Rattle.replay.specs.declared.level.Kind.TheVariants.{One, Line, Either, Both, Only}
use Rattle.replay.specs.declared.level.Kind.{Kind}
use Rattle.replay.specs.declared.level.Level.{Level}

-- the meaning of a level of that kind, from what its parts mean
abbrev pub of_kind : Kind → Meaning → Meaning → Meaning
of_kind One a b = a
of_kind (Line l) a b = automaton (formula_of (held l.now))
of_kind Either a b = either a b
of_kind Both a b = both a b
of_kind (Only mask) a b = only mask a

pub of_kind_lawful : (k : Kind) (a b : Meaning) → Lawful a → Lawful b → Lawful (of_kind k a b)
of_kind_lawful One a b p q = p
of_kind_lawful (Line l) a b p q = rule_lawful (back l.now.kind) (take l.now.letters l.now.guards) (take l.now.size l.now.items)
of_kind_lawful Either a b p q = either_lawful a b
of_kind_lawful Both a b p q = both_lawful a b
of_kind_lawful (Only mask) a b p q = only_lawful mask a p

-- the meaning of a level, from what a monitor of the level below means
abbrev pub level : {M : Type 0} → (M → Meaning) → Level M → Meaning
level m l = of_kind l.kind (m l.left) (m l.right)

pub level_lawful : {M : Type 0} (m : M → Meaning) → ((a : M) → Lawful (m a)) → (l : Level M) → Lawful (level m l)
level_lawful m law l = of_kind_lawful l.kind (m l.left) (m l.right) (law l.left) (law l.right)
