-- The table and the rule line that bytes of a script describe.
use Rattle.std.specs.Prelude.{◌≡◌, false, Ok, Err, Result}
use Rattle.history.specs.declared.Refusal.TheVariants.{BadTable}
use Rattle.history.specs.declared.Refused.{Refused}
use Rattle.monitor.specs.Described.{described}
use Rattle.monitor.specs.Tables.{Description, lawful_table}
use Rattle.monitor.specs.declared.table.Table.{Table}
use Rattle.rule.specs.Held.{held}
use Rattle.rule.specs.RuleFiles.{read_answer, rule_of, told}
use Rattle.rule.specs.declared.line.RuleLine.{RuleLine}
use Rattle.replay.specs.declared.recipe.LineBytes.{LineBytes}
use Rattle.replay.specs.declared.recipe.TableBytes.{TableBytes}

abbrev pub description : TableBytes → Description
description b = record { states = b.states; initial = b.initial; bad = b.bad; guards = b.guards.items; arcs = b.arcs.items }

-- that table, or its refusal where it is not lawful
abbrev pub TableOf : TableBytes → Result Table Refused → Type 0
TableOf b (Ok t) = described t ≡ description b
TableOf b (Err why) = (lawful_table (description b) ≡ false) × (why ≡ record { refusal = BadTable; place = 0 })

-- the line of a rule file, or the first refusal that applies
abbrev pub LineOf : LineBytes → Result RuleLine Refused → Type 0
LineOf b (Ok l) = (told (read_answer b.0.items) ≡ Ok tt) × (held l ≡ rule_of b.0.items)
LineOf b (Err why) = told (read_answer b.0.items) ≡ Err why
