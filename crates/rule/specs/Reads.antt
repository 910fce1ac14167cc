-- What reading a file gives.
use Rattle.std.specs.Prelude.{◌≡◌, ℕ, List, Ok, Err, Result}
use Rattle.history.specs.declared.Refused.{Refused}
use Rattle.rule.specs.Held.{held}
use Rattle.rule.specs.RuleFiles.{rule_of, file_answer, read_answer}
use Rattle.rule.specs.declared.line.RuleLine.{RuleLine}

-- the file's line, or the first refusal with its place
abbrev pub LineRead : List ℕ → Result RuleLine Refused → Type 0
LineRead file (Ok l) = (file_answer file ≡ Ok tt) × (held l ≡ rule_of file)
LineRead file (Err why) = read_answer file ≡ Err why
