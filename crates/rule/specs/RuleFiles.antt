-- Rule files: their bytes, the line that they hold, and what read answers.
use Rattle.std.specs.Prelude.{ℕ, zero, suc, ◌*◌, Bool, cond, not, ◌&&◌, ◌||◌, List, [], ◌∷◌, ◌++◌, length, drop, Ok, Err, Result, ◌==◌, nat_le, nat_lt, slice_index, slice_index_or}
use Rattle.history.specs.Notes.{Answer}
use Rattle.history.specs.declared.Refusal.TheVariants.{NotARuleFile, RuleVersion, GuardList, LineShape}
use Rattle.history.specs.declared.Refused.{Refused}
use Rattle.monitor.specs.Guards.{guard_at}
use Rattle.monitor.specs.Tables.{all_below, guard_lawful}
use Rattle.monitor.specs.declared.guard.Guard.{Guard}
use Rattle.formula.specs.Formulas.{Future, Past}
use Rattle.formula.specs.Lines.{future_line, past_line}

-- the first n guards of a list of guard bytes
abbrev pub guards_of : List ℕ → ℕ → List Guard
guards_of bytes zero = []
guards_of bytes (suc n) = guards_of bytes n ++ guard_at bytes n ∷ []

-- a rule: whether it is a past line, its guards, and the bytes of its items
pub record Rule : Type 0 where
  pub looks_back : Bool
  pub guards : List Guard
  pub items : List ℕ

-- the formula of a rule
pub data Formula : Type 0 where
  ahead : Future → Formula
  behind : Past → Formula

abbrev pub ahead_of : Result Future Refused → Result Formula Refused
ahead_of (Ok f) = Ok (ahead f)
ahead_of (Err why) = Err why

abbrev pub behind_of : Result Past Refused → Result Formula Refused
behind_of (Ok f) = Ok (behind f)
behind_of (Err why) = Err why

abbrev pub formula_of : Rule → Result Formula Refused
formula_of r = cond r.looks_back (behind_of (past_line r.guards r.items)) (ahead_of (future_line r.guards r.items))

-- the bytes RUL
abbrev pub marked : List ℕ → Bool
marked file = slice_index file 0 == 82 && (slice_index file 1 == 85 && slice_index file 2 == 76)

abbrev pub guard_bytes : List ℕ → List ℕ
guard_bytes file = drop 6 file

-- at most 26 guards, all there, and each outside byte 0 or 1
abbrev pub guards_listed : List ℕ → Bool
guards_listed file =
    let n : ℕ = slice_index_or file 5 0 in
    nat_le n 26 && (nat_le (10 * n) (length (guard_bytes file)) && all_below n (guard_lawful (guard_bytes file)))

-- the line stands behind the guards: the kind, `<` or `>`, and 1 to 32 items
abbrev pub line_bytes : List ℕ → List ℕ
line_bytes file = drop (10 * slice_index file 5) (guard_bytes file)

abbrev pub line_shaped : List ℕ → Bool
line_shaped line = (nat_le 2 (length line) && nat_le (length line) 33) && (slice_index line 0 == 60 || slice_index line 0 == 62)

-- the first of the reasons that lie in the file as a whole
abbrev pub file_answer : List ℕ → Answer
file_answer file =
    cond (nat_lt (length file) 6 || not (marked file)) (Err NotARuleFile)
    (cond (not (slice_index file 3 == 0 && slice_index file 4 == 1)) (Err RuleVersion)
    (cond (not (guards_listed file)) (Err GuardList)
    (cond (not (line_shaped (line_bytes file))) (Err LineShape)
    (Ok tt))))

-- the rule that a file holds
abbrev pub rule_of : List ℕ → Rule
rule_of file = record {
  looks_back = (slice_index (line_bytes file) 0 == 60);
  guards = guards_of (guard_bytes file) (slice_index file 5);
  items = drop 1 (line_bytes file);
}

-- what read answers: the file's formula, or the first refusal with its place
abbrev pub and_then : Answer → Result Formula Refused → Result Formula Refused
and_then (Ok v) next = next
and_then (Err why) next = Err record { refusal = why; place = 0 }

abbrev pub read_answer : List ℕ → Result Formula Refused
read_answer file = and_then (file_answer file) (formula_of (rule_of file))

-- what the caller of read is told
abbrev pub told : Result Formula Refused → Result (Unit {0}) Refused
told (Ok f) = Ok tt
told (Err why) = Err why
