-- The parts of a rule file. For contracts of private functions.
use Rattle.std.specs.Prelude.{◌≡◌, ℕ, ◌*◌, ◌≤◌, Bool, true, false, not, ◌&&◌, ◌||◌, List, length, take, drop, Ok, Err, Result, ◌==◌, nat_le, nat_lt, slice_index}
use Rattle.std.specs.Borrow.{Bor}
use Rattle.history.specs.declared.Refusal.{Refusal}
use Rattle.history.specs.declared.Refusal.TheVariants.{GuardList, LineShape}
use Rattle.monitor.specs.Tables.{all_below, guard_lawful}
use Rattle.monitor.specs.declared.guard.Guard.{Guard}
use Rattle.rule.specs.Kinds.{back}
use Rattle.rule.specs.declared.kind.Kind.{Kind}
use Rattle.rule.specs.RuleFiles.{guards_of, marked, guard_bytes, line_shaped, file_answer}

-- n guards are there and lawful
abbrev pub all_listed : List ℕ → ℕ → Bool
all_listed bytes n = nat_le (10 * n) (length bytes) && all_below n (guard_lawful bytes)

-- the guards of these bytes, or none
abbrev pub Listed : List ℕ → ℕ → Result (List Guard) Refusal → Type 0
Listed bytes n (Ok guards) = (all_listed bytes n ≡ true) × (take n guards ≡ guards_of bytes n)
Listed bytes n (Err why) = (all_listed bytes n ≡ false) × (why ≡ GuardList)

-- the guard count and the bytes behind it, or the first reason of mark and version
pub record Opened (file : List ℕ) (count : ℕ) (rest : List ℕ) : Type 0 where
  pub mark : (nat_lt (length file) 6 || not (marked file)) ≡ false
  pub version : (slice_index file 3 == 0 && slice_index file 4 == 1) ≡ true
  pub count_is : count ≡ slice_index file 5
  pub behind : rest ≡ guard_bytes file

abbrev pub Header : List ℕ → Result (ℕ × Bor (List ℕ)) Refusal → Type 0
Header file (Ok (count, rest)) = Opened file count rest.now
Header file (Err why) = file_answer file ≡ Err why

-- the kind and the items of a line
pub record Shaped (line : List ℕ) (looks_back : Bool) (items : List ℕ) : Type 0 where
  pub shape : line_shaped line ≡ true
  pub kind : looks_back ≡ (slice_index line 0 == 60)
  pub few : length items ≤ 32
  pub items_are : items ≡ drop 1 line

abbrev pub Shape : List ℕ → Result (Kind × Bor (List ℕ)) Refusal → Type 0
Shape line (Ok (kind, items)) = Shaped line (back kind) items.now
Shape line (Err why) = (line_shaped line ≡ false) × (why ≡ LineShape)
