-- What open and note answer, and the history that they leave.
use Rattle.std.specs.Prelude.{◌≡◌, ℕ, ◌≤◌, Bool, cond, not, ◌&&◌, ◌||◌, length, is_ok, Ok, Err, Result, ◌==◌, nat_le, nat_lt}
use Rattle.history.specs.Histories.{History, opened, noted, count}
use Rattle.history.specs.declared.Event.{Event}
use Rattle.history.specs.declared.Refusal.{Refusal}
use Rattle.history.specs.declared.Refusal.TheVariants.{StationCount, NoSuchStation, VariableRange, StationFull, AwaitedStation, AwaitedCount}
use Rattle.history.specs.declared.Refused.{Refused}

-- done, or the reason why not
abbrev pub Answer : Type 0
Answer = Result (Unit {0}) Refusal

-- an answer with the place of its refusal
abbrev pub placed : ℕ → Answer → Result (Unit {0}) Refused
placed place (Ok v) = Ok v
placed place (Err why) = Err record { refusal = why; place = place }

-- a sheet has 1 to 8 stations
abbrev pub allowed_count : ℕ → Bool
allowed_count n = nat_le 1 n && nat_le n 8

abbrev pub open_answer : ℕ → Answer
open_answer n = cond (allowed_count n) (Ok tt) (Err StationCount)

abbrev pub after_open : History → ℕ → History
after_open h n = cond (is_ok (open_answer n)) (opened n) h

-- the awaited station is not on the sheet, or it is named though nothing is awaited
abbrev pub misplaced_wait : History → Event → Bool
misplaced_wait h e = nat_le (length h) e.wait.station || (e.wait.count == 0 && not (e.wait.station == 0))

-- the first reason that applies when event e is noted at the end of station s
abbrev pub note_answer : History → ℕ → Event → Answer
note_answer h s e =
    cond (nat_le (length h) s) (Err NoSuchStation)
    (cond (nat_lt 31 e.variable) (Err VariableRange)
    (cond (nat_le 64 (count h s)) (Err StationFull)
    (cond (misplaced_wait h e) (Err AwaitedStation)
    (cond (nat_lt (count h e.wait.station) e.wait.count) (Err AwaitedCount)
    (Ok tt)))))

abbrev pub after_note : History → ℕ → Event → History
after_note h s e = cond (is_ok (note_answer h s e)) (noted h s e) h

-- a history made by notes: some stations were opened, and events were noted to them, one after another
pub data Made : History → Type 0 where
  empty : (n : ℕ) → 1 ≤ n → n ≤ 8 → Made (opened n)
  more : {h : History} (s : ℕ) (e : Event) → Made h → note_answer h s e ≡ Ok tt → Made (noted h s e)
