-- Run files: their bytes, and what load answers and leaves.
use Rattle.std.specs.Prelude.{◌≡◌, ℕ, suc, ◌+◌, ◌-◌, ◌*◌, ◌%◌, ◌^◌, ◌≤◌, Bool, cond, not, ◌&&◌, ◌||◌, List, [], ◌∷◌, ◌++◌, length, drop, ℤ, pos, negsuc, Ok, Err, Result, ◌==◌, nat_lt, slice_index}
use Rattle.history.specs.Histories.{History, opened, noted}
use Rattle.history.specs.Notes.{Answer, allowed_count, note_answer, placed}
use Rattle.history.specs.declared.Event.{Event}
use Rattle.history.specs.declared.Refusal.{Refusal}
use Rattle.history.specs.declared.Refusal.TheVariants.{NotARunFile, RunVersion, StationCount, PartialRecord}
use Rattle.history.specs.declared.Refused.{Refused}

-- four bytes, the high one first, in two's complement
abbrev pub signed : ℕ → ℕ → ℕ → ℕ → ℤ
signed a b c d =
    let n : ℕ = a * 16777216 + b * 65536 + c * 256 + d in
    cond (nat_lt n (2 ^ 31)) (pos n) (negsuc (2 ^ 32 - suc n))

-- a record: the event and the station that it is noted to
pub record Record : Type 0 where
  pub station : ℕ
  pub event : Event

abbrev pub record_of : ℕ → ℕ → ℕ → ℕ → ℕ → ℕ → ℕ → ℕ → Record
record_of s v a b c d t n =
    record { station = s; event = record { variable = v; value = signed a b c d; wait = record { station = t; count = n } } }

-- the records of a run file's rest, eight bytes each: station, variable, the value's four, awaited station, awaited count
abbrev pub records : List ℕ → List Record
records [] = []
records (s ∷ []) = []
records (s ∷ v ∷ []) = []
records (s ∷ v ∷ a ∷ []) = []
records (s ∷ v ∷ a ∷ b ∷ []) = []
records (s ∷ v ∷ a ∷ b ∷ c ∷ []) = []
records (s ∷ v ∷ a ∷ b ∷ c ∷ d ∷ []) = []
records (s ∷ v ∷ a ∷ b ∷ c ∷ d ∷ t ∷ []) = []
records (s ∷ v ∷ a ∷ b ∷ c ∷ d ∷ t ∷ n ∷ rest) = record_of s v a b c d t n ∷ records rest

-- go on only after an answer that is no refusal
abbrev pub and_then : Result (Unit {0}) Refused → Result History Refused → Result History Refused
and_then (Ok v) next = next
and_then (Err why) next = Err why

-- the history after the records are noted in turn, or the first refusal with its record's number; n records came before
abbrev pub noting : History → ℕ → List Record → Result History Refused
noting h n [] = Ok h
noting h n (r ∷ rs) =
    and_then (placed (n + 1) (note_answer h r.station r.event)) (noting (noted h r.station r.event) (n + 1) rs)

-- the three bytes RUN
abbrev pub marked : List ℕ → Bool
marked file = slice_index file 0 == 82 && (slice_index file 1 == 85 && slice_index file 2 == 78)

-- the file's bytes 3 and 4 are 0 and 1
abbrev pub first_version : List ℕ → Bool
first_version file = slice_index file 3 == 0 && slice_index file 4 == 1

-- the first of the reasons that lie in the file as a whole: mark, version, station count, whole records
abbrev pub file_answer : List ℕ → Answer
file_answer file =
    cond (nat_lt (length file) 6 || not (marked file)) (Err NotARunFile)
    (cond (not (first_version file)) (Err RunVersion)
    (cond (not (allowed_count (slice_index file 5))) (Err StationCount)
    (cond (not ((length file - 6) % 8 == 0)) (Err PartialRecord)
    (Ok tt))))

-- the history that a run file holds, or the first reason why it is turned away: its records are noted in turn on a spare
-- history of the file's station count
abbrev pub load_answer : List ℕ → Result History Refused
load_answer file = and_then (placed 0 (file_answer file)) (noting (opened (slice_index file 5)) 0 (records (drop 6 file)))

-- what the caller of load is told
abbrev pub told : Result History Refused → Result (Unit {0}) Refused
told (Ok h) = Ok tt
told (Err why) = Err why

-- the history that load leaves: the file's, or the one that was there
abbrev pub loaded : History → Result History Refused → History
loaded old (Ok h) = h
loaded old (Err why) = old

-- a load's refusal has a place of at most 513: the 512 events that fill every station, and one more
abbrev pub LoadPlaces : Type 0
LoadPlaces = (file : List ℕ) (why : Refused) → load_answer file ≡ Err why → why.place ≤ 513

-- the notes are accepted one after another, and lead from the one history to the other
pub data Notes : History → List Record → History → Type 0 where
  none : {h : History} → Notes h [] h
  next : {h k : History} {r : Record} {rs : List Record}
      → note_answer h r.station r.event ≡ Ok tt
      → Notes (noted h r.station r.event) rs k
      → Notes h (r ∷ rs) k

-- the record at which a row of notes stops: those before it are accepted, and it is refused
pub record Stops (h : History) (rs : List Record) (place : ℕ) (why : Refusal) : Type 0 where
  pub before : List Record
  pub at : Record
  pub after : List Record
  pub there : History
  pub split : rs ≡ before ++ at ∷ after
  pub accepted : Notes h before there
  pub refusal : note_answer there at.station at.event ≡ Err why
  pub numbered : place ≡ length before + 1

-- Records in turn: they are accepted one after another and lead to the history answered, or the refusal answered is that of
-- the first record refused, with its number.
abbrev pub InTurn : History → List Record → Result History Refused → Type 0
InTurn h rs (Ok k) = Notes h rs k
InTurn h rs (Err why) = Stops h rs why.place why.refusal

abbrev pub RecordsInTurn : Type 0
RecordsInTurn = (h : History) (rs : List Record) → InTurn h rs (noting h 0 rs)
