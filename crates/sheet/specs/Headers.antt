-- What is read of a run file before its records.
use Rattle.std.specs.Prelude.{◌≡◌, ℕ, List, drop, Ok, Err, Result, slice_index}
use Rattle.std.specs.Borrow.{Bor}
use Rattle.history.specs.RunFiles.{file_answer}
use Rattle.history.specs.declared.Refusal.{Refusal}

pub record Read (file : List ℕ) (stations : ℕ) (rest : List ℕ) : Type 0 where
  pub answer : file_answer file ≡ Ok tt
  pub count : stations ≡ slice_index file 5
  pub behind : rest ≡ drop 6 file

-- the station count and the bytes behind it, or the first reason that lies in the file as a whole
abbrev pub Header : List ℕ → Result (ℕ × Bor (List ℕ)) Refusal → Type 0
Header file (Ok (stations, rest)) = Read file stations rest.now
Header file (Err why) = file_answer file ≡ Err why
