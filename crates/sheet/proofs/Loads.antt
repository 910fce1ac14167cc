-- One record of a run file is noted.
use Rattle.std.proofs.Common.{◌≡◌, ℕ, suc, ◌+◌, ◌*◌, ◌/◌, ◌<◌, ◌≤◌, cond, is_ok, List, [], ◌∷◌, map, length, get_or, drop, ℤ, Ok, Err, Result, sym, refl, ap, ◌∙◌, subst, arith, w32, to_z}
use mathlib.Core.Logic.{∥∥₁_elim}
use native.Mathlib.Bridge.{le_prop}
use Rattle.std.proofs.lemmas.Bool.{false≢true}
use Rattle.std.proofs.lemmas.List.{drop_more}
use Rattle.history.proofs.Loads.{total_more, made_total}
use Rattle.history.specs.Histories.{History, noted, total}
use Rattle.history.specs.Notes.{Answer, placed, note_answer, after_note}
use Rattle.std.specs.Result.{IsErr}
use Rattle.std.specs.Simd.{first_chunks}
use Rattle.history.specs.RunFiles.{Record, record_of, and_then, noting, records}
use Rattle.history.specs.declared.Event.{Event}
use Rattle.history.specs.declared.Refused.{Refused}
use Rattle.sheet.specs.Sheets.{history, NotedAll}
use Rattle.sheet.specs.declared.types.Sheet.{Sheet}

pub few_events : (sheet : Sheet) → total (history sheet) ≤ 512
few_events sheet = ∥∥₁_elim sheet.made le_prop (made_total (history sheet))

-- the record in a chunk of eight bytes
abbrev pub record_in : List ℕ → Record
record_in c =
    record_of (get_or c 0 0) (get_or c 1 0) (get_or c 2 0) (get_or c 3 0) (get_or c 4 0) (get_or c 5 0) (get_or c 6 0) (get_or c 7 0)

-- the records of some bytes are those in their whole chunks
records_are : (xs : List ℕ) → records xs ≡ map record_in (first_chunks 8 (length xs / 8) xs)
records_are [] = refl
records_are (a ∷ []) = refl
records_are (a ∷ b ∷ []) = refl
records_are (a ∷ b ∷ c ∷ []) = refl
records_are (a ∷ b ∷ c ∷ d ∷ []) = refl
records_are (a ∷ b ∷ c ∷ d ∷ e ∷ []) = refl
records_are (a ∷ b ∷ c ∷ d ∷ e ∷ f ∷ []) = refl
records_are (a ∷ b ∷ c ∷ d ∷ e ∷ f ∷ g ∷ []) = refl
records_are (a ∷ b ∷ c ∷ d ∷ e ∷ f ∷ g ∷ i ∷ xs) =
    let n : length {A = ℕ} (a ∷ b ∷ c ∷ d ∷ e ∷ f ∷ g ∷ i ∷ xs) / 8 ≡ suc (length xs / 8) = omega arith in
    ap (λ rs. record_of a b c d e f g i ∷ rs) (records_are xs)
    ∙ sym (ap (λ k. map record_in (first_chunks 8 k (a ∷ b ∷ c ∷ d ∷ e ∷ f ∷ g ∷ i ∷ xs))) n)

pub led : (h : History) (xs : List ℕ) (cs : List (List ℕ)) → cs ≡ first_chunks 8 (length xs / 8) xs
    → noting h 0 (records xs) ≡ noting h 0 (map record_in cs)
led h xs cs p = ap (noting h 0) (records_are xs ∙ ap (map record_in) (sym p))

-- the event in a chunk of eight bytes, with that value
abbrev event_in : List ℕ → ℤ → Event
event_in c value = record { variable = get_or c 1 0; value = value; wait = record { station = get_or c 6 0; count = get_or c 7 0 } }

-- the record in chunk k is noted, with that answer
module _ (h : History) (k : ℕ) (cs : List (List ℕ)) (value : ℤ) (a : Answer) (l : k < length cs) where
  abbrev c : List ℕ
  c = get_or cs k []

  -- what is left to note, or the refusal
  abbrev next : Answer → ℤ → Result History Refused
  next x z = and_then (placed (k + 1) x) (noting (noted h (get_or c 0 0) (event_in c z)) (k + 1) (map record_in (drop (k + 1) cs)))

  module _ (is : value ≡ to_z w32 (get_or c 2 0 * 16777216 + get_or c 3 0 * 65536 + get_or c 4 0 * 256 + get_or c 5 0))
      (answer : a ≡ note_answer h (get_or c 0 0) (event_in c value)) where
    taken : noting h k (map record_in (drop k cs)) ≡ next a value
    taken =
        ap (λ xs. noting h k (map record_in xs)) (drop_more cs k [] l)
        ∙ ap (λ z. next (note_answer h (get_or c 0 0) (event_in c z)) z) (sym is)
        ∙ ap (λ x. next x value) (sym answer)

    -- a refusal ends the row of notes that led here
    pub refused : (before : History) (bytes : List ℕ) (after : History) (r : Result (Unit {0}) Refused)
        → noting before 0 (records bytes) ≡ noting h k (map record_in (drop k cs))
        → r ≡ placed (k + 1) a
        → IsErr r
        → NotedAll before bytes after r
    refused before bytes after r led told err =
        subst (NotedAll before bytes after) (sym told) (ends a (led ∙ taken) (subst IsErr told err))
      where
        ends : (x : Answer) → noting before 0 (records bytes) ≡ next x value → IsErr (placed (k + 1) x) → NotedAll before bytes after (placed (k + 1) x)
        ends (Ok v) p e = absurd (false≢true e)
        ends (Err why) p e = p

    pub accepted : (h' : History) → h' ≡ after_note h (get_or c 0 0) (event_in c value) → a ≡ Ok tt
        → (noting h' (k + 1) (map record_in (drop (k + 1) cs)) ≡ noting h k (map record_in (drop k cs))) × (total h' ≡ total h + 1)
    accepted h' after ok =
        let ok' : note_answer h (get_or c 0 0) (event_in c value) ≡ Ok tt = sym answer ∙ ok in (
          ap (λ g. noting g (k + 1) (map record_in (drop (k + 1) cs)))
              (after ∙ ap (λ x. cond (is_ok x) (noted h (get_or c 0 0) (event_in c value)) h) ok')
              ∙ sym (taken ∙ ap (λ x. next x value) ok),
          ap total after ∙ total_more h (get_or c 0 0) (event_in c value) ok',
        )
