-- What an accepted note says of the sheet's table, and that the sheet keeps its invariant when the event is put.
use Rattle.std.proofs.Common.{◌≡◌, ℕ, ◌<◌, List, [], ◌∷◌, ◌++◌, length, set, Ok, sym, ap, ◌∙◌, subst, arith, length-set}
use mathlib.Core.Logic.{∥∥₁_map}
use Rattle.history.proofs.Noted.{Accepted, accepted}
use Rattle.history.specs.Histories.{noted}
use Rattle.history.specs.Notes.{Made, more, note_answer}
use Rattle.history.specs.declared.Event.{Event}
use Rattle.sheet.proofs.Held.{held_length, held_count, held_push, kept_push}
use Rattle.sheet.specs.Sheets.{history}
use Rattle.sheet.specs.Tables.{rows, row, held, Kept, next_clock}
use Rattle.sheet.specs.declared.table.Table.{Table}
use Rattle.sheet.specs.declared.types.Sheet.{Sheet}

module _ (sheet : Sheet) (s : ℕ) (e : Event) (ok : note_answer (history sheet) s e ≡ Ok tt) where
  shown : Accepted (history sheet) s e
  shown = accepted (history sheet) s e ok

  pub there : s < length (rows sheet.table)
  there = omega (arith, shown.on, held_length sheet.table)

  pub room : length (row sheet.table s) < 64
  room = omega (arith, shown.room, held_count sheet.table s)

  -- the sheet with the event put at the end of its station, with the clock that is merged for it
  module _ (t : Table) (clock : List ℕ)
      (put : rows t ≡ set (rows sheet.table) s (row sheet.table s ++ record { event = e; clock = clock } ∷ []))
      (merged : clock ≡ next_clock sheet.table s e.wait) where
    pub appended : held t ≡ noted (history sheet) s e
    appended = held_push sheet.table t s record { event = e; clock = clock } there put

    pub appended_length : length (rows t) ≡ length (rows sheet.table)
    appended_length = ap length put ∙ length-set (rows sheet.table) s _

    pub appended_made : ∥ Made (held t) ∥₁
    appended_made = ∥∥₁_map sheet.made (λ m. subst Made (sym appended) (more s e m ok))

    pub appended_kept : ∥ Kept t ∥₁
    appended_kept = ∥∥₁_map sheet.clocks (λ all.
        kept_push sheet.table t s record { event = e; clock = clock } there put shown all merged)
