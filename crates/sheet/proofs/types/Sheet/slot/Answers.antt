use mathlib.Core.Logic.{∥∥₁_elim}
use Rattle.std.proofs.Common.{ap, ◌∙◌}
use Rattle.std.specs.Option.{option_map}
use Rattle.sheet.proofs.Held.{kept_prop, slot_event, slot_clock}
use Rattle.sheet.specs.Tables.{event_in}
use Rattle.sheet.proofs.types.Sheet.slot.Goals as goal

pub returns : goal.returns
returns c = record {
  event =
      ap (option_map event_in) c.slot.ensures
      ∙ slot_event c.args.self.now.table c.args.event.station c.args.event.number;
  clock =
      slot_clock c.args.self.now.table c.args.event.station c.args.event.number
      (∥∥₁_elim c.args.self.now.clocks (kept_prop _) (λ all. all)) c.slot.result c.slot.ensures;
}
