use Rattle.std.proofs.Common.{◌≡◌, ◌+◌, map, sym, ◌∙◌, arith, w32, SFits, to_z, of_z, rules}
use Rattle.std.proofs.lemmas.Int.{to_z-of_z}
use Rattle.std.proofs.lemmas.List.{at_drop_all}
use Rattle.history.specs.Notes.{placed}
use Rattle.history.specs.RunFiles.{noting}
use Rattle.sheet.proofs.Loads.{record_in, led, few_events, accepted, refused}
use Rattle.sheet.specs.Sheets.{history}
use Rattle.sheet.proofs.types.Sheet.note_all.Goals as goal

pub overflow_cast-number : goal.overflow_cast-number
overflow_cast-number c = omega (arith, few_events c.loop-k.self, c.loop-k.invariant.1)

pub overflow_add-number : goal.overflow_add-number
overflow_add-number c = omega (arith, few_events c.loop-k.self, c.loop-k.invariant.1)

pub returns-in_err-map_err : goal.returns-in_err-map_err
returns-in_err-map_err c =
    let fits : SFits w32 c.from_be_bytes.result = search rules in
    let told : c.from_residual.result ≡ placed (c.loop-k.k + 1) c.put.result = search rules in
    refused (history c.loop-k.self) c.loop-k.k c.as_chunks.result.0.now (to_z w32 (of_z w32 c.from_be_bytes.result)) c.put.result
    c.loop-k-test.true (to_z-of_z w32 c.from_be_bytes.result fits ∙ c.from_be_bytes.ensures) c.put.ensures.answer
    (history c.args.self.now) c.args.records.now _ _ (led (history c.args.self.now) c.args.records.now c.as_chunks.result.0.now c.as_chunks.ensures.front ∙ sym c.loop-k.invariant.0) told c.from_residual.ensures.0

pub loop-k-preserved : goal.loop-k-preserved
loop-k-preserved c =
    let fits : SFits w32 c.from_be_bytes.result = search rules in
    let more = accepted (history c.loop-k.self) c.loop-k.k c.as_chunks.result.0.now (to_z w32 (of_z w32 c.from_be_bytes.result)) c.put.result
    c.loop-k-test.true (to_z-of_z w32 c.from_be_bytes.result fits ∙ c.from_be_bytes.ensures) c.put.ensures.answer
    (history c.put.new.self) c.put.ensures.after (search rules) in
    (more.0 ∙ c.loop-k.invariant.0, omega (arith, more.1, c.loop-k.invariant.1))

pub returns : goal.returns
returns c =
    led (history c.args.self.now) c.args.records.now c.as_chunks.result.0.now c.as_chunks.ensures.front
    ∙ sym c.loop-k.invariant.0
    ∙ at_drop_all (λ xs. noting (history c.loop-k.self) c.loop-k.k (map record_in xs)) _ c.loop-k.k c.loop-k-test.false
