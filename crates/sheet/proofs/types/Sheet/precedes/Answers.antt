use Rattle.sheet.proofs.Precedes.{differs, event_there, answers_same, answers_apart}
use Rattle.sheet.specs.Sheets.{history}
use Rattle.sheet.proofs.types.Sheet.precedes.Goals as goal

pub returns-then-ne : goal.returns-then-ne
returns-then-ne c =
    answers_apart c.args.self.now c.args.first c.args.second _ _
    (event_there (history c.args.self.now) c.args.first _ _ c.clock.ensures c.in_ok-ok_or.ensures.ok_part)
    (event_there (history c.args.self.now) c.args.second _ _ c.clock-2.ensures c.in_ok-reach.ensures.ok_part)
    c.ne.result (differs _ _ _ _ c.ne.result c.ne.ensures) c.if-ne.true

pub returns-else-ne : goal.returns-else-ne
returns-else-ne c =
    answers_same c.args.self.now c.args.first c.args.second _ _
    (event_there (history c.args.self.now) c.args.first _ _ c.clock.ensures c.in_ok-ok_or.ensures.ok_part)
    (event_there (history c.args.self.now) c.args.second _ _ c.clock-2.ensures c.in_ok-reach.ensures.ok_part)
    c.ne.result (differs _ _ _ _ c.ne.result c.ne.ensures) c.if-ne.false
