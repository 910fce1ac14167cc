use Rattle.std.proofs.Common.{rules, ◌≡◌, ℕ, None, sym, ◌∙◌}
use Rattle.history.proofs.Nth.{nth_has}
use Rattle.history.specs.Histories.{History, There, event, events_of}
use Rattle.inspect.proofs.text.EventLine.of.Goals as goal

absent : (h : History) (s n : ℕ) → event h s n ≡ None → There h s n → ⊥
absent h s n e there =
    let has = nth_has (events_of h s) n there.0 there.1 in
    let p = sym e ∙ has.1 in
    cc

pub returns-in_err-event : goal.returns-in_err-event
returns-in_err-event c = search (rules, absent)
