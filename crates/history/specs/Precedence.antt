-- What the call precedes answers.
use Rattle.std.specs.Prelude.{◌≡◌, ℕ, Bool, List, Ok, Err, Decides, Result}
use Rattle.history.specs.Histories.{History, There}
use Rattle.history.specs.Orders.{Compatible, Earlier}
use Rattle.history.specs.declared.EventId.{EventId}
use Rattle.history.specs.declared.Refusal.TheVariants.{NoSuchEvent}
use Rattle.history.specs.declared.Refused.{Refused}

-- the history has the event
abbrev pub Has : History → EventId → Type 0
Has h e = There h e.station e.number

-- the one event comes earlier than the other in every compatible order
abbrev pub AlwaysEarlier : History → EventId → EventId → Type 0
AlwaysEarlier h a b = (o : List ℕ) → Compatible h o → Earlier o a.station a.number b.station b.number

-- yes exactly when the first event comes earlier in every compatible order; refused where either is not there
abbrev pub Preceded : History → EventId → EventId → Result Bool Refused → Type 0
Preceded h a b (Ok yes') = (Has h a × Has h b) × Decides yes' (AlwaysEarlier h a b)
Preceded h a b (Err why) = (Has h a × Has h b → ⊥) × (why ≡ record { refusal = NoSuchEvent; place = 0 })
