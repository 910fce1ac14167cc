-- The word of an order: its events as a rule sees them, in the order's succession.
use Rattle.std.specs.Prelude.{◌≡◌, ℕ, suc, ◌<◌, List, [], ◌∷◌, length, pos, Some, None, Option, slice_index}
use Rattle.history.specs.Cuts.{Cut, nothing_done, advance}
use Rattle.history.specs.Histories.{History, event, nth}
use Rattle.history.specs.Orders.{number_at}
use Rattle.history.specs.declared.Event.{Event}
use Rattle.history.specs.declared.Label.{Label}

-- a blank label stands for an event that is not there; no order of a history has one
abbrev pub label_of : ℕ → Option Event → Label
label_of s None = record { station = s; variable = 0; value = pos 0 }
label_of s (Some e) = record { station = s; variable = e.variable; value = e.value }

-- station, variable and value of event number n of station s
abbrev pub label : History → ℕ → ℕ → Label
label h s n = label_of s (event h s n)

-- the labels of the stations' next events, from a cut on
abbrev pub labels : History → Cut → List ℕ → List Label
labels h c [] = []
labels h c (s ∷ o) = label h s (suc (c s)) ∷ labels h (advance c s) o

abbrev pub word : History → List ℕ → List Label
word h o = labels h nothing_done o

-- what the word of an order has at each position
pub record Follows (h : History) (o : List ℕ) : Type 0 where
  pub long : length (word h o) ≡ length o
  pub at : (i : ℕ) → i < length o → nth (word h o) (suc i) ≡ Some (label h (slice_index o i) (number_at o i))

abbrev pub WordsFollow : Type 0
WordsFollow = (h : History) (o : List ℕ) → Follows h o
