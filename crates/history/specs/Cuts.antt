-- Cuts: how many events of each station are done. And the laws that lead from cuts to compatible orders.
use Rattle.std.specs.Prelude.{◌≡◌, ℕ, suc, ◌+◌, ◌≤◌, ◌↔◌, List, [], ◌∷◌, length, take, ◌≢◌, slice_index}
use Rattle.history.specs.Clocks.{Clock}
use Rattle.history.specs.Histories.{History, There, awaits, count, wait}
use Rattle.history.specs.Notes.{Made}
use Rattle.history.specs.Orders.{Compatible, Earlier, occurs, one_if}

-- for each station the count of its events that are done
abbrev pub Cut : Type 0
Cut = ℕ → ℕ

abbrev pub nothing_done : Cut
nothing_done s = 0

-- one event more of station s is done
abbrev pub advance : Cut → ℕ → Cut
advance c s t = c t + one_if s t

-- a cut of the history that has, with each event, all that it awaits
pub record Closed (h : History) (c : Cut) : Type 0 where
  pub there : (s : ℕ) → c s ≤ count h s
  pub closed : (s n : ℕ) → n ≤ c s → (t : ℕ) → awaits (wait h s n) t ≤ c t

-- an order passes the cut: after some position exactly the cut's events are done
pub record Passes (o : List ℕ) (c : Cut) : Type 0 where
  pub position : ℕ
  pub within : position ≤ length o
  pub done : (s : ℕ) → occurs s (take position o) ≡ c s

-- what station s's next event awaits is done
pub record AwaitedDone (h : History) (c : Cut) (s : ℕ) : Type 0 where
  pub next : suc (c s) ≤ count h s
  pub done : (t : ℕ) → awaits (wait h s (suc (c s))) t ≤ c t

-- station s's next event is ready: at every other station its clock is at most the count done
pub record Ready (h : History) (c : Cut) (s : ℕ) : Type 0 where
  pub next : suc (c s) ≤ count h s
  pub reached : (v : List ℕ) → Clock h s (suc (c s)) v → (t : ℕ) → (t ≢ s) → slice_index v t ≤ c t

-- a sequence of ready events, from a cut to the end
pub data ReadySteps (h : History) : Cut → List ℕ → Type 0 where
  done : {c : Cut} → ((s : ℕ) → c s ≡ count h s) → ReadySteps h c []
  then : {c : Cut} {s : ℕ} {o : List ℕ} → Ready h c s → ReadySteps h (advance c s) o → ReadySteps h c (s ∷ o)

-- Every closed cut of a history made by notes is passed by a compatible order.
abbrev pub CutsExtend : Type 0
CutsExtend = (h : History) → Made h → (c : Cut) → Closed h c → (o : List ℕ) × Compatible h o × Passes o c

-- Every history made by notes has a compatible order.
abbrev pub OrdersExist : Type 0
OrdersExist = (h : History) → Made h → (o : List ℕ) × Compatible h o

-- An event comes earlier than another in every compatible order exactly when it lies within the other's clock and is not the
-- other itself.
abbrev pub ClocksPrecede : Type 0
ClocksPrecede =
    (h : History) → Made h → (s n t k : ℕ) (v : List ℕ) → There h s n → There h t k → Clock h t k v
    → ((o : List ℕ) → Compatible h o → Earlier o s n t k) ↔ ((n ≤ slice_index v s) × ((s ≡ t) × (n ≡ k) → ⊥))

-- At a closed cut the next event of a station is ready exactly when all that it awaits is done.
abbrev pub ReadyWhenAwaited : Type 0
ReadyWhenAwaited = (h : History) → Made h → (c : Cut) → Closed h c → (s : ℕ) → Ready h c s ↔ AwaitedDone h c s

-- The sequences of ready events from the empty cut to the full one are exactly the compatible orders.
abbrev pub StepsAreOrders : Type 0
StepsAreOrders = (h : History) → Made h → (o : List ℕ) → ReadySteps h nothing_done o ↔ Compatible h o
