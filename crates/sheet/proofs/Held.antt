-- The history that a table's rows hold, and the clocks kept with its events.
use Rattle.std.proofs.Common.{◌≡◌, ℕ, zero, suc, ◌<◌, ◌≤◌, List, [], ◌∷◌, ◌++◌, map, length, get_or, set, replicate, Some, None, Option, sym, refl, ap, ◌∙◌, subst, ⊎_elim, arith}
use Rattle.std.proofs.lemmas.Option.{same_Some}
use Rattle.std.proofs.lemmas.List.{length-map, length_push, length-replicate, get_or_past, get_or-replicate, get_or-set_same, get_or-set_other, map-set, map_push}
use Rattle.std.proofs.lemmas.Bool.{cases_lt, cases_eq}
use Rattle.std.proofs.lemmas.List.Sums.{sum_by-cons}
use Rattle.std.specs.List.{sum_by}
use Rattle.std.specs.Option.{option_map}
use Rattle.history.proofs.Clocks.{kept, clock_prop, unique}
use Rattle.history.proofs.Noted.{Accepted, count_same, event_new}
use Rattle.history.proofs.Nth.{nth_push, nth_last, nth_there, nth_has, nth_map}
use Rattle.history.specs.Clocks.{Clock, Clocked, missing, of_event}
use Rattle.history.specs.Histories.{opened, events_of, event, count, total, noted, nth, wait, wait_of}
use Rattle.sheet.proofs.Tables.{get_or_map_default}
use Rattle.sheet.specs.Tables.{filled, there, rows, row, slot_count, event_in, clock_in, held, Kept, counts, next_clock}
use Rattle.sheet.specs.declared.table.Slot.{Slot}
use Rattle.sheet.specs.declared.table.Station.{Station}
use Rattle.sheet.specs.declared.table.Table.{Table}

pub held_length : (t : Table) → length (held t) ≡ length (rows t)
held_length t = length-map (rows t) (map event_in)

pub held_events : (t : Table) (s : ℕ) → events_of (held t) s ≡ map event_in (row t s)
held_events t s = get_or_map_default (map event_in) (rows t) s []

pub held_count : (t : Table) (s : ℕ) → count (held t) s ≡ length (row t s)
held_count t s = ap length (held_events t s) ∙ length-map (row t s) event_in

pub held_total : (t : Table) → total (held t) ≡ slot_count t
held_total t = summed (there t)
  where
    summed : (xs : List Station) → total (map (map event_in) (map filled xs)) ≡ sum_by (λ x. length (filled x)) xs
    summed [] = refl
    summed (x ∷ xs) =
        omega (arith, length-map (filled x) event_in, summed xs, sum_by-cons (λ y. length (filled y)) x xs)

pub held_blank : (n : ℕ) (t : Table) → rows t ≡ replicate n [] → held t ≡ opened n
held_blank n t p = ap (map (map event_in)) p ∙ empties n
  where
    empties : (k : ℕ) → map (map event_in) (replicate k []) ≡ replicate k []
    empties zero = refl
    empties (suc k) = ap (λ xs. [] ∷ xs) (empties k)

pub kept_blank : (n : ℕ) (t : Table) → rows t ≡ replicate n [] → Kept t
kept_blank n t p s k x q = absurd (never (nth_there (row t s) k x q) empty_row q)
  where
    empty_row : row t s ≡ []
    empty_row = ap (λ xs. get_or xs s []) p ∙ ⊎_elim
        (λ (l : s < n). get_or-replicate n s [] [] l)
        (λ l. get_or_past (replicate n []) s [] (omega (arith, length-replicate {A = List Slot} n [])))
        (cases_lt s n)

    never : k ≤ length (row t s) → row t s ≡ [] → nth (row t s) k ≡ Some x → ⊥
    never l e q' =
        let m : nth {A = Slot} [] k ≡ Some x = subst (λ xs. nth xs k ≡ Some x) e q' in
        let z : k ≡ 0 = omega (arith, ap length e) in
        let w : ◌≡◌ {A = ℕ} 0 1 = cc in omega arith

-- the clock kept for a number is the clock of that number
pub kept_at : (t : Table) → Kept t → (s k : ℕ) → k ≤ length (row t s) → Clock (held t) s k (counts (nth (row t s) k))
kept_at t all s zero l = missing refl
kept_at t all s (suc k) l =
    let x = nth_has (row t s) (suc k) (omega arith) l in
    subst (λ o. Clock (held t) s (suc k) (counts o)) (sym x.1) (all s (suc k) x.0 x.1)

pub kept_prop : (t : Table) → IsProp (Kept t)
kept_prop t f g i s k x q = clock_prop (f s k x q) (g s k x q) i

-- what a slot says of the history's event
module _ (t : Table) (s k : ℕ) where
  pub slot_event : option_map event_in (nth (row t s) k) ≡ event (held t) s k
  slot_event = sym (nth_map event_in (row t s) k) ∙ ap (λ es. nth es k) (sym (held_events t s))

  pub slot_clock : Kept t → (o : Option Slot) → o ≡ nth (row t s) k
      → Clocked (held t) s k (option_map clock_in o)
  slot_clock all None p =
      λ l. let x = nth_has (row t s) k l.0 (omega (arith, l.1, held_count t s)) in
      let z : ◌≡◌ {A = ℕ} 0 1 = cc (p, x.1) in omega arith
  slot_clock all (Some x) p = (
    (positive k p, omega (arith, nth_there (row t s) k x (sym p), held_count t s)),
    record { is = all s k x (sym p); only = λ u c. unique c (all s k x (sym p)) },
  )
    where
      positive : (i : ℕ) → Some x ≡ nth (row t s) i → 0 < i
      positive zero q = let z : ◌≡◌ {A = ℕ} 0 1 = cc in omega arith
      positive (suc i) q = omega arith

-- one slot more at the end of station s
module _ (t t' : Table) (s : ℕ) (x : Slot) (on : s < length (rows t))
    (put : rows t' ≡ set (rows t) s (row t s ++ x ∷ [])) where
  pub held_push : held t' ≡ noted (held t) s x.event
  held_push =
      ap (map (map event_in)) put
      ∙ map-set (map event_in) (rows t) s (row t s ++ x ∷ [])
      ∙ ap (set (held t) s) (map_push event_in (row t s) x ∙ ap (λ es. es ++ x.event ∷ []) (sym (held_events t s)))

  row_same : row t' s ≡ row t s ++ x ∷ []
  row_same = ap (λ xs. get_or xs s []) put ∙ get_or-set_same (rows t) s (row t s ++ x ∷ []) [] on

  row_other : (r : ℕ) → (r ≡ s → ⊥) → row t' r ≡ row t r
  row_other r ne = ap (λ xs. get_or xs r []) put ∙ get_or-set_other (rows t) s r (row t s ++ x ∷ []) [] ne

  -- the new clock is merged from those of the station's last event and of the last event awaited
  module _ (ok : Accepted (held t) s x.event) (all : Kept t)
      (new : x.clock ≡ next_clock t s x.event.wait) where
    wait_new : wait (noted (held t) s x.event) s (suc (length (row t s))) ≡ x.event.wait
    wait_new =
        ap (λ k. wait (noted (held t) s x.event) s (suc k)) (sym (held_count t s))
        ∙ ap wait_of (event_new (held t) s x.event ok.on)

    newest : Clock (noted (held t) s x.event) s (suc (length (row t s))) x.clock
    newest =
        of_event _ _
        (omega (arith, count_same (held t) s x.event ok.on, held_count t s))
        (kept (held t) s x.event ok.on (kept_at t all s (length (row t s)) (omega arith)))
        (subst
        (λ w. Clock (noted (held t) s x.event) w.station w.count (counts (nth (row t x.event.wait.station) x.event.wait.count)))
        (sym wait_new)
        (kept (held t) s x.event ok.on
        (kept_at t all x.event.wait.station x.event.wait.count
        (omega (arith, ok.awaited_there, held_count t x.event.wait.station)))))
        new

    kept_slot : (r k : ℕ) (y : Slot) → nth (row t' r) k ≡ Some y → Clock (noted (held t) s x.event) r k y.clock
    kept_slot r k y q = ⊎_elim at_station at_other (cases_eq r s)
      where
        at_other : (r ≡ s → ⊥) → Clock (noted (held t) s x.event) r k y.clock
        at_other ne =
            kept (held t) s x.event ok.on (all r k y (subst (λ xs. nth xs k ≡ Some y) (row_other r ne) q))

        at_station : r ≡ s → Clock (noted (held t) s x.event) r k y.clock
        at_station p = subst (λ i. Clock (noted (held t) s x.event) i k y.clock) (sym p)
            (⊎_elim is_old is_new (cases_lt k (suc (length (row t s)))))
          where
            found : nth (row t s ++ x ∷ []) k ≡ Some y
            found = subst (λ xs. nth xs k ≡ Some y) (ap (row t') p ∙ row_same) q

            is_old : k < suc (length (row t s)) → Clock (noted (held t) s x.event) s k y.clock
            is_old l =
                kept (held t) s x.event ok.on (all s k y (sym (nth_push (row t s) x k (omega arith)) ∙ found))

            is_new : suc (length (row t s)) ≤ k → Clock (noted (held t) s x.event) s k y.clock
            is_new l =
                let e : k ≡ suc (length (row t s)) = omega (arith, nth_there (row t s ++ x ∷ []) k y found, length_push (row t s) x) in
                let same : x ≡ y = same_Some x y (sym (nth_last (row t s) x) ∙ ap (nth (row t s ++ x ∷ [])) (sym e) ∙ found) in
                subst (λ i. Clock (noted (held t) s x.event) s i y.clock) (sym e)
                (subst (λ z. Clock (noted (held t) s x.event) s (suc (length (row t s))) z.clock) same newest)

    pub kept_push : Kept t'
    kept_push r k y q = subst (λ h. Clock h r k y.clock) (sym held_push) (kept_slot r k y q)
