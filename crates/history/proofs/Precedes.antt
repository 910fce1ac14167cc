-- An event comes earlier than another in every compatible order exactly when it lies within the other's clock.
use Rattle.std.proofs.Common.{◌≡◌, ℕ, zero, suc, ◌<◌, ◌≤◌, max, eqb, List, length, get_or, take, set, sym, refl, ap, ◌∙◌, subst, ap₂, ⊎_elim, arith}
use Rattle.std.proofs.lemmas.List.{get_or-set_same, get_or-set_other, get_or_past, length-set, take_all}
use Rattle.std.proofs.lemmas.Bool.{cases_eq, cases_lt, cond-true, eq-eqb}
use Rattle.history.proofs.Clocks.{eight, get_or_larger}
use Rattle.history.proofs.ClocksStand.{clock_zero, clocks_stand, none_awaited}
use Rattle.history.proofs.Extension.{cuts_extend}
use Rattle.history.proofs.Occurs.{occurs_front, occurs_grows, stands_before, stands_after, stands_find}
use Rattle.history.specs.Clocks.{Clock, missing, of_event, larger, OneClock, Reaches}
use Rattle.history.specs.Cuts.{Cut, Closed, Passes, ClocksPrecede}
use Rattle.history.specs.Histories.{History, There, awaits, wait}
use Rattle.history.specs.Notes.{Made}
use Rattle.history.specs.Orders.{Compatible, Stands, Earlier, occurs, number_at}

pub awaits_station : (h : History) (s n : ℕ) → awaits (wait h s n) (wait h s n).station ≡ (wait h s n).count
awaits_station h s n = cond-true (eqb (wait h s n).station (wait h s n).station) (wait h s n).count 0 (eq-eqb _ _ refl)

-- at a place other than its own station a clock is the larger of the two that it is merged from
pub clock_other : {h : History} {s n : ℕ} {p w v : List ℕ} → Clock h s n p
    → Clock h (wait h s (suc n)).station (wait h s (suc n)).count w → v ≡ set (larger p w) s (suc n)
    → (t : ℕ) → (t ≡ s → ⊥) → get_or v t 0 ≡ max (get_or p t 0) (get_or w t 0)
clock_other {s = s} {n = n} {p = p} {w = w} cp cw q t ne =
    ap (λ y. get_or y t 0) q ∙ get_or-set_other (larger p w) s t (suc n) 0 ne ∙ get_or_larger p w (eight cp ∙ sym (eight cw)) t

get_or_set_most : (xs : List ℕ) (i a : ℕ) → get_or (set xs i a) i 0 ≤ a
get_or_set_most xs i a = ⊎_elim
    (λ (l : i < length xs). omega (arith, get_or-set_same xs i a 0 l))
    (λ l. omega (arith, get_or_past (set xs i a) i 0 (omega (arith, length-set xs i a))))
    (cases_lt i (length xs))

-- a closed cut has the clocks of its events
pub closed_clock : {h : History} {s n : ℕ} {v : List ℕ} (c : Cut) → Closed h c → Clock h s n v → n ≤ c s → (t : ℕ) → get_or v t 0 ≤ c t
closed_clock {h} c shut (missing {s = s} z) l t = omega (arith, clock_zero {h = h} {t = s} (missing z) refl t)
closed_clock {h} c shut (of_event {s = s} {n = n} {v = v} p w _ cp cw q) l t = ⊎_elim
    (λ (e : t ≡ s). subst (λ i. get_or v i 0 ≤ c i) (sym e) own)
    (λ ne. omega (arith, clock_other cp cw q t ne, closed_clock c shut cp (omega arith) t, closed_clock c shut cw awaited t))
    (cases_eq t s)
  where
    own : get_or v s 0 ≤ c s
    own = omega (arith, ap (λ y. get_or y s 0) q, get_or_set_most (larger p w) s (suc n))

    awaited : (wait h s (suc n)).count ≤ c (wait h s (suc n)).station
    awaited = omega (arith, awaits_station h s (suc n), shut.closed s (suc n) l (wait h s (suc n)).station)

-- what is done at a position of a compatible order is a closed cut
pub prefix_closed : (h : History) (o : List ℕ) → Compatible h o → (m : ℕ) → Closed h (λ t. occurs t (take m o))
prefix_closed h o k m = record { there = λ s. omega (arith, occurs_front s o m, k.each s); closed = awaited }
  where
    awaited : (s n : ℕ) → n ≤ occurs s (take m o) → (t : ℕ) → awaits (wait h s n) t ≤ occurs t (take m o)
    awaited s zero l t = omega (arith, none_awaited t)
    awaited s (suc n) l t =
        let f = stands_find o s (suc n) m (omega arith) l in
        omega (
          arith,
          ap₂ (λ x y. awaits (wait h x y) t) f.2.station f.2.number,
          k.waits f.0 f.2.within t,
          occurs_grows t o f.0 m (omega (arith, f.1)),
        )

-- where an event that is there stands
stands_in : (h : History) (o : List ℕ) → Compatible h o → (s n : ℕ) → There h s n → (i : ℕ) × Stands o s n i
stands_in h o k s n l =
    let f = stands_find o s n (length o) l.0 (omega (arith, ap (occurs s) (take_all (length o) o (omega arith)), k.each s, l.1)) in
    (f.0, f.2)

-- within the clock: earlier in every order
pub within_earlier : (h : History) (s n t k : ℕ) (v : List ℕ) → There h s n → There h t k → Clock h t k v → n ≤ get_or v s 0 → ((s ≡ t) × (n ≡ k) → ⊥)
    → (o : List ℕ) → Compatible h o → Earlier o s n t k
within_earlier h s n t k v ls lt c w other o compatible =
    let first = stands_in h o compatible s n ls in
    let second = stands_in h o compatible t k lt in
    record {
      first = first.0;
      second = second.0;
      stands_first = first.1;
      stands_second = second.1;
      before = ⊎_elim
          (λ (l : first.0 < suc second.0). ⊎_elim
          (λ (e : first.0 ≡ second.0).
          absurd (other (
            sym first.1.station ∙ ap (λ i. get_or o i 0) e ∙ second.1.station,
            sym first.1.number ∙ ap (number_at o) e ∙ second.1.number,
          )))
          (λ ne. omega arith)
          (cases_eq first.0 second.0))
          (λ l.
          let done : k ≤ occurs t (take (suc second.0) o) = stands_before o t k second.0 second.1 (suc second.0) (omega arith) in
          let z : ⊥ = omega (
            arith,
            closed_clock (λ x. occurs x (take (suc second.0) o)) (prefix_closed h o compatible (suc second.0)) c done s,
            stands_after o s n first.0 first.1 (suc second.0) l,
            w,
          ) in
          absurd z)
          (cases_lt first.0 (suc second.0));
    }

-- earlier in every order, and so in one that passes the clock as a cut
pub earlier_within : (h : History) → Made h → (s n t k : ℕ) (v : List ℕ) → There h t k → Clock h t k v
    → ((o : List ℕ) → Compatible h o → Earlier o s n t k) → (n ≤ get_or v s 0) × ((s ≡ t) × (n ≡ k) → ⊥)
earlier_within h m s n t k v lt c every = (
  omega (arith, stands_before r.0 s n e.first e.stands_first r.2.position reached, r.2.done s),
  λ (p, q). omega (
    arith,
    stands_before r.0 s n e.first e.stands_first e.second e.before,
    stands_after r.0 t k e.second e.stands_second e.second (omega arith),
    ap (λ x. occurs x (take e.second r.0)) p,
  ),
)
  where
    u : (w : List ℕ) × OneClock h t k w × Reaches h t k w
    u = clocks_stand h m t k lt

    reaches : Reaches h t k v
    reaches = subst (Reaches h t k) (sym (u.1.only v c)) u.2

    r : (o : List ℕ) × Compatible h o × Passes o (λ x. get_or v x 0)
    r = cuts_extend h m (λ x. get_or v x 0) record { there = reaches.there; closed = reaches.closed }

    e : Earlier r.0 s n t k
    e = every r.0 r.1

    reached : e.first < r.2.position
    reached = ⊎_elim
        (λ (l : e.second < r.2.position). omega (arith, e.before))
        (λ l. let z : ⊥ = omega (arith, stands_after r.0 t k e.second e.stands_second r.2.position l, r.2.done t, reaches.own) in absurd z)
        (cases_lt e.second r.2.position)

pub clocks_precede : ClocksPrecede
clocks_precede h m s n t k v ls lt c =
    (earlier_within h m s n t k v lt c, λ (w, other). within_earlier h s n t k v ls lt c w other)
