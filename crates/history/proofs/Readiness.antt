-- At a closed cut an event is ready exactly when all that it awaits is done; and the sequences of ready events are the
-- compatible orders.
use Rattle.std.proofs.Common.{◌≡◌, ℕ, suc, ◌<◌, ◌≤◌, List, [], ◌∷◌, get_or, sym, refl, ap, subst, ⊎_elim, arith}
use Rattle.std.proofs.lemmas.Bool.{cases_eq, cases_lt}
use Rattle.history.proofs.Clocks.{wait_old}
use Rattle.history.proofs.ClocksStand.{clocks_stand}
use Rattle.history.proofs.Extension.{awaits_there, wait_new, nothing_closed}
use Rattle.history.proofs.Noted.{Accepted, accepted, opened_count, not_old}
use Rattle.history.proofs.Occurs.{one_same, one_other}
use Rattle.history.proofs.Precedes.{closed_clock, clock_other, awaits_station}
use Rattle.history.proofs.Runs.{Run, stop, step, run_compatible, compatible_run}
use Rattle.history.specs.Clocks.{Clock, of_event}
use Rattle.history.specs.Cuts.{Cut, nothing_done, advance, AwaitedDone, Closed, Ready, ReadySteps, done, then, ReadyWhenAwaited, StepsAreOrders}
use Rattle.history.specs.Histories.{History, awaits, count, noted, wait}
use Rattle.history.specs.Notes.{Made, empty, more}

-- an event awaits of its own station only earlier events
own_wait : (h : History) → Made h → (s n : ℕ) → suc n ≤ count h s → awaits (wait h s (suc n)) s ≤ n
own_wait h (empty k _ _) s n l = let z : ⊥ = omega (arith, opened_count k s) in absurd z
own_wait h (more {h = k} t e m p) s n l = ⊎_elim
    (λ (new : count k s < suc n). is_new (not_old k t e ok.on s (suc n) l new))
    (λ old. omega (arith, ap (λ w. awaits w s) (wait_old k t e ok.on s (suc n) old), own_wait k m s n old))
    (cases_lt (count k s) (suc n))
  where
    ok : Accepted k t e
    ok = accepted k t e p

    is_new : (s ≡ t) × (suc n ≡ suc (count k t)) → awaits (wait (noted k t e) s (suc n)) s ≤ n
    is_new (q, r) =
        let b : awaits (wait (noted k t e) t (suc (count k t))) t ≤ count k t =
        omega (arith, ap (λ w. awaits w t) (wait_new k t e ok), awaits_there k t e ok t) in
        omega (arith, r, b, ap (λ i. awaits (wait (noted k t e) i (suc n)) i) q, ap (λ i. awaits (wait (noted k t e) t i) t) r)

ready_awaited : (h : History) → Made h → (c : Cut) → (s : ℕ) → Ready h c s → AwaitedDone h c s
ready_awaited h m c s r = record {
  next = r.next;
  done = λ t. ⊎_elim
      (λ (e : t ≡ s). subst (λ i. awaits (wait h s (suc (c s))) i ≤ c i) (sym e) (own_wait h m s (c s) r.next))
      (λ ne.
      let k = clocks_stand h m s (suc (c s)) (omega arith, r.next) in
      omega (arith, k.2.closed s (suc (c s)) (omega (arith, k.2.own)) t, r.reached k.0 k.1.is t ne))
      (cases_eq t s);
}

awaited_ready : (h : History) (c : Cut) → Closed h c → (s : ℕ) → AwaitedDone h c s → Ready h c s
awaited_ready h c shut s a = record { next = a.next; reached = reached }
  where
    reached : (v : List ℕ) → Clock h s (suc (c s)) v → (t : ℕ) → (t ≡ s → ⊥) → get_or v t 0 ≤ c t
    reached v (of_event p w _ cp cw q) t ne =
        omega (
          arith,
          clock_other cp cw q t ne,
          closed_clock c shut cp (omega arith) t,
          closed_clock c shut cw (omega (arith, awaits_station h s (suc (c s)), a.done (wait h s (suc (c s))).station)) t,
        )

pub ready_when_awaited : ReadyWhenAwaited
ready_when_awaited h m c shut s = (ready_awaited h m c s, awaited_ready h c shut s)

-- doing an event whose awaited ones are done keeps the cut closed
advance_closed : (h : History) (c : Cut) (s : ℕ) → Closed h c → AwaitedDone h c s → Closed h (advance c s)
advance_closed h c s shut a = record {
  there = λ t. ⊎_elim
      (λ (e : s ≡ t). subst (λ i. advance c s i ≤ count h i) e (omega (arith, one_same s s refl, a.next)))
      (λ ne. omega (arith, one_other s t ne, shut.there t))
      (cases_eq s t);
  closed = closed;
}
  where
    closed : (t n : ℕ) → n ≤ advance c s t → (x : ℕ) → awaits (wait h t n) x ≤ advance c s x
    closed t n l x = ⊎_elim
        (λ (old : n < suc (c t)). omega (arith, shut.closed t n (omega arith) x))
        (λ new. ⊎_elim
        (λ (e : s ≡ t).
        let k : n ≡ suc (c s) = omega (arith, ap c e, one_same s t e) in
        omega (arith, ap (λ i. awaits (wait h i n) x) e, ap (λ i. awaits (wait h s i) x) k, a.done x))
        (λ ne. let z : ⊥ = omega (arith, one_other s t ne) in absurd z)
        (cases_eq s t))
        (cases_lt n (suc (c t)))

steps_run : (h : History) → Made h → (c : Cut) (o : List ℕ) → Closed h c → ReadySteps h c o → Run h c o (count h)
steps_run h m c o shut (done p) = stop p
steps_run h m c o shut (then {s = s} {o = o'} r q) =
    let a = ready_awaited h m c s r in step a (steps_run h m (advance c s) o' (advance_closed h c s shut a) q)

run_steps : (h : History) (c : Cut) (o : List ℕ) → Closed h c → Run h c o (count h) → ReadySteps h c o
run_steps h c [] shut (stop p) = done p
run_steps h c (s ∷ o) shut (step a r) = then (awaited_ready h c shut s a) (run_steps h (advance c s) o (advance_closed h c s shut a) r)

pub steps_are_orders : StepsAreOrders
steps_are_orders h m o = (
  λ q. run_compatible h o (steps_run h m nothing_done o (nothing_closed h) q),
  λ k. run_steps h nothing_done o (nothing_closed h) (compatible_run h o k),
)
