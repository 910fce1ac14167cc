-- Every closed cut of a history made by notes is passed by a compatible order: by induction over the notes, since the event
-- noted last is awaited by no other.
use Rattle.std.proofs.Common.{◌≡◌, ℕ, zero, suc, ◌+◌, ◌<◌, ◌≤◌, min, eqb, List, [], ◌∷◌, ◌++◌, length, sym, refl, ap, ◌∙◌, subst, ⊎_elim, arith}
use Rattle.std.proofs.lemmas.List.{take_at, length-append}
use Rattle.std.proofs.lemmas.Bool.{cases_eq, cases_lt, cond_both, eqb-true}
use Rattle.history.proofs.Clocks.{wait_old}
use Rattle.history.proofs.ClocksStand.{clocks_stand, none_awaited}
use Rattle.history.proofs.Noted.{Accepted, accepted, opened_count, count_same, count_other, count_grows, event_new}
use Rattle.history.proofs.Occurs.{one_same, one_other}
use Rattle.history.proofs.Runs.{Run, stop, step, run_same, run_ends_same, run_append, run_counts, run_compatible}
use Rattle.history.specs.Cuts.{Cut, nothing_done, advance, AwaitedDone, Closed, CutsExtend, OrdersExist}
use Rattle.history.specs.Histories.{History, noted, awaits, count, wait, wait_of}
use Rattle.history.specs.Notes.{Made, empty, more}
use Rattle.history.specs.Orders.{one_if, occurs}
use Rattle.history.specs.declared.Event.{Event}

-- all that is awaited is there
pub full_closed : (h : History) → Made h → Closed h (count h)
full_closed h m = record { there = λ s. omega arith; closed = awaited }
  where
    awaited : (s n : ℕ) → n ≤ count h s → (t : ℕ) → awaits (wait h s n) t ≤ count h t
    awaited s zero l t = omega (arith, none_awaited t)
    awaited s (suc n) l t =
        let k = clocks_stand h m s (suc n) (omega arith, l) in
        omega (arith, k.2.closed s (suc n) (omega (arith, k.2.own)) t, k.2.there t)

pub nothing_closed : (h : History) → Closed h nothing_done
nothing_closed h = record {
  there = λ s. omega arith;
  closed = λ s n l t. omega (arith, ap (λ i. awaits (wait h s i) t) (none n l), none_awaited t);
}
  where
    none : (n : ℕ) → n ≤ 0 → n ≡ 0
    none n l = omega arith

module _ (h : History) (s : ℕ) (e : Event) (ok : Accepted h s e) where
  able_old : {c : Cut} {t : ℕ} → AwaitedDone h c t → AwaitedDone (noted h s e) c t
  able_old {c} {t} a = record {
    next = omega (arith, a.next, count_grows h s e ok.on t);
    done = λ x. omega (arith, ap (λ w. awaits w x) (wait_old h s e ok.on t (suc (c t)) a.next), a.done x);
  }

  run_old : {c d : Cut} {o : List ℕ} → Run h c o d → Run (noted h s e) c o d
  run_old (stop p) = stop p
  run_old (step a r) = step (able_old a) (run_old r)

  -- with the new event done before, the steps of the other stations go on as they did
  able_after : {c : Cut} {t : ℕ} → (s ≡ t → ⊥) → AwaitedDone h c t → AwaitedDone (noted h s e) (advance c s) t
  able_after {c} {t} ne a = record {
    next = omega (arith, same, a.next, count_grows h s e ok.on t);
    done = λ x. omega (arith, ap (λ n. awaits (wait (noted h s e) t (suc n)) x) same, (able_old a).done x);
  }
    where
      same : c t + one_if s t ≡ c t
      same = omega (arith, one_other s t ne)

  run_after : {c d : Cut} {o : List ℕ} → c s ≡ count h s → Run h c o d → Run (noted h s e) (advance c s) o (advance d s)
  run_after p (stop q) = stop (λ t. ap (λ n. n + one_if s t) (q t))
  run_after {c} p (step {s = t} a r) =
      step (able_after ne a) (run_same (λ x. omega arith) (run_after (omega (arith, one_other t s (λ q. ne (sym q)))) r))
    where
      ne : s ≡ t → ⊥
      ne q = omega (arith, a.next, p, subst (λ i. c i ≡ count h i) q p)

  -- the count of the new history
  count_new : (t : ℕ) → count h t + one_if s t ≡ count (noted h s e) t
  count_new t = ⊎_elim
      (λ (p : s ≡ t). subst (λ i. count h i + one_if s i ≡ count (noted h s e) i) p (omega (arith, one_same s s refl, count_same h s e ok.on)))
      (λ ne. omega (arith, one_other s t ne, count_other h s e ok.on t (λ q. ne (sym q))))
      (cases_eq s t)

  pub awaits_there : (t : ℕ) → awaits e.wait t ≤ count h t
  awaits_there t = cond_both (eqb e.wait.station t) e.wait.count 0 (λ n. n ≤ count h t)
      (λ p. subst (λ i. e.wait.count ≤ count h i) (eqb-true e.wait.station t p) ok.awaited_there)
      (λ _. omega arith)

  pub wait_new : wait (noted h s e) s (suc (count h s)) ≡ e.wait
  wait_new = ap wait_of (event_new h s e ok.on)

  -- the new event can be done wherever its station's events and those it awaits are
  able_new : (c : Cut) → c s ≡ count h s → ((t : ℕ) → awaits e.wait t ≤ c t) → AwaitedDone (noted h s e) c s
  able_new c p done = record {
    next = omega (arith, p, count_same h s e ok.on);
    done = λ t. omega (arith, ap (λ n. awaits (wait (noted h s e) s (suc n)) t) p, ap (λ w. awaits w t) wait_new, done t);
  }

  module _ (made : Made h) (c : Cut) (shut : Closed (noted h s e) c) where
    -- the cut without the new event
    old_cut : Cut
    old_cut t = min (c t) (count h t)

    old_closed : Closed h old_cut
    unfolding old_cut
    old_closed = record {
      there = λ t. omega arith;
      closed = λ t n l x.
          omega (
            arith,
            ap (λ w. awaits w x) (wait_old h s e ok.on t n (omega arith)),
            shut.closed t n (omega arith) x,
            (full_closed h made).closed t n (omega arith) x,
          );
    }

    -- a count other than the new event's station's is the old one
    old_other : (t : ℕ) → (s ≡ t → ⊥) → old_cut t ≡ c t
    unfolding old_cut
    old_other t ne = omega (arith, shut.there t, count_other h s e ok.on t (λ q. ne (sym q)))

    module _ (a b : List ℕ) (front : Run h nothing_done a old_cut) (rest : Run h old_cut b (count h)) where
      -- the cut lacks the new event, which is then done last
      late : c s ≤ count h s → (x : List ℕ) × (y : List ℕ) × Run (noted h s e) nothing_done x c × Run (noted h s e) c y (count (noted h s e))
      unfolding old_cut
      late l = (
        a,
        b ++ s ∷ [],
        run_ends_same same (run_old front),
        run_append (run_same same (run_old rest)) (step (able_new (count h) refl awaits_there) (stop count_new)),
      )
        where
          same : (t : ℕ) → old_cut t ≡ c t
          same t = ⊎_elim (λ (p : s ≡ t). subst (λ i. old_cut i ≡ c i) p (omega arith)) (old_other t) (cases_eq s t)

      -- the cut has the new event, which is then done as the cut's last
      early : count h s < c s → (x : List ℕ) × (y : List ℕ) × Run (noted h s e) nothing_done x c × Run (noted h s e) c y (count (noted h s e))
      unfolding old_cut
      early l = (
        a ++ s ∷ [],
        b,
        run_append (run_old front) (step (able_new old_cut full done) (stop same)),
        run_same same (run_ends_same count_new (run_after full rest)),
      )
        where
          full : old_cut s ≡ count h s
          full = omega arith

          last : c s ≡ suc (count h s)
          last = omega (arith, shut.there s, count_same h s e ok.on)

          same : (t : ℕ) → advance old_cut s t ≡ c t
          same t = ⊎_elim
              (λ (p : s ≡ t). subst (λ i. advance old_cut s i ≡ c i) p (omega (arith, one_same s s refl, full, last)))
              (λ ne. omega (arith, one_other s t ne, old_other t ne))
              (cases_eq s t)

          done : (t : ℕ) → awaits e.wait t ≤ old_cut t
          done t = omega (arith, awaits_there t, ap (λ w. awaits w t) wait_new, shut.closed s (suc (count h s)) (omega (arith, last)) t)

extends : (h : History) → Made h → (c : Cut) → Closed h c → (a : List ℕ) × (b : List ℕ) × Run h nothing_done a c × Run h c b (count h)
extends h (empty n _ _) c shut =
    ([], [], stop (λ s. omega (arith, shut.there s, opened_count n s)), stop (λ s. omega (arith, shut.there s, opened_count n s)))
extends h (more {h = k} s e m p) c shut =
    let ok = accepted k s e p in
    let i = extends k m (old_cut k s e ok m c shut) (old_closed k s e ok m c shut) in
    ⊎_elim
    (λ (l : count k s < c s). early k s e ok m c shut i.0 i.1 i.2 i.3 l)
    (λ l. late k s e ok m c shut i.0 i.1 i.2 i.3 l)
    (cases_lt (count k s) (c s))

pub cuts_extend : CutsExtend
cuts_extend h m c shut =
    let r = extends h m c shut in (
      r.0 ++ r.1,
      run_compatible h _ (run_append r.2 r.3),
      record {
        position = length r.0;
        within = omega (arith, length-append r.0 r.1);
        done = λ s. ap (occurs s) (take_at r.0 r.1 (length r.0) refl) ∙ omega (arith, run_counts r.2 s);
      },
    )

pub orders_exist : OrdersExist
orders_exist h m =
    let r = cuts_extend h m nothing_done (nothing_closed h) in (r.0, r.1)
