-- What one noted event changes in a history, and what it leaves.
use Rattle.std.proofs.Common.{◌≡◌, ℕ, suc, ◌<◌, ◌≤◌, [], ◌∷◌, ◌++◌, length, Some, Ok, sym, ap, ◌∙◌, subst, ⊎_elim, add-one, arith}
use Rattle.std.proofs.lemmas.List.{get_or-set_same, get_or-set_other, get_or_past, get_or-replicate, length_push, length-replicate}
use Rattle.std.proofs.lemmas.Bool.{cases_eq, cases_lt}
use Rattle.std.proofs.lemmas.Bool.Decides.{nat_tests}
use Rattle.history.proofs.Nth.{nth_push, nth_last}
use Rattle.history.specs.Histories.{History, There, opened, events_of, count, noted, nth, event}
use Rattle.history.specs.Notes.{note_answer}
use Rattle.history.specs.declared.Event.{Event}

module _ (h : History) (s : ℕ) (e : Event) (on : s < length h) where
  pub events_same : events_of (noted h s e) s ≡ events_of h s ++ e ∷ []
  events_same = get_or-set_same h s (events_of h s ++ e ∷ []) [] on

  pub events_other : (t : ℕ) → (t ≡ s → ⊥) → events_of (noted h s e) t ≡ events_of h t
  events_other t ne = get_or-set_other h s t (events_of h s ++ e ∷ []) [] ne

  pub count_same : count (noted h s e) s ≡ suc (count h s)
  count_same = ap length events_same ∙ length_push (events_of h s) e ∙ add-one _

  pub count_other : (t : ℕ) → (t ≡ s → ⊥) → count (noted h s e) t ≡ count h t
  count_other t ne = ap length (events_other t ne)

  pub count_grows : (t : ℕ) → count h t ≤ count (noted h s e) t
  count_grows t = ⊎_elim
      (λ (p : t ≡ s). rw p (omega (arith, count_same)))
      (λ ne. omega (arith, count_other t ne))
      (cases_eq t s)

  -- an event of the old history is the event of that number in the new one
  pub event_old : (t n : ℕ) → n ≤ count h t → event (noted h s e) t n ≡ event h t n
  event_old t n l = ⊎_elim
      (λ (p : t ≡ s). rw p (ap (λ es. nth es n) events_same ∙ nth_push (events_of h s) e n (subst (λ x. n ≤ count h x) p l)))
      (λ ne. ap (λ es. nth es n) (events_other t ne))
      (cases_eq t s)

  -- the new event
  pub event_new : event (noted h s e) s (suc (count h s)) ≡ Some e
  event_new = ap (λ es. nth es (suc (count h s))) events_same ∙ nth_last (events_of h s) e

  -- whatever event is not old is the new one
  pub not_old : (t n : ℕ) → n ≤ count (noted h s e) t → count h t < n → (t ≡ s) × (n ≡ suc (count h s))
  not_old t n l new = ⊎_elim
      (λ (p : t ≡ s). (p, at_station p))
      (λ ne. let z : ⊥ = omega (arith, count_other t ne) in absurd z)
      (cases_eq t s)
    where
      at_station : t ≡ s → n ≡ suc (count h s)
      at_station p =
          let l' : n ≤ count (noted h s e) s = subst (λ x. n ≤ count (noted h s e) x) p l in
          let new' : count h s < n = subst (λ x. count h x < n) p new in
          omega (arith, count_same)

-- what an accepted note shows
pub record Accepted (h : History) (s : ℕ) (e : Event) : Type 0 where
  pub on : s < length h
  pub awaited_on : e.wait.station < length h
  pub awaited_there : e.wait.count ≤ count h e.wait.station
  pub room : count h s < 64

pub accepted : (h : History) (s : ℕ) (e : Event) → note_answer h s e ≡ Ok tt → Accepted h s e
accepted h s e p = record { on = grind (arith, nat_tests); awaited_on = grind (arith, nat_tests); awaited_there = grind (arith, nat_tests); room = grind (arith, nat_tests) }

pub opened_count : (n s : ℕ) → count (opened n) s ≡ 0
opened_count n s = ⊎_elim
    (λ (l : s < n). ap length (get_or-replicate n s [] [] l))
    (λ l. ap length (get_or_past (opened n) s [] (subst (λ x. x ≤ s) (sym (length-replicate n [])) l)))
    (cases_lt s n)

-- a station with events is on the sheet
pub on_sheet : (h : History) (s n : ℕ) → There h s n → s < length h
on_sheet h s n l = ⊎_elim
    (λ (b : s < length h). b)
    (λ b. let z : ⊥ = omega (arith, ap length (get_or_past h s [] b), l.0, l.1) in absurd z)
    (cases_lt s (length h))
