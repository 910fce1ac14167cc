-- In a history made by notes each event has exactly one clock, which is closed under awaiting.
use Rattle.std.proofs.Common.{◌≡◌, ℕ, suc, ◌<◌, ◌≤◌, max, eqb, List, length, get_or, set, sym, refl, ap, ◌∙◌, subst, subst₂, ⊎_elim, le_trans, arith, length-set}
use Rattle.std.proofs.lemmas.List.{get_or-set_same, get_or-set_other, get_or-replicate, get_or_past, length-replicate}
use Rattle.std.proofs.lemmas.Bool.{cases_eq, cases_lt, cond_both, eqb-true}
use Rattle.history.proofs.Noted.{Accepted, accepted, opened_count, on_sheet, event_old, event_new, not_old, count_same, count_grows}
use Rattle.history.proofs.Clocks.{get_or_larger, length_larger, eight, unique, kept, clock_there}
use Rattle.history.specs.Clocks.{Clock, missing, of_event, larger, zeros, ClocksStand}
use Rattle.history.specs.Histories.{History, opened, count, noted, wait, wait_of, awaits}
use Rattle.history.specs.Notes.{Made, empty, more}
use Rattle.history.specs.declared.Event.{Event}

-- what is shown of every clock along the notes
record Facts (h : History) (s n : ℕ) (v : List ℕ) : Type 0 where
  own : s < 8 → get_or v s 0 ≡ n
  there : (t : ℕ) → get_or v t 0 ≤ count h t
  waits : (x : ℕ) → awaits (wait h s n) x ≤ get_or v x 0
  within : (t k : ℕ) (u : List ℕ) → Clock h t k u → k ≤ get_or v t 0 → (x : ℕ) → get_or u x 0 ≤ get_or v x 0

record Sound (h : History) : Type 0 where
  short : length h ≤ 8
  has : (s n : ℕ) → n ≤ count h s → (v : List ℕ) × Clock h s n v
  facts : (s n : ℕ) (v : List ℕ) → Clock h s n v → Facts h s n v

zeros_at : (t : ℕ) → get_or zeros t 0 ≡ 0
zeros_at t = ⊎_elim (λ (l : t < 8). get_or-replicate 8 t 0 0 l) (λ l. get_or_past zeros t 0 l) (cases_lt t 8)

-- number 0 awaits nothing
pub none_awaited : (x : ℕ) → awaits record { station = 0; count = 0 } x ≡ 0
none_awaited x = cond_both (eqb 0 x) 0 0 (λ n. n ≡ 0) (λ _. refl) (λ _. refl)

pub clock_zero : {h : History} {t k : ℕ} {u : List ℕ} → Clock h t k u → k ≡ 0 → (x : ℕ) → get_or u x 0 ≡ 0
clock_zero (missing z) _ x = ap (λ y. get_or y x 0) z ∙ zeros_at x
clock_zero (of_event {n = n} _ _ _ _ _ _) p x = let q : ⊥ = omega arith in absurd q

-- what holds of the clock of number 0
missing_facts : {h : History} {s n : ℕ} {v : List ℕ} → Clock h s n v → n ≡ 0 → Facts h s n v
missing_facts {h} {s} {n} {v} c z = record {
  own = λ _. clock_zero c z s ∙ sym z;
  there = λ t. omega (arith, clock_zero c z t);
  waits = λ x. subst (λ i. awaits (wait h s i) x ≤ get_or v x 0) (sym z) (omega (arith, none_awaited x));
  within = λ t k u d l x. omega (arith, clock_zero d (none t k l) x);
}
  where
    none : (t k : ℕ) → k ≤ get_or v t 0 → k ≡ 0
    none t k l = omega (arith, clock_zero c z t)

opened_sound : (n : ℕ) → n ≤ 8 → Sound (opened n)
opened_sound n l = record {
  short = rw length-replicate l;
  has = λ s k b. (zeros, subst (λ i. Clock (opened n) s i zeros) (sym (omega (arith, opened_count n s))) (missing refl));
  facts = λ s k v c. missing_facts c (let b : k ≤ count (opened n) s = clock_there c in omega (arith, opened_count n s));
}

-- one note more
module _ (h : History) (s : ℕ) (e : Event) (ok : Accepted h s e) (sound : Sound h) where
  -- a clock of an old event is its clock in the old history
  old : {t n : ℕ} {v : List ℕ} → n ≤ count h t → Clock (noted h s e) t n v → Clock h t n v
  old {t} {n} {v} l c =
      let u = sound.has t n l in
      subst (λ x. Clock h t n x) (unique (kept h s e ok.on u.1) c) u.1

  previous : (v : List ℕ) × Clock h s (count h s) v
  previous = sound.has s (count h s) (omega arith)

  awaited : (v : List ℕ) × Clock h e.wait.station e.wait.count v
  awaited = sound.has e.wait.station e.wait.count ok.awaited_there

  merged : List ℕ
  merged = larger previous.0 awaited.0

  newest : List ℕ
  newest = set merged s (suc (count h s))

  wait_new : wait (noted h s e) s (suc (count h s)) ≡ e.wait
  wait_new = ap wait_of (event_new h s e ok.on)

  newest_clock : Clock (noted h s e) s (suc (count h s)) newest
  unfolding newest merged
  newest_clock =
      of_event previous.0 awaited.0 (omega (arith, count_same h s e ok.on)) (kept h s e ok.on previous.1)
      (subst (λ w. Clock (noted h s e) w.station w.count awaited.0) (sym wait_new) (kept h s e ok.on awaited.1)) refl

  previous_facts : Facts h s (count h s) previous.0
  previous_facts = sound.facts s (count h s) previous.0 previous.1

  awaited_facts : Facts h e.wait.station e.wait.count awaited.0
  awaited_facts = sound.facts e.wait.station e.wait.count awaited.0 awaited.1

  same_length : length previous.0 ≡ length awaited.0
  same_length = eight previous.1 ∙ sym (eight awaited.1)

  newest_same : get_or newest s 0 ≡ suc (count h s)
  unfolding newest merged
  newest_same =
      get_or-set_same merged s (suc (count h s)) 0
      (omega (arith, length_larger previous.0 awaited.0 same_length, eight previous.1, ok.on, sound.short))

  newest_other : (t : ℕ) → (t ≡ s → ⊥) → get_or newest t 0 ≡ max (get_or previous.0 t 0) (get_or awaited.0 t 0)
  unfolding newest merged
  newest_other t ne =
      get_or-set_other merged s t (suc (count h s)) 0 ne ∙ get_or_larger previous.0 awaited.0 same_length t

  above : (t : ℕ) → (get_or previous.0 t 0 ≤ get_or newest t 0) × (get_or awaited.0 t 0 ≤ get_or newest t 0)
  above t = ⊎_elim
      (λ (p : t ≡ s). rw p (omega (arith, newest_same, previous_facts.there s), omega (arith, newest_same, awaited_facts.there s)))
      (λ ne. (omega (arith, newest_other t ne), omega (arith, newest_other t ne)))
      (cases_eq t s)

  newest_there : (t : ℕ) → get_or newest t 0 ≤ count (noted h s e) t
  newest_there t = ⊎_elim
      (λ (p : t ≡ s). rw p (omega (arith, newest_same, count_same h s e ok.on)))
      (λ ne. omega (arith, newest_other t ne, previous_facts.there t, awaited_facts.there t, count_grows h s e ok.on t))
      (cases_eq t s)

  newest_waits : (x : ℕ) → awaits e.wait x ≤ get_or newest x 0
  newest_waits x =
      cond_both (eqb e.wait.station x) e.wait.count 0 (λ n. n ≤ get_or newest x 0)
      (λ p. subst (λ y. e.wait.count ≤ get_or newest y 0) (eqb-true e.wait.station x p) at_station)
      (λ _. omega arith)
    where
      at_station : e.wait.count ≤ get_or newest e.wait.station 0
      at_station =
          let b : e.wait.station < 8 = omega (arith, ok.awaited_on, sound.short) in
          omega (arith, awaited_facts.own b, (above e.wait.station).1)

  -- an event within the newest clock is the newest itself, or lies within one of the clocks that it is merged from
  newest_within : (t k : ℕ) (u : List ℕ) → Clock (noted h s e) t k u → k ≤ get_or newest t 0 → (x : ℕ) → get_or u x 0 ≤ get_or newest x 0
  newest_within t k u c l x = ⊎_elim at_own at_other (cases_eq t s)
    where
      by_previous : k ≤ get_or previous.0 t 0 → get_or u x 0 ≤ get_or newest x 0
      by_previous b =
          let o : Clock h t k u = old (omega (arith, previous_facts.there t)) c in
          omega (arith, previous_facts.within t k u o b x, (above x).0)

      by_awaited : k ≤ get_or awaited.0 t 0 → get_or u x 0 ≤ get_or newest x 0
      by_awaited b =
          let o : Clock h t k u = old (omega (arith, awaited_facts.there t)) c in
          omega (arith, awaited_facts.within t k u o b x, (above x).1)

      itself : t ≡ s → k ≡ suc (count h s) → get_or u x 0 ≤ get_or newest x 0
      itself p q =
          let c' : Clock (noted h s e) s (suc (count h s)) u = subst (λ i. Clock (noted h s e) s i u) q (subst (λ i. Clock (noted h s e) i k u) p c) in
          omega (arith, ap (λ w. get_or w x 0) (unique c' newest_clock))

      at_own : t ≡ s → get_or u x 0 ≤ get_or newest x 0
      at_own p = ⊎_elim
          (λ (b : k < suc (count h s)).
          let m : get_or previous.0 t 0 ≡ count h s = ap (λ i. get_or previous.0 i 0) p ∙ previous_facts.own (omega (arith, ok.on, sound.short)) in
          by_previous (omega arith))
          (λ b.
          let m : get_or newest t 0 ≡ suc (count h s) = ap (λ i. get_or newest i 0) p ∙ newest_same in
          itself p (omega arith))
          (cases_lt k (suc (count h s)))

      at_other : (t ≡ s → ⊥) → get_or u x 0 ≤ get_or newest x 0
      at_other ne = ⊎_elim
          (λ (b : get_or previous.0 t 0 < k). by_awaited (omega (arith, newest_other t ne)))
          by_previous
          (cases_lt (get_or previous.0 t 0) k)

  newest_facts : Facts (noted h s e) s (suc (count h s)) newest
  newest_facts = record {
    own = λ _. newest_same;
    there = newest_there;
    waits = λ x. subst (λ w. awaits w x ≤ get_or newest x 0) (sym wait_new) (newest_waits x);
    within = newest_within;
  }

  old_facts : (t n : ℕ) (v : List ℕ) → Clock h t n v → Facts (noted h s e) t n v
  old_facts t n v c =
      let f = sound.facts t n v c in
      record {
        own = f.own;
        there = λ x. omega (arith, f.there x, count_grows h s e ok.on x);
        waits = λ x. subst (λ w. awaits w x ≤ get_or v x 0) (sym (ap wait_of (event_old h s e ok.on t n (clock_there c)))) (f.waits x);
        within = λ x k u d l. f.within x k u (old (omega (arith, f.there x)) d) l;
      }

  noted_sound : Sound (noted h s e)
  noted_sound = record {
    short = rw length-set sound.short;
    has = λ t n l. ⊎_elim (λ (b : count h t < n). has_new t n l b) (λ b. has_old t n b) (cases_lt (count h t) n);
    facts = λ t n v c. ⊎_elim (λ (b : count h t < n). facts_new t n v c b) (λ b. old_facts t n v (old b c)) (cases_lt (count h t) n);
  }
    where
      has_old : (t n : ℕ) → n ≤ count h t → (v : List ℕ) × Clock (noted h s e) t n v
      has_old t n b = let o = sound.has t n b in (o.0, kept h s e ok.on o.1)

      has_new : (t n : ℕ) → n ≤ count (noted h s e) t → count h t < n → (v : List ℕ) × Clock (noted h s e) t n v
      has_new t n l b =
          let p = not_old h s e ok.on t n l b in
          (newest, subst₂ (λ i j. Clock (noted h s e) i j newest) (sym p.0) (sym p.1) newest_clock)

      facts_new : (t n : ℕ) (v : List ℕ) → Clock (noted h s e) t n v → count h t < n → Facts (noted h s e) t n v
      facts_new t n v c b =
          let p = not_old h s e ok.on t n (clock_there c) b in
          let n' : Clock (noted h s e) t n newest = subst₂ (λ i j. Clock (noted h s e) i j newest) (sym p.0) (sym p.1) newest_clock in
          subst (λ w. Facts (noted h s e) t n w) (unique n' c)
          (subst₂ (λ i j. Facts (noted h s e) i j newest) (sym p.0) (sym p.1) newest_facts)

made_sound : (h : History) → Made h → Sound h
made_sound h (empty n _ l) = opened_sound n l
made_sound h (more {h = h₀} s e m p) = noted_sound h₀ s e (accepted h₀ s e p) (made_sound h₀ m)

pub clocks_stand : ClocksStand
clocks_stand h m s n l =
    let k = made_sound h m in
    let c = k.has s n l.1 in
    let f = k.facts s n c.0 c.1 in (
      c.0,
      record { is = c.1; only = λ u d. unique d c.1 },
      record {
        eight = eight c.1;
        own = f.own (omega (arith, on_sheet h s n l, k.short));
        there = f.there;
        closed = λ t i b x.
            let d = k.has t i (le_trans b (f.there t)) in
            omega (arith, (k.facts t i d.0 d.1).waits x, f.within t i d.0 d.1 b x);
        within = f.within;
      },
    )
