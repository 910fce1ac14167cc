-- Either is driven to a bad state exactly when one of its parts is.
use Rattle.std.proofs.Common.{◌≡◌, ℕ, ◌+◌, ◌-◌, ◌<◌, ◌≤◌, Bool, true, false, cond, ◌&&◌, ltb, ◌⊎◌, List, sym, subst, inl, inr, ⊎_elim, arith}
use Rattle.std.proofs.lemmas.Bool.{cases_lt, true≢false}
use Rattle.std.proofs.lemmas.Bool.Decides.{nat_tests}
use Rattle.history.specs.declared.Label.{Label}
use Rattle.monitor.specs.Combinations.{limited, either}
use Rattle.monitor.specs.Driven.{Within, EitherDriven}
use Rattle.monitor.specs.Meanings.{Meaning, Lawful, Run, ends, goes, Drives}

pub limited_within : (m n k : ℕ) → Within m n k → limited m n k ≡ k
limited_within m n k w = grind (arith, nat_tests)

module _ (a b : Meaning) (la : Lawful a) (lb : Lawful b) (in-limit : Within a.states b.states (a.states + b.states)) where
  size : (either a b).states ≡ a.states + b.states
  size = limited_within a.states b.states (a.states + b.states) in-limit

  left_step : (s : ℕ) (e : Label) (t : ℕ) → s < a.states → (either a b).step s e t ≡ true → (t < a.states) × (a.step s e t ≡ true)
  left_step s e t l p = (grind (arith, nat_tests), grind (arith, nat_tests))

  step_left : (s : ℕ) (e : Label) (t : ℕ) → a.step s e t ≡ true → (either a b).step s e t ≡ true
  step_left s e t p =
      let ls = la.from s e t p in
      let lt = la.to s e t p in
      let n = size in
      grind (arith, nat_tests)

  right_step : (s : ℕ) (e : Label) (t : ℕ) → a.states ≤ s → (either a b).step s e t ≡ true → (a.states ≤ t) × (b.step (s - a.states) e (t - a.states) ≡ true)
  right_step s e t l p = (grind (arith, nat_tests), grind (arith, nat_tests))

  back : (k : ℕ) → (a.states + k) - a.states ≡ k
  back k = omega arith

  -- a step of B's, wherever its states stand in the combination
  step_right : (s : ℕ) (e : Label) (t : ℕ) → b.step s e t ≡ true → (either a b).step (a.states + s) e (a.states + t) ≡ true
  step_right s e t p =
      let ls = lb.from s e t p in
      let lt = lb.to s e t p in
      let n = size in
      let p' : b.step ((a.states + s) - a.states) e ((a.states + t) - a.states) ≡ true =
      subst (λ i. b.step i e ((a.states + t) - a.states) ≡ true) (sym (back s)) (subst (λ i. b.step s e i ≡ true) (sym (back t)) p) in
      grind (arith, nat_tests)

  run_left : {s t : ℕ} {w : List Label} → s < a.states → Run (either a b) s w t → Run a s w t × (t < a.states)
  run_left l ends = (ends, l)
  run_left l (goes {s = s} {u = u} {e = e} p r) =
      let q = left_step s e u l p in
      let i = run_left q.0 r in
      (goes q.1 i.0, i.1)

  left_run : {s t : ℕ} {w : List Label} → Run a s w t → Run (either a b) s w t
  left_run ends = ends
  left_run (goes {s = s} {u = u} {e = e} p r) = goes (step_left s e u p) (left_run r)

  run_right : {s t : ℕ} {w : List Label} → a.states ≤ s → Run (either a b) s w t → Run b (s - a.states) w (t - a.states) × (a.states ≤ t)
  run_right l ends = (ends, l)
  run_right l (goes {s = s} {u = u} {e = e} p r) =
      let q = right_step s e u l p in
      let i = run_right q.0 r in
      (goes q.1 i.0, i.1)

  right_run : {s t : ℕ} {w : List Label} → Run b s w t → Run (either a b) (a.states + s) w (a.states + t)
  right_run ends = ends
  right_run (goes {s = s} {u = u} {e = e} p r) = goes (step_right s e u p) (right_run r)

  parts : (w : List Label) → Drives (either a b) w → Drives a w ⊎ Drives b w
  parts w d = ⊎_elim by_left by_right (cases_lt d.first a.states)
    where
      by_left : d.first < a.states → Drives a w ⊎ Drives b w
      by_left l =
          let r = run_left l d.run in
          let lt = r.1 in let p = d.starts in let q = d.ends_bad in
          inl (record { first = d.first; last = d.last; starts = grind (arith, nat_tests); run = r.0; ends_bad = grind (arith, nat_tests) })

      by_right : a.states ≤ d.first → Drives a w ⊎ Drives b w
      by_right l =
          let r = run_right l d.run in
          let lt = r.1 in let p = d.starts in let q = d.ends_bad in
          inr (record { first = d.first - a.states; last = d.last - a.states; starts = grind (arith, nat_tests); run = r.0; ends_bad = grind (arith, nat_tests) })

  whole_left : (w : List Label) → Drives a w → Drives (either a b) w
  whole_left w d =
      let p = la.starts d.first d.starts in let q = la.bads d.last d.ends_bad in
      let n = size in let s = d.starts in let e = d.ends_bad in
      record { first = d.first; last = d.last; starts = grind (arith, nat_tests); run = left_run d.run; ends_bad = grind (arith, nat_tests) }

  whole_right : (w : List Label) → Drives b w → Drives (either a b) w
  whole_right w d = record {
    first = a.states + d.first;
    last = a.states + d.last;
    starts = shifted b.start d.first (lb.starts d.first d.starts) d.starts (a.start (a.states + d.first));
    run = right_run d.run;
    ends_bad = shifted b.bad d.last (lb.bads d.last d.ends_bad) d.ends_bad (a.bad (a.states + d.last));
  }
    where
      shifted : (f : ℕ → Bool) (k : ℕ) → k < b.states → f k ≡ true → (x : Bool)
          → (ltb (a.states + k) (either a b).states && cond (ltb (a.states + k) a.states) x (f ((a.states + k) - a.states))) ≡ true
      shifted f k l p x =
          let n = size in
          let p' : f ((a.states + k) - a.states) ≡ true = subst (λ i. f i ≡ true) (sym (back k)) p in
          grind (arith, nat_tests)

-- beyond the limit there is no state to start from
pub beyond_none : (m n k s : ℕ) (rest : Bool) → (Within m n k → ⊥) → (ltb s (limited m n k) && rest) ≡ true → ⊥
beyond_none m n k s rest out p = ⊎_elim
    (λ (zero-m : m < 1). let z : ◌≡◌ {A = Bool} true false = grind (arith, nat_tests) in true≢false z)
    (λ some-m. ⊎_elim
    (λ (zero-n : n < 1). let z : ◌≡◌ {A = Bool} true false = grind (arith, nat_tests) in true≢false z)
    (λ some-n. ⊎_elim
    (λ (many : 4096 < k). let z : ◌≡◌ {A = Bool} true false = grind (arith, nat_tests) in true≢false z)
    (λ few. out (record { left = some-m; right = some-n; few = few }))
    (cases_lt 4096 k))
    (cases_lt n 1))
    (cases_lt m 1)

pub either_driven : (a b : Meaning) → Lawful a → Lawful b → EitherDriven a b
either_driven a b la lb = record {
  within = λ i w. (parts a b la lb i w, ⊎_elim (whole_left a b la lb i w) (whole_right a b la lb i w));
  beyond = λ out w d. beyond_none a.states b.states (a.states + b.states) d.first _ out d.starts;
}
