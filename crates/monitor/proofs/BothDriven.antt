-- Both is driven to a bad state exactly when each of its parts is.
use Rattle.std.proofs.Common.{◌≡◌, ℕ, ◌+◌, ◌*◌, ◌/◌, ◌%◌, ◌<◌, Bool, true, ◌&&◌, ltb, List, ap, ◌∙◌, ap₂, mul_comm, arith}
use Rattle.std.proofs.lemmas.Nat.{mul-add-lt, div-mul-add, mod-mul-add}
use Rattle.std.proofs.lemmas.Bool.{and_parts, and_from, lt-ltb}
use Rattle.history.specs.declared.Label.{Label}
use Rattle.monitor.proofs.EitherDriven.{limited_within, beyond_none}
use Rattle.monitor.specs.Combinations.{both}
use Rattle.monitor.specs.Driven.{Within, BothDriven}
use Rattle.monitor.specs.Meanings.{Meaning, Lawful, Run, ends, goes, Drives}

module _ (a b : Meaning) (la : Lawful a) (lb : Lawful b) (in-limit : Within a.states b.states (a.states * b.states)) where
  -- the number of a pair of states
  pair : ℕ → ℕ → ℕ
  pair x y = x * b.states + y

  -- a pair of states is a state, and its parts are found again
  pair_below : (x y : ℕ) → x < a.states → y < b.states → ltb (pair x y) (both a b).states ≡ true
  unfolding pair
  pair_below x y lx ly =
      let n = limited_within a.states b.states (a.states * b.states) in-limit in
      lt-ltb _ _ (omega (arith, n, mul_comm a.states b.states, mul-add-lt x b.states y a.states lx ly))

  -- a question that is asked of both parts
  asked : (f g : ℕ → Bool) (x y : ℕ) → y < b.states → f x ≡ true → g y ≡ true → (f (pair x y / b.states) && g (pair x y % b.states)) ≡ true
  unfolding pair
  asked f g x y l p q =
      and_from _ _ (ap f (div-mul-add x b.states y l) ∙ p) (ap g (mod-mul-add x b.states y l) ∙ q)

  step_pair : (x y : ℕ) (e : Label) (u v : ℕ) → a.step x e u ≡ true → b.step y e v ≡ true → (both a b).step (pair x y) e (pair u v) ≡ true
  unfolding pair
  step_pair x y e u v p q =
      and_from _ _ (pair_below x y (la.from x e u p) (lb.from y e v q))
      (and_from _ _ (pair_below u v (la.to x e u p) (lb.to y e v q))
      (and_from _ _
      (ap₂ (λ i j. a.step i e j) (div-mul-add x b.states y (lb.from y e v q)) (div-mul-add u b.states v (lb.to y e v q)) ∙ p)
      (ap₂ (λ i j. b.step i e j) (mod-mul-add x b.states y (lb.from y e v q)) (mod-mul-add u b.states v (lb.to y e v q)) ∙ q)))

  run_pair : {x u : ℕ} {w : List Label} → Run a x w u → (y v : ℕ) → Run b y w v → Run (both a b) (pair x y) w (pair u v)
  run_pair ends y v ends = ends
  run_pair (goes {s = x} {u = x'} {e = e} p r) y v (goes {u = y'} q s) = goes (step_pair x y e x' y' p q) (run_pair r y' v s)

  run_parts : {s t : ℕ} {w : List Label} → Run (both a b) s w t → Run a (s / b.states) w (t / b.states) × Run b (s % b.states) w (t % b.states)
  run_parts ends = (ends, ends)
  run_parts (goes {s = s} {u = u} {e = e} p r) =
      let q = and_parts (a.step (s / b.states) e (u / b.states)) _ (and_parts (ltb u _) _ (and_parts (ltb s _) _ p).1).1 in
      let i = run_parts r in
      (goes q.0 i.0, goes q.1 i.1)

  parts : (w : List Label) → Drives (both a b) w → Drives a w × Drives b w
  parts w d =
      let s = and_parts (a.start (d.first / b.states)) _ (and_parts (ltb d.first _) _ d.starts).1 in
      let e = and_parts (a.bad (d.last / b.states)) _ (and_parts (ltb d.last _) _ d.ends_bad).1 in
      let r = run_parts d.run in (
        record { first = d.first / b.states; last = d.last / b.states; starts = s.0; run = r.0; ends_bad = e.0 },
        record { first = d.first % b.states; last = d.last % b.states; starts = s.1; run = r.1; ends_bad = e.1 },
      )

  whole : (w : List Label) → Drives a w × Drives b w → Drives (both a b) w
  whole w (p, q) = record {
    first = pair p.first q.first;
    last = pair p.last q.last;
    starts = and_from _ _ (pair_below _ _ (la.starts _ p.starts) (lb.starts _ q.starts))
        (asked a.start b.start p.first q.first (lb.starts _ q.starts) p.starts q.starts);
    run = run_pair p.run q.first q.last q.run;
    ends_bad = and_from _ _ (pair_below _ _ (la.bads _ p.ends_bad) (lb.bads _ q.ends_bad))
        (asked a.bad b.bad p.last q.last (lb.bads _ q.ends_bad) p.ends_bad q.ends_bad);
  }

pub both_driven : (a b : Meaning) → Lawful a → Lawful b → BothDriven a b
both_driven a b la lb = record {
  within = λ i w. (parts a b la lb i w, whole a b la lb i w);
  beyond = λ out w d. beyond_none a.states b.states (a.states * b.states) d.first _ out d.starts;
}
