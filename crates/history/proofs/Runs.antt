-- Sequences of steps from cut to cut, each of an event whose awaited ones are done; and that those from the empty cut to the
-- full one are the compatible orders.
use Rattle.std.proofs.Common.{◌≡◌, ℕ, zero, suc, ◌+◌, ◌<◌, ◌≤◌, List, [], ◌∷◌, ◌++◌, length, get_or, take, sym, refl, ap, ◌∙◌, add-zero, zero-add, arith}
use Rattle.std.proofs.Math.Nat.{add_assoc}
use Rattle.history.proofs.Occurs.{one_same}
use Rattle.history.specs.Cuts.{Cut, nothing_done, advance, AwaitedDone}
use Rattle.history.specs.Histories.{History, awaits, count, wait}
use Rattle.history.specs.Orders.{Compatible, one_if, occurs}

pub data Run (h : History) : Cut → List ℕ → Cut → Type 0 where
  stop : {c d : Cut} → ((s : ℕ) → c s ≡ d s) → Run h c [] d
  step : {c d : Cut} {s : ℕ} {o : List ℕ} → AwaitedDone h c s → Run h (advance c s) o d → Run h c (s ∷ o) d

pub able_same : {h : History} {c d : Cut} {s : ℕ} → ((t : ℕ) → c t ≡ d t) → AwaitedDone h c s → AwaitedDone h d s
able_same {h} {c} {d} {s} e a = record {
  next = omega (arith, a.next, e s);
  done = λ t. omega (arith, ap (λ n. awaits (wait h s (suc n)) t) (e s), a.done t, e t);
}

pub run_same : {h : History} {c c' d : Cut} {o : List ℕ} → ((s : ℕ) → c s ≡ c' s) → Run h c o d → Run h c' o d
run_same e (stop p) = stop (λ s. sym (e s) ∙ p s)
run_same e (step {s = s} a r) = step (able_same e a) (run_same (λ t. ap (λ n. n + one_if s t) (e t)) r)

pub run_ends_same : {h : History} {c d d' : Cut} {o : List ℕ} → ((s : ℕ) → d s ≡ d' s) → Run h c o d → Run h c o d'
run_ends_same e (stop p) = stop (λ s. p s ∙ e s)
run_ends_same e (step a r) = step a (run_ends_same e r)

pub run_append : {h : History} {c d e : Cut} {a b : List ℕ} → Run h c a d → Run h d b e → Run h c (a ++ b) e
run_append (stop p) r = run_same (λ s. sym (p s)) r
run_append (step x q) r = step x (run_append q r)

pub run_counts : {h : History} {c d : Cut} {o : List ℕ} → Run h c o d → (t : ℕ) → c t + occurs t o ≡ d t
run_counts (stop p) t = omega (arith, p t)
run_counts (step {s = s} a r) t = omega (arith, run_counts r t)

-- what each position of a run awaits is done before it
pub run_waits : {h : History} {c d : Cut} {o : List ℕ} → Run h c o d → (i : ℕ) → i < length o → (t : ℕ)
    → awaits (wait h (get_or o i 0) (suc (c (get_or o i 0) + occurs (get_or o i 0) (take i o)))) t ≤ c t + occurs t (take i o)
run_waits (stop p) i l t = let z : ⊥ = omega arith in absurd z
run_waits {h} {c} (step {s = s} a r) zero l t =
    omega (arith, ap (λ n. awaits (wait h s (suc n)) t) (add-zero (c s)), a.done t)
run_waits {h} {c} (step {s = s} {o = o} a r) (suc i) l t =
    omega (
      arith,
      ap (λ n. awaits (wait h (get_or o i 0) (suc n)) t) (sym (add_assoc (c (get_or o i 0)) (one_if s (get_or o i 0)) (occurs (get_or o i 0) (take i o)))),
      run_waits r i (omega arith) t,
    )

-- and such a list is a run, where it does not lead past the history
pub run_from : (h : History) (c d : Cut) (o : List ℕ) → ((t : ℕ) → d t ≤ count h t) → ((t : ℕ) → c t + occurs t o ≡ d t)
    → ((i : ℕ) → i < length o → (t : ℕ)
    → awaits (wait h (get_or o i 0) (suc (c (get_or o i 0) + occurs (get_or o i 0) (take i o)))) t ≤ c t + occurs t (take i o))
    → Run h c o d
run_from h c d [] most each waits = stop (λ s. omega (arith, each s))
run_from h c d (s ∷ o) most each waits = step
    record {
      next = omega (arith, most s, each s, one_same s s refl);
      done = λ t. omega (arith, ap (λ n. awaits (wait h s (suc n)) t) (add-zero (c s)), waits 0 (omega arith) t);
    }
    (run_from h (advance c s) d o most (λ t. omega (arith, each t)) (λ i l t.
    omega (
      arith,
      ap (λ n. awaits (wait h (get_or o i 0) (suc n)) t) (sym (add_assoc (c (get_or o i 0)) (one_if s (get_or o i 0)) (occurs (get_or o i 0) (take i o)))),
      waits (suc i) (omega arith) t,
    )))

pub run_compatible : (h : History) (o : List ℕ) → Run h nothing_done o (count h) → Compatible h o
run_compatible h o r = record {
  each = λ s. omega (arith, run_counts r s);
  waits = λ i l t.
      omega (arith, ap (λ n. awaits (wait h (get_or o i 0) (suc n)) t) (zero-add (occurs (get_or o i 0) (take i o))), run_waits r i l t);
}

pub compatible_run : (h : History) (o : List ℕ) → Compatible h o → Run h nothing_done o (count h)
compatible_run h o k = run_from h nothing_done (count h) o (λ t. omega arith) (λ t. omega (arith, k.each t)) (λ i l t.
    omega (arith, ap (λ n. awaits (wait h (get_or o i 0) (suc n)) t) (zero-add (occurs (get_or o i 0) (take i o))), k.waits i l t))
