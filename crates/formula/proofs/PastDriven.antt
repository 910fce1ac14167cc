-- A past line's automaton is driven to its bad state exactly by the sequences on which the line fails at some position: it is
-- deterministic, and carries the bits that what was read deserves, read backward.
use Rattle.std.proofs.Common.{◌≡◌, ℕ, zero, suc, ◌+◌, ◌^◌, ◌<◌, Bool, true, false, cond, ◌&&◌, ltb, List, [], ◌∷◌, length, Decides, sym, refl, ap, ◌∙◌, subst, ap₂, ⊎_elim, arith}
use Rattle.std.proofs.lemmas.Bool.{and_parts, and_from, and_left, and_right, lt-ltb, eq-eqb, eqb-true, cond-true, cond-false, cases_Bool, true≢false}
use Rattle.history.specs.declared.Label.{Label}
use Rattle.monitor.specs.Meanings.{Run, ends, goes, Drives}
use Rattle.formula.proofs.Backward.{back, decides_at_index}
use Rattle.formula.proofs.Bits.{bits_number, number_below}
use Rattle.formula.proofs.Deserved.{deserved, length_deserved, deserved_end, values_right}
use Rattle.formula.proofs.Satisfied.{satisfies, not_held}
use Rattle.formula.specs.Automata.{number_of, bits_of, mirrored, past_next, past_step, past}
use Rattle.formula.specs.Formulas.{Future, Past, items}
use Rattle.formula.specs.Sequences.{HoldsThroughout}
use Rattle.formula.specs.Theorem.{PastDriven}

-- the line holds at every position of w, where r was read before, the newest first
abbrev pub holding : Future → List Label → List Label → Bool
holding f r [] = true
holding f r (e ∷ w) = satisfies f (e ∷ r) && holding f (e ∷ r) w

holding_at : (f : Future) (r w : List Label) → holding f r w ≡ true → (i : ℕ) → i < length w → satisfies f (back r w i) ≡ true
holding_at f r [] p i l = let z : ⊥ = omega arith in absurd z
holding_at f r (e ∷ w) p zero l = (and_parts (satisfies f (e ∷ r)) _ p).0
holding_at f r (e ∷ w) p (suc i) l = holding_at f (e ∷ r) w (and_parts (satisfies f (e ∷ r)) _ p).1 i (omega arith)

at_holding : (f : Future) (r w : List Label) → ((i : ℕ) → i < length w → satisfies f (back r w i) ≡ true) → holding f r w ≡ true
at_holding f r [] all = refl
at_holding f r (e ∷ w) all = and_from _ _ (all 0 (omega arith)) (at_holding f (e ∷ r) w (λ i l. all (suc i) (omega arith)))

module _ (p : Past) where
  -- the state after r was read and the line held
  state : List Label → ℕ
  state [] = 0
  state (e ∷ r) = suc (suc (number_of (deserved (mirrored p) (e ∷ r))))

  state_below : (r : List Label) → state r < 2 ^ items (mirrored p) + 2
  unfolding state
  state_below [] = omega arith
  state_below (e ∷ r) =
      omega (arith, subst (λ m. number_of (deserved (mirrored p) (e ∷ r)) < 2 ^ m) (length_deserved (mirrored p) (e ∷ r)) (number_below (deserved (mirrored p) (e ∷ r))))

  -- one event more, from the bits that what was read deserves
  next_is : (e : Label) (r : List Label) → past_next (mirrored p) e (deserved (mirrored p) r) ≡ cond (satisfies (mirrored p) (e ∷ r)) (state (e ∷ r)) 1
  unfolding state
  next_is e r =
      let v = values_right (mirrored p) e r in
      ap₂ (λ x y. cond x (2 + number_of y) 1) v.one v.all
      ∙ ap (λ n. cond (satisfies (mirrored p) (e ∷ r)) n 1) (two (number_of (deserved (mirrored p) (e ∷ r))))
    where
      two : (n : ℕ) → 2 + n ≡ suc (suc n)
      two n = omega arith

  step_is : (e : Label) (r : List Label) → past_step (mirrored p) (state r) e ≡ cond (satisfies (mirrored p) (e ∷ r)) (state (e ∷ r)) 1
  unfolding state
  step_is e [] = ap (past_next (mirrored p) e) (sym (deserved_end (mirrored p))) ∙ next_is e []
  step_is e (x ∷ r) =
      ap (past_next (mirrored p) e)
      (subst (λ m. bits_of m (number_of (deserved (mirrored p) (x ∷ r))) ≡ deserved (mirrored p) (x ∷ r)) (length_deserved (mirrored p) (x ∷ r)) (bits_number (deserved (mirrored p) (x ∷ r))))
      ∙ next_is e (x ∷ r)

  stepped : (s : ℕ) (e : Label) (t : ℕ) → (past p).step s e t ≡ true → t ≡ past_step (mirrored p) s e
  stepped s e t q = eqb-true t _ (and_parts (ltb t (2 ^ items (mirrored p) + 2)) _ (and_parts (ltb s (2 ^ items (mirrored p) + 2)) _ q).1).1

  steps : (s : ℕ) (e : Label) (t : ℕ) → s < 2 ^ items (mirrored p) + 2 → t < 2 ^ items (mirrored p) + 2 → t ≡ past_step (mirrored p) s e → (past p).step s e t ≡ true
  steps s e t ls lt q = and_from _ _ (lt-ltb s _ ls) (and_from _ _ (lt-ltb t _ lt) (eq-eqb t _ q))

  -- once failed, always failed
  failed_run : (w : List Label) → Run (past p) 1 w 1
  failed_run [] = ends
  failed_run (e ∷ w) = goes (steps 1 e 1 (omega arith) (omega arith) refl) (failed_run w)

  fails_run : (r w : List Label) → holding (mirrored p) r w ≡ false → Run (past p) (state r) w 1
  fails_run r [] q = absurd (true≢false q)
  fails_run r (e ∷ w) q = ⊎_elim
      (λ (held : satisfies (mirrored p) (e ∷ r) ≡ true).
      goes (steps (state r) e (state (e ∷ r)) (state_below r) (state_below (e ∷ r)) (sym (step_is e r ∙ cond-true _ _ _ held)))
      (fails_run (e ∷ r) w (sym (ap (λ x. x && holding (mirrored p) (e ∷ r) w) held) ∙ q)))
      (λ failed.
      goes (steps (state r) e 1 (state_below r) (omega arith) (sym (step_is e r ∙ cond-false _ _ _ failed))) (failed_run w))
      (cases_Bool (satisfies (mirrored p) (e ∷ r)))

  -- no state after the line held is the failed one
  not_failed : (r : List Label) → state r ≡ 1 → ⊥
  unfolding state
  not_failed [] q = omega arith
  not_failed (e ∷ r) q = omega arith

  run_fails : (s t : ℕ) (r w : List Label) → s ≡ state r → Run (past p) s w t → t ≡ 1 → holding (mirrored p) r w ≡ false
  run_fails s t r [] z ends b = absurd (not_failed r (sym z ∙ b))
  run_fails s t r (e ∷ w) z (goes {u = u} q x) b = ⊎_elim
      (λ (held : satisfies (mirrored p) (e ∷ r) ≡ true).
      and_right _ _ (run_fails u t (e ∷ r) w (moved ∙ cond-true _ _ _ held) x b))
      (λ failed. and_left _ _ failed)
      (cases_Bool (satisfies (mirrored p) (e ∷ r)))
    where
      moved : u ≡ cond (satisfies (mirrored p) (e ∷ r)) (state (e ∷ r)) 1
      moved = stepped s e u q ∙ ap (λ i. past_step (mirrored p) i e) z ∙ step_is e r

  driven_fails : (w : List Label) → Drives (past p) w → holding (mirrored p) [] w ≡ false
  unfolding state
  driven_fails w d = run_fails d.first d.last [] w (eqb-true d.first 0 d.starts) d.run (eqb-true d.last 1 d.ends_bad)

  fails_driven : (w : List Label) → holding (mirrored p) [] w ≡ false → Drives (past p) w
  unfolding state
  fails_driven w q = record { first = 0; last = 1; starts = refl; run = fails_run [] w q; ends_bad = refl }

pub decides_throughout : (f : Past) (w : List Label) → Decides (holding (mirrored f) [] w) (HoldsThroughout f w)
decides_throughout f w = (
  λ p i l. (decides_at_index f w i l).0 (holding_at (mirrored f) [] w p i l),
  λ held. at_holding (mirrored f) [] w (λ i l. (decides_at_index f w i l).1 (held i l)),
)

pub past_driven : (f : Past) → PastDriven f
past_driven f e w = (
  λ d held. true≢false (sym ((decides_throughout f (e ∷ w)).1 held) ∙ driven_fails f (e ∷ w) d),
  λ fails. fails_driven f (e ∷ w) (not_held (holding (mirrored f) [] (e ∷ w)) (λ p. fails ((decides_throughout f (e ∷ w)).0 p))),
)
