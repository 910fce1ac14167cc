-- A future line's automaton is driven to a bad state exactly by the sequences on which the line does not hold: from the end of
-- a sequence backward it is deterministic, and carries the bits that what is left deserves.
use Rattle.std.proofs.Common.{◌≡◌, ℕ, zero, suc, ◌+◌, ◌^◌, ◌<◌, true, false, ltb, List, [], ◌∷◌, sym, refl, ap, ◌∙◌, subst, arith}
use Rattle.std.proofs.lemmas.Bool.{and_parts, and_from, lt-ltb, eq-eqb, eqb-true, not-true, not_from_false, true≢false}
use Rattle.history.specs.declared.Label.{Label}
use Rattle.monitor.specs.Meanings.{Run, ends, goes, Drives}
use Rattle.formula.proofs.Bits.{bits_number, number_below}
use Rattle.formula.proofs.Deserved.{deserved, length_deserved, deserved_end, values_right}
use Rattle.formula.proofs.Satisfied.{satisfies, decides, not_held}
use Rattle.formula.specs.Automata.{number_of, bits_of, value, values, end_bits, future_step, future}
use Rattle.formula.specs.Formulas.{Future, items}
use Rattle.formula.specs.Theorem.{FutureDriven}

module _ (f : Future) where
  -- the state that what is left of a sequence deserves, without its 1
  state : List Label → ℕ
  state w = number_of (deserved f w)

  state_bits : (w : List Label) → bits_of (items f) (state w) ≡ deserved f w
  unfolding state
  state_bits w = subst (λ m. bits_of m (number_of (deserved f w)) ≡ deserved f w) (length_deserved f w) (bits_number (deserved f w))

  state_below : (w : List Label) → suc (state w) < 2 ^ items f + 1
  unfolding state
  state_below w = omega (arith, subst (λ m. number_of (deserved f w) < 2 ^ m) (length_deserved f w) (number_below (deserved f w)))

  state_end : state [] ≡ number_of (end_bits f)
  unfolding state
  state_end = ap number_of (deserved_end f)

  -- the state here from the state of what is left
  state_more : (e : Label) (w : List Label) → number_of (values f 0 e (bits_of (items f) (state w))) ≡ state (e ∷ w)
  unfolding state
  state_more e w = ap (λ bs. number_of (values f 0 e bs)) (state_bits w) ∙ ap number_of (values_right f e w).all

  value_more : (e : Label) (w : List Label) → value f 0 e (bits_of (items f) (state w)) ≡ satisfies f (e ∷ w)
  value_more e w = ap (λ bs. value f 0 e bs) (state_bits w) ∙ (values_right f e w).one

  -- what a step says
  stepped : (s : ℕ) (e : Label) (t : ℕ) → (future f).step s e t ≡ true → future_step f s e t ≡ true
  stepped s e t p = (and_parts (ltb t (2 ^ items f + 1)) _ (and_parts (ltb s (2 ^ items f + 1)) _ p).1).1

  steps : (s : ℕ) (e : Label) (t : ℕ) → s < 2 ^ items f + 1 → t < 2 ^ items f + 1 → future_step f s e t ≡ true → (future f).step s e t ≡ true
  steps s e t ls lt p = and_from _ _ (lt-ltb s _ ls) (and_from _ _ (lt-ltb t _ lt) p)

  -- a run to the bad state begins in the state that its sequence deserves
  run_state : (c t : ℕ) (w : List Label) → Run (future f) (suc c) w t → (future f).bad t ≡ true → c ≡ state w
  run_state c t [] ends b = omega (arith, eqb-true (suc c) (1 + number_of (end_bits f)) b, state_end)
  run_state c t (e ∷ w) (goes {u = zero} p r) b = absurd (true≢false (sym (stepped (suc c) e zero p)))
  run_state c t (e ∷ w) (goes {u = suc d} p r) b =
      let i = run_state d t w r b in
      sym (eqb-true _ c (stepped (suc c) e (suc d) p)) ∙ ap (λ x. number_of (values f 0 e (bits_of (items f) x))) i ∙ state_more e w

  -- and there is such a run
  state_run : (w : List Label) → Run (future f) (suc (state w)) w (1 + number_of (end_bits f))
  state_run [] = subst (λ t. Run (future f) (suc (state [])) [] t) (omega (arith, state_end)) ends
  state_run (e ∷ w) = goes
      (steps (suc (state (e ∷ w))) e (suc (state w)) (state_below (e ∷ w)) (state_below w) (eq-eqb _ _ (state_more e w)))
      (state_run w)

  driven_fails : (e : Label) (w : List Label) → Drives (future f) (e ∷ w) → satisfies f (e ∷ w) ≡ false
  driven_fails e w d = by_run d.first (eqb-true d.first 0 d.starts) d.run
    where
      by_run : (s : ℕ) → s ≡ 0 → Run (future f) s (e ∷ w) d.last → satisfies f (e ∷ w) ≡ false
      by_run (suc s) z r = let n : ⊥ = omega arith in absurd n
      by_run zero z (goes {u = zero} p r) = absurd (true≢false (sym (stepped zero e zero p)))
      by_run zero z (goes {u = suc c} p r) =
          let i = run_state c d.last w r d.ends_bad in
          sym (value_more e w) ∙ ap (λ x. value f 0 e (bits_of (items f) x)) (sym i) ∙ not-true _ (stepped zero e (suc c) p)

  fails_driven : (e : Label) (w : List Label) → satisfies f (e ∷ w) ≡ false → Drives (future f) (e ∷ w)
  fails_driven e w no' = record {
    first = 0;
    last = 1 + number_of (end_bits f);
    starts = refl;
    run = goes (steps 0 e (suc (state w)) (omega (arith, state_below w)) (state_below w) (not_from_false _ (value_more e w ∙ no'))) (state_run w);
    ends_bad = eq-eqb _ _ refl;
  }

pub future_driven : (f : Future) → FutureDriven f
future_driven f e w = (
  λ d holds. true≢false (sym ((decides f (e ∷ w)).1 holds) ∙ driven_fails f e w d),
  λ fails. fails_driven f e w (not_held (satisfies f (e ∷ w)) (λ p. fails ((decides f (e ∷ w)).0 p))),
)
