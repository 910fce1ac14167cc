-- Only is driven to a bad state exactly when the monitor below is, by the events that are heard.
use Rattle.std.proofs.Common.{◌≡◌, ℕ, ◌<◌, true, false, ◌&&◌, eqb, ltb, List, [], ◌∷◌, sym, refl, ◌∙◌, subst, ⊎_elim}
use Rattle.std.proofs.lemmas.Bool.{and_parts, and_from, lt-ltb, eqb-true, eq-eqb, cond-true, cond-false, cases_Bool}
use Rattle.history.specs.declared.Label.{Label}
use Rattle.monitor.specs.Combinations.{only, hears}
use Rattle.monitor.specs.Driven.{heard, OnlyDriven}
use Rattle.monitor.specs.Meanings.{Meaning, Lawful, Run, ends, goes}

none_left : {m : Meaning} {s t : ℕ} → Run m s [] t → s ≡ t
none_left ends = refl

one_left : {m : Meaning} {s t : ℕ} {e : Label} {w : List Label} → Run m s (e ∷ w) t → (u : ℕ) × (m.step s e u ≡ true) × Run m u w t
one_left (goes {u = u} p r) = (u, p, r)

module _ (mask : ℕ) (m : Meaning) (law : Lawful m) where
  -- the front of what is heard
  heard_yes : (e : Label) (w : List Label) → hears mask e.variable ≡ true → heard mask (e ∷ w) ≡ e ∷ heard mask w
  heard_yes e w p = cond-true (hears mask e.variable) _ _ p

  heard_no : (e : Label) (w : List Label) → hears mask e.variable ≡ false → heard mask (e ∷ w) ≡ heard mask w
  heard_no e w p = cond-false (hears mask e.variable) _ _ p

  below_more : (s u t : ℕ) (e : Label) (w : List Label) → (only mask m).step s e u ≡ true → Run m u (heard mask w) t → Run m s (heard mask (e ∷ w)) t
  below_more s u t e w p r = ⊎_elim yes' no' (cases_Bool (hears mask e.variable))
    where
      yes' : hears mask e.variable ≡ true → Run m s (heard mask (e ∷ w)) t
      yes' h = subst (λ x. Run m s x t) (sym (heard_yes e w h)) (goes (sym (cond-true (hears mask e.variable) (m.step s e u) _ h) ∙ p) r)

      no' : hears mask e.variable ≡ false → Run m s (heard mask (e ∷ w)) t
      no' h =
          let q = sym (cond-false (hears mask e.variable) (m.step s e u) (ltb s m.states && eqb s u) h) ∙ p in
          let same = eqb-true s u (and_parts (ltb s m.states) (eqb s u) q).1 in
          subst (λ x. Run m s x t) (sym (heard_no e w h)) (subst (λ x. Run m x (heard mask w) t) (sym same) r)

  run_below : {s t : ℕ} {w : List Label} → Run (only mask m) s w t → Run m s (heard mask w) t
  run_below ends = ends
  run_below (goes {s = s} {u = u} {t = t} {e = e} {w = w} p r) = below_more s u t e w p (run_below r)

  run_above : (s t : ℕ) (w : List Label) → s < m.states → Run m s (heard mask w) t → Run (only mask m) s w t
  run_above s t [] l r = subst (λ x. Run (only mask m) s [] x) (none_left r) ends
  run_above s t (e ∷ w) l r = ⊎_elim
      (λ (h : hears mask e.variable ≡ true).
      let f = one_left (subst (λ x. Run m s x t) (heard_yes e w h) r) in
      goes (cond-true (hears mask e.variable) (m.step s e f.0) _ h ∙ f.1) (run_above f.0 t w (law.to s e f.0 f.1) f.2))
      (λ h.
      goes (cond-false (hears mask e.variable) (m.step s e s) _ h ∙ and_from _ _ (lt-ltb s m.states l) (eq-eqb s s refl))
      (run_above s t w l (subst (λ x. Run m s x t) (heard_no e w h) r)))
      (cases_Bool (hears mask e.variable))

pub only_driven : (mask : ℕ) (m : Meaning) → Lawful m → OnlyDriven mask m
only_driven mask m law w = (
  λ d. record { first = d.first; last = d.last; starts = d.starts; run = run_below mask m law d.run; ends_bad = d.ends_bad },
  λ d. record { first = d.first; last = d.last; starts = d.starts; run = run_above mask m law d.first d.last w (law.starts _ d.starts) d.run; ends_bad = d.ends_bad },
)
