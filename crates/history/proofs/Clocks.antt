-- An event has at most one clock, of eight counts; and noting another event keeps it.
use Rattle.std.proofs.Common.{◌≡◌, ℕ, zero, suc, ◌<◌, ◌≤◌, max, List, [], ◌∷◌, length, get_or, set, sym, refl, ap, ◌∙◌, subst, ap₂, le_trans, arith, length-set}
use native.Mathlib.Bridge.{le_prop}
use native.Mathlib.Nat.{ℕ_set}
use mathlib.Core.List.{is_set}
use mathlib.Core.Path.{path_j}
use Rattle.history.proofs.Noted.{event_old, count_grows}
use Rattle.history.specs.Clocks.{Clock, missing, of_event, larger}
use Rattle.history.specs.Histories.{History, count, noted, wait, wait_of}
use Rattle.history.specs.declared.Event.{Event}

pub length_larger : (u v : List ℕ) → length u ≡ length v → length (larger u v) ≡ length u
length_larger [] v p = refl
length_larger (a ∷ u) [] p = sym p
length_larger (a ∷ u) (b ∷ v) p = ap suc (length_larger u v (omega arith))

pub get_or_larger : (u v : List ℕ) → length u ≡ length v → (t : ℕ) → get_or (larger u v) t 0 ≡ max (get_or u t 0) (get_or v t 0)
get_or_larger [] [] p t = refl
get_or_larger [] (b ∷ v) p t = let z : ⊥ = omega arith in absurd z
get_or_larger (a ∷ u) [] p t = let z : ⊥ = omega arith in absurd z
get_or_larger (a ∷ u) (b ∷ v) p zero = refl
get_or_larger (a ∷ u) (b ∷ v) p (suc t) = get_or_larger u v (omega arith) t

pub eight : {h : History} {s n : ℕ} {v : List ℕ} → Clock h s n v → length v ≡ 8
eight (missing z) = ap length z
eight (of_event {s = s} {n = n} p w _ cp cw q) =
    let lp = eight cp in let lw = eight cw in
    ap length q ∙ length-set (larger p w) s (suc n) ∙ length_larger p w (lp ∙ sym lw) ∙ lp

pub unique : {h : History} {s n : ℕ} {u v : List ℕ} → Clock h s n u → Clock h s n v → u ≡ v
unique (missing p) (missing q) = p ∙ sym q
unique (of_event {s = s} {n = n} p w _ cp cw q) (of_event p' w' _ cp' cw' q') =
    q ∙ ap₂ (λ x y. set (larger x y) s (suc n)) (unique cp cp') (unique cw cw') ∙ sym q'

-- a clock is that of an event that is there, or of number 0
pub clock_there : {h : History} {s n : ℕ} {v : List ℕ} → Clock h s n v → n ≤ count h s
clock_there {h} (missing {s = s} _) = omega arith
clock_there (of_event _ _ l _ _ _) = l

-- a clock is derived in one way only
same_parts : {h : History} {s n : ℕ} {v : List ℕ} (l l' : suc n ≤ count h s) (p w : List ℕ)
    (cp : Clock h s n p) (cw : Clock h (wait h s (suc n)).station (wait h s (suc n)).count w)
    → ((c : Clock h s n p) → cp ≡ c)
    → ((c : Clock h (wait h s (suc n)).station (wait h s (suc n)).count w) → cw ≡ c)
    → (p' : List ℕ) → p ≡ p' → (w' : List ℕ) → w ≡ w'
    → (cp' : Clock h s n p') (cw' : Clock h (wait h s (suc n)).station (wait h s (suc n)).count w')
    → (q : v ≡ set (larger p w) s (suc n)) (q' : v ≡ set (larger p' w') s (suc n))
    → Path (Clock h s (suc n) v) (of_event p w l cp cw q) (of_event p' w' l' cp' cw' q')
same_parts {h} {s} {n} {v} l l' p w cp cw one-p one-w p' e w' f =
    path_j (λ (y : List ℕ) _. (cp' : Clock h s n y) (cw' : Clock h (wait h s (suc n)).station (wait h s (suc n)).count w')
    (q : v ≡ set (larger p w) s (suc n)) (q' : v ≡ set (larger y w') s (suc n))
    → Path (Clock h s (suc n) v) (of_event p w l cp cw q) (of_event y w' l' cp' cw' q'))
    (path_j (λ (z : List ℕ) _. (cp' : Clock h s n p) (cw' : Clock h (wait h s (suc n)).station (wait h s (suc n)).count z)
    (q : v ≡ set (larger p w) s (suc n)) (q' : v ≡ set (larger p z) s (suc n))
    → Path (Clock h s (suc n) v) (of_event p w l cp cw q) (of_event p z l' cp' cw' q'))
    (λ cp' cw' q q' i. of_event p w (le_prop l l' i) (one-p cp' i) (one-w cw' i) (is_set ℕ_set _ _ q q' i))
    f)
    e

pub clock_prop : {h : History} {s n : ℕ} {v : List ℕ} (c d : Clock h s n v) → c ≡ d
clock_prop (missing p) (missing q) = ap missing (is_set ℕ_set _ _ p q)
clock_prop (of_event p w l cp cw q) (of_event p' w' l' cp' cw' q') =
    same_parts l l' p w cp cw (clock_prop cp) (clock_prop cw) p' (unique cp cp') w' (unique cw cw') cp' cw' q q'

module _ (h : History) (s : ℕ) (x : Event) (on : s < length h) where
  pub wait_old : (t n : ℕ) → n ≤ count h t → wait (noted h s x) t n ≡ wait h t n
  wait_old t n l = ap wait_of (event_old h s x on t n l)

  pub kept : {t n : ℕ} {v : List ℕ} → Clock h t n v → Clock (noted h s x) t n v
  kept (missing z) = missing z
  kept (of_event {s = t} {n = n} p w l cp cw q) =
      of_event p w (le_trans l (count_grows h s x on t)) (kept cp)
      (subst (λ y. Clock (noted h s x) y.station y.count w) (sym (wait_old t (suc n) l)) (kept cw)) q
