-- A past formula at an index of a sequence is its mirror image, a future formula, on what came up to there, read backward.
use Rattle.std.proofs.Common.{◌≡◌, ℕ, zero, suc, ◌+◌, ◌-◌, ◌<◌, ◌≤◌, Bool, true, false, List, [], ◌∷◌, length, drop, Some, Decides, sym, refl, ap, ◌∙◌, subst, arith}
use Rattle.std.proofs.lemmas.Option.{same_Some}
use Rattle.std.proofs.lemmas.List.{drop-drop}
use Rattle.std.proofs.lemmas.Bool.Decides.{Decides-not, Decides-and, Decides-or, Decides-like}
use Rattle.history.specs.Histories.{nth}
use Rattle.history.specs.declared.Label.{Label}
use Rattle.monitor.specs.Guards.{triggers}
use Rattle.monitor.specs.declared.guard.Guard.{Guard}
use Rattle.formula.proofs.Satisfied.{satisfies, after, every, some, til, first, decides_next, decides_always, decides_finally, decides_until}
use Rattle.formula.specs.Automata.{mirrored}
use Rattle.formula.specs.Formulas.{Past}
use Rattle.formula.specs.Sequences.{Triggered, HoldsAt}

-- the events up to index i, the newest first, before those of r
abbrev pub back : List Label → List Label → ℕ → List Label
back r [] i = r
back r (e ∷ w) zero = e ∷ r
back r (e ∷ w) (suc i) = back (e ∷ r) w i

length_back : (r w : List Label) (i : ℕ) → i < length w → length (back r w i) ≡ suc i + length r
length_back r [] i l = let z : ⊥ = omega arith in absurd z
length_back r (e ∷ w) zero l = omega arith
length_back r (e ∷ w) (suc i) l = omega (arith, length_back (e ∷ r) w i (omega arith))

-- without the newest, it is what came up to the index before
one_back : (r w : List Label) (i : ℕ) → suc i < length w → drop 1 (back r w (suc i)) ≡ back r w i
one_back r [] i l = let z : ⊥ = omega arith in absurd z
one_back r (e ∷ []) i l = let z : ⊥ = omega arith in absurd z
one_back r (e ∷ f ∷ w) zero l = refl
one_back r (e ∷ f ∷ w) (suc i) l = one_back (e ∷ r) (f ∷ w) i (omega arith)

drop_back : (k : ℕ) (w : List Label) (i : ℕ) → i < length w → k ≤ i → drop k (back [] w i) ≡ back [] w (i - k)
drop_back zero w i l b = ap (back [] w) (same i)
  where
    same : (n : ℕ) → n ≡ n - 0
    same n = omega arith
drop_back (suc k) w zero l b = let z : ⊥ = omega arith in absurd z
drop_back (suc k) w (suc i) l b =
    ap (λ n. drop n (back [] w (suc i))) (plus k) ∙ sym (drop-drop k 1 (back [] w (suc i)))
    ∙ ap (drop k) (one_back [] w i l) ∙ drop_back k w i (omega arith) (omega arith) ∙ ap (back [] w) (minus i k)
  where
    plus : (n : ℕ) → suc n ≡ 1 + n
    plus n = omega arith

    minus : (m n : ℕ) → m - n ≡ suc m - suc n
    minus m n = omega arith

-- the newest is the event at the index
pub newest : (r w : List Label) (i : ℕ) → i < length w → (e : Label) × (v : List Label) × (back r w i ≡ e ∷ v) × (nth w (suc i) ≡ Some e)
newest r [] i l = let z : ⊥ = omega arith in absurd z
newest r (e ∷ w) zero l = (e, r, refl, refl)
newest r (e ∷ w) (suc i) l = newest (e ∷ r) w i (omega arith)

decides_letter : (g : Guard) (w : List Label) (i : ℕ) → i < length w → Decides (first g (back [] w i)) (Triggered g w i)
decides_letter g w i l =
    let n = newest [] w i l in (
      λ p. record { event = n.0; at = n.3; triggered = sym (ap (first g) n.2) ∙ p },
      λ t. ap (first g) n.2 ∙ ap (triggers g) (same_Some n.0 t.event (sym n.3 ∙ t.at)) ∙ t.triggered,
    )

-- a test of what is read backward, as a fact
abbrev Test : (List Label → Bool) → List Label → Type 0
Test p v = p v ≡ true

itself : (p : List Label → Bool) (v : List Label) → Decides (p v) (Test p v)
itself p v = (λ q. q, λ q. q)

module _ (w : List Label) (i : ℕ) (l : i < length w) where
  long : length (back [] w i) ≡ suc i
  long = omega (arith, length_back [] w i l)

  again : (j : ℕ) → j ≤ i → i - (i - j) ≡ j
  again j b = omega arith

  -- k positions back from the index
  to_index : (p : List Label → Bool) (k : ℕ) → k ≤ i → p (drop k (back [] w i)) ≡ true → p (back [] w (i - k)) ≡ true
  to_index p k b q = subst (λ v. p v ≡ true) (drop_back k w i l b) q

  from_index : (p : List Label → Bool) (j : ℕ) → j ≤ i → p (back [] w j) ≡ true → p (drop (i - j) (back [] w i)) ≡ true
  from_index p j b q = subst (λ v. p v ≡ true) (sym (drop_back (i - j) w i l (omega arith) ∙ ap (back [] w) (omega arith))) q

  module _ (p : List Label → Bool) (P : ℕ → Type 0) (each : (j : ℕ) → j ≤ i → Decides (p (back [] w j)) (P j)) where
    decides_previous : Decides (after false p (back [] w i)) ((0 < i) × P (i - 1))
    decides_previous = Decides-like _
        (λ (m, q). (omega (arith, long), (each (i - 1) (omega arith)).0 (to_index p 1 (omega (arith, long)) q)))
        (λ (m, x). (omega (arith, long), subst (λ v. p v ≡ true) (sym (drop_back 1 w i l (omega arith))) ((each (i - 1) (omega arith)).1 x)))
        (decides_next p (Test p) (itself p) (back [] w i))

    decides_once : Decides (some p (back [] w i)) ((j : ℕ) × (j ≤ i) × P j)
    decides_once = Decides-like _
        (λ (k, b, q). (i - k, omega arith, (each (i - k) (omega arith)).0 (to_index p k (omega (arith, long)) q)))
        (λ (j, b, x). (i - j, omega (arith, long), from_index p j b ((each j b).1 x)))
        (decides_finally p (Test p) (itself p) (back [] w i))

    decides_historically : Decides (every p (back [] w i)) ((j : ℕ) → j ≤ i → P j)
    decides_historically = Decides-like _
        (λ all j b. (each j b).0 (subst (λ n. p (back [] w n) ≡ true) (again j b) (to_index p (i - j) (omega arith) (all (i - j) (omega (arith, long))))))
        (λ all k b. subst (λ v. p v ≡ true) (sym (drop_back k w i l (omega (arith, long)))) ((each (i - k) (omega arith)).1 (all (i - k) (omega arith))))
        (decides_always p (Test p) (itself p) (back [] w i))

    module _ (q : List Label → Bool) (Q : ℕ → Type 0) (each-q : (j : ℕ) → j ≤ i → Decides (q (back [] w j)) (Q j)) where
      decides_since : Decides (til p q (back [] w i)) ((j : ℕ) × (j ≤ i) × Q j × ((n : ℕ) → j < n → n ≤ i → P n))
      decides_since = Decides-like _
          (λ (k, b, x, y). (
            i - k,
            omega arith,
            (each-q (i - k) (omega arith)).0 (to_index q k (omega (arith, long)) x),
            λ n less most. (each n most).0 (subst (λ m. p (back [] w m) ≡ true) (again n most) (to_index p (i - n) (omega arith) (y (i - n) (omega arith)))),
          ))
          (λ (j, b, x, y). (
            i - j,
            omega (arith, long),
            from_index q j b ((each-q j b).1 x),
            λ k less. subst (λ v. p v ≡ true) (sym (drop_back k w i l (omega arith))) ((each (i - k) (omega arith)).1 (y (i - k) (omega arith) (omega arith))),
          ))
          (decides_until p (Test p) (itself p) q (Test q) (itself q) (back [] w i))

pub decides_at_index : (f : Past) (w : List Label) (i : ℕ) → i < length w → Decides (satisfies (mirrored f) (back [] w i)) (HoldsAt f w i)
decides_at_index (Past.letter g) w i l = decides_letter g w i l
decides_at_index (Past.negated f) w i l = Decides-not (satisfies (mirrored f) (back [] w i)) (decides_at_index f w i l)
decides_at_index (Past.both f g) w i l = Decides-and _ _ (decides_at_index f w i l) (decides_at_index g w i l)
decides_at_index (Past.either f g) w i l = Decides-or _ _ (decides_at_index f w i l) (decides_at_index g w i l)
decides_at_index (Past.previous f) w i l =
    decides_previous w i l (λ v. satisfies (mirrored f) v) (HoldsAt f w) (λ j b. decides_at_index f w j (omega arith))
decides_at_index (Past.once f) w i l =
    decides_once w i l (λ v. satisfies (mirrored f) v) (HoldsAt f w) (λ j b. decides_at_index f w j (omega arith))
decides_at_index (Past.historically f) w i l =
    decides_historically w i l (λ v. satisfies (mirrored f) v) (HoldsAt f w) (λ j b. decides_at_index f w j (omega arith))
decides_at_index (Past.since f g) w i l =
    decides_since w i l (λ v. satisfies (mirrored f) v) (HoldsAt f w) (λ j b. decides_at_index f w j (omega arith))
    (λ v. satisfies (mirrored g) v) (HoldsAt g w) (λ j b. decides_at_index g w j (omega arith))
