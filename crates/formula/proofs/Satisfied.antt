-- The meaning of a future formula decided by a recursion over the sequence.
use Rattle.std.proofs.Common.{◌≡◌, ℕ, zero, suc, ◌<◌, Bool, true, false, not, ◌&&◌, ◌||◌, List, [], ◌∷◌, length, drop, Decides, sym, refl, ap, ◌∙◌, ⊎_elim, arith}
use Rattle.std.proofs.lemmas.Option.{same_Some}
use Rattle.std.proofs.lemmas.Bool.{and_parts, and_from, or_cases, or_left, or_right, true≢false}
use Rattle.std.proofs.lemmas.Bool.Decides.{Decides-not, Decides-and, Decides-or, Decides-at}
use Rattle.history.specs.declared.Label.{Label}
use Rattle.monitor.specs.Guards.{triggers}
use Rattle.monitor.specs.declared.guard.Guard.{Guard}
use Rattle.formula.specs.Formulas.{Future}
use Rattle.formula.specs.Sequences.{Triggered, Next, Always, Finally, Until, Holds}

-- a test of what is left, with the answer where nothing is
abbrev pub rest : Bool → (List Label → Bool) → List Label → Bool
rest end p [] = end
rest end p (e ∷ w) = p (e ∷ w)

abbrev pub after : Bool → (List Label → Bool) → List Label → Bool
after end p [] = end
after end p (e ∷ w) = rest end p w

abbrev pub every : (List Label → Bool) → List Label → Bool
every p [] = true
every p (e ∷ w) = p (e ∷ w) && every p w

abbrev pub some : (List Label → Bool) → List Label → Bool
some p [] = false
some p (e ∷ w) = p (e ∷ w) || some p w

abbrev pub til : (List Label → Bool) → (List Label → Bool) → List Label → Bool
til p q [] = false
til p q (e ∷ w) = q (e ∷ w) || (p (e ∷ w) && til p q w)

abbrev pub first : Guard → List Label → Bool
first g [] = false
first g (e ∷ w) = triggers g e

abbrev pub satisfies : Future → List Label → Bool
satisfies (Future.letter g) w = first g w
satisfies (Future.negated f) w = not (satisfies f w)
satisfies (Future.both f g) w = satisfies f w && satisfies g w
satisfies (Future.either f g) w = satisfies f w || satisfies g w
satisfies (Future.next f) w = after false (λ v. satisfies f v) w
satisfies (Future.weak_next f) w = after true (λ v. satisfies f v) w
satisfies (Future.always f) w = every (λ v. satisfies f v) w
satisfies (Future.finally f) w = some (λ v. satisfies f v) w
satisfies (Future.until f g) w = til (λ v. satisfies f v) (λ v. satisfies g v) w
satisfies (Future.release f g) w = not (til (λ v. not (satisfies f v)) (λ v. not (satisfies g v)) w)

decides_first : (g : Guard) (w : List Label) → Decides (first g w) (Triggered g w 0)
decides_first g [] = (λ p. absurd (true≢false (sym p)), λ t. let z : ◌≡◌ {A = ℕ} 0 1 = cc t.at in absurd (omega arith))
decides_first g (e ∷ w) = (
  λ p. record { event = e; at = refl; triggered = p },
  λ t. ap (triggers g) (same_Some e t.event t.at) ∙ t.triggered,
)

module _ (p : List Label → Bool) (P : List Label → Type 0) (each : (w : List Label) → Decides (p w) (P w)) where
  pub decides_next : (w : List Label) → Decides (after false p w) (Next P w)
  decides_next [] = (λ q. absurd (true≢false (sym q)), λ (l, _). absurd (omega arith))
  decides_next (e ∷ []) = (λ q. absurd (true≢false (sym q)), λ (l, _). absurd (omega arith))
  decides_next (e ∷ f ∷ w) = (λ q. (omega arith, (each (f ∷ w)).0 q), λ (_, x). (each (f ∷ w)).1 x)

  pub decides_always : (w : List Label) → Decides (every p w) (Always P w)
  decides_always [] = (λ q i l. absurd (omega arith), λ _. refl)
  decides_always (e ∷ w) = (
    λ q. all ((each (e ∷ w)).0 (and_parts (p (e ∷ w)) (every p w) q).0) ((decides_always w).0 (and_parts (p (e ∷ w)) (every p w) q).1),
    λ x. and_from _ _ ((each (e ∷ w)).1 (x 0 (omega arith))) ((decides_always w).1 (λ i l. x (suc i) (omega arith))),
  )
    where
      all : P (e ∷ w) → Always P w → Always P (e ∷ w)
      all here later zero l = here
      all here later (suc i) l = later i (omega arith)

  pub decides_finally : (w : List Label) → Decides (some p w) (Finally P w)
  decides_finally [] = (λ q. absurd (true≢false (sym q)), λ (i, l, _). absurd (omega arith))
  decides_finally (e ∷ w) = (
    λ q. ⊎_elim
        (λ (here : p (e ∷ w) ≡ true). (0, omega arith, (each (e ∷ w)).0 here))
        (λ later. let x = (decides_finally w).0 later in (suc x.0, omega (arith, x.1), x.2))
        (or_cases (p (e ∷ w)) (some p w) q),
    λ (i, l, x). back (decides_finally w).1 i l x,
  )
    where
      back : (Finally P w → some p w ≡ true) → (i : ℕ) → i < length (e ∷ w) → P (drop i (e ∷ w)) → (p (e ∷ w) || some p w) ≡ true
      back later zero l x = or_left _ _ ((each (e ∷ w)).1 x)
      back later (suc i) l x = or_right (p (e ∷ w)) (some p w) (later (i, omega arith, x))

  module _ (q : List Label → Bool) (Q : List Label → Type 0) (each-q : (w : List Label) → Decides (q w) (Q w)) where
    pub decides_until : (w : List Label) → Decides (til p q w) (Until P Q w)
    decides_until [] = (λ r. absurd (true≢false (sym r)), λ (j, l, _, _). absurd (omega arith))
    decides_until (e ∷ w) = (
      λ r. ⊎_elim
          (λ (here : q (e ∷ w) ≡ true). (0, omega arith, (each-q (e ∷ w)).0 here, λ i l. absurd (omega arith)))
          (λ later.
          let parts = and_parts (p (e ∷ w)) (til p q w) later in
          forth ((each (e ∷ w)).0 parts.0) ((decides_until w).0 parts.1))
          (or_cases (q (e ∷ w)) (p (e ∷ w) && til p q w) r),
      λ (j, l, x, y). back (decides_until w).1 j l x y,
    )
      where
        forth : P (e ∷ w) → Until P Q w → Until P Q (e ∷ w)
        forth here (j, l, x, y) = (suc j, omega arith, x, before)
          where
            before : (i : ℕ) → i < suc j → P (drop i (e ∷ w))
            before zero b = here
            before (suc i) b = y i (omega arith)

        back : (Until P Q w → til p q w ≡ true) → (j : ℕ) → j < length (e ∷ w) → Q (drop j (e ∷ w)) → ((i : ℕ) → i < j → P (drop i (e ∷ w)))
            → (q (e ∷ w) || (p (e ∷ w) && til p q w)) ≡ true
        back later zero l x y = or_left _ _ ((each-q (e ∷ w)).1 x)
        back later (suc j) l x y =
            or_right (q (e ∷ w)) _ (and_from _ _ ((each (e ∷ w)).1 (y 0 (omega arith))) (later (j, omega arith, x, λ i b. y (suc i) (omega arith))))

pub twice : (x : Bool) → not (not x) ≡ x
twice true = refl
twice false = refl

pub not_held : (x : Bool) → (x ≡ true → ⊥) → x ≡ false
not_held true n = absurd (n refl)
not_held false n = refl

-- weak next is not next not
weak_is : (p : List Label → Bool) (w : List Label) → after true p w ≡ not (after false (λ v. not (p v)) w)
weak_is p [] = refl
weak_is p (e ∷ []) = refl
weak_is p (e ∷ f ∷ w) = sym (twice (p (f ∷ w)))

pub decides : (f : Future) (w : List Label) → Decides (satisfies f w) (Holds f w)
decides (Future.letter g) w = decides_first g w
decides (Future.negated f) w = Decides-not (satisfies f w) (decides f w)
decides (Future.both f g) w = Decides-and (satisfies f w) (satisfies g w) (decides f w) (decides g w)
decides (Future.either f g) w = Decides-or (satisfies f w) (satisfies g w) (decides f w) (decides g w)
decides (Future.next f) w = decides_next (λ v. satisfies f v) (λ v. Holds f v) (decides f) w
decides (Future.weak_next f) w =
    Decides-at _ _ (weak_is (λ v. satisfies f v) w)
    (Decides-not _ (decides_next (λ v. not (satisfies f v)) (λ v. Holds f v → ⊥) (λ v. Decides-not (satisfies f v) (decides f v)) w))
decides (Future.always f) w = decides_always (λ v. satisfies f v) (λ v. Holds f v) (decides f) w
decides (Future.finally f) w = decides_finally (λ v. satisfies f v) (λ v. Holds f v) (decides f) w
decides (Future.until f g) w =
    decides_until (λ v. satisfies f v) (λ v. Holds f v) (decides f) (λ v. satisfies g v) (λ v. Holds g v) (decides g) w
decides (Future.release f g) w =
    Decides-not _ (decides_until
    (λ v. not (satisfies f v)) (λ v. Holds f v → ⊥) (λ v. Decides-not (satisfies f v) (decides f v))
    (λ v. not (satisfies g v)) (λ v. Holds g v → ⊥) (λ v. Decides-not (satisfies g v) (decides g v)) w)
