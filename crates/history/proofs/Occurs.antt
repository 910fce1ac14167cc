-- How often a station stands in a list, and at which positions.
use Rattle.std.proofs.Common.{◌≡◌, ℕ, zero, suc, ◌+◌, ◌<◌, ◌≤◌, eqb, List, [], ◌∷◌, ◌++◌, length, get_or, take, sym, ap, ◌∙◌, ⊎_elim, arith}
use Rattle.std.proofs.lemmas.List.{take_all}
use Rattle.std.proofs.lemmas.Bool.{cases_eq, cases_lt, cond-true, cond-false, eq-eqb, ne_eqb}
use Rattle.history.specs.Orders.{one_if, occurs, Stands}

pub one_same : (s t : ℕ) → s ≡ t → one_if s t ≡ 1
one_same s t p = cond-true (eqb s t) 1 0 (eq-eqb s t p)

pub one_other : (s t : ℕ) → (s ≡ t → ⊥) → one_if s t ≡ 0
one_other s t p = cond-false (eqb s t) 1 0 (ne_eqb s t p)

pub one_most : (s t : ℕ) → one_if s t ≤ 1
one_most s t = ⊎_elim (λ (p : s ≡ t). omega (arith, one_same s t p)) (λ p. omega (arith, one_other s t p)) (cases_eq s t)

pub occurs_append : (t : ℕ) (a b : List ℕ) → occurs t (a ++ b) ≡ occurs t a + occurs t b
occurs_append t [] b = omega arith
occurs_append t (s ∷ a) b = omega (arith, occurs_append t a b)

-- one position more
pub occurs_more : (t : ℕ) (o : List ℕ) (i : ℕ) → i < length o → occurs t (take (suc i) o) ≡ occurs t (take i o) + one_if (get_or o i 0) t
occurs_more t [] i l = let z : ⊥ = omega arith in absurd z
occurs_more t (s ∷ o) zero l = omega arith
occurs_more t (s ∷ o) (suc i) l = omega (arith, occurs_more t o i (omega arith))

pub occurs_grows : (t : ℕ) (o : List ℕ) (i j : ℕ) → i ≤ j → occurs t (take i o) ≤ occurs t (take j o)
occurs_grows t o zero j l = omega arith
occurs_grows t [] (suc i) zero l = omega arith
occurs_grows t [] (suc i) (suc j) l = omega arith
occurs_grows t (s ∷ o) (suc i) zero l = let z : ⊥ = omega arith in absurd z
occurs_grows t (s ∷ o) (suc i) (suc j) l = omega (arith, occurs_grows t o i j (omega arith))

pub occurs_front : (t : ℕ) (o : List ℕ) (i : ℕ) → occurs t (take i o) ≤ occurs t o
occurs_front t o zero = omega arith
occurs_front t [] (suc i) = omega arith
occurs_front t (s ∷ o) (suc i) = omega (arith, occurs_front t o i)

-- where an event stands, against a position
module _ (o : List ℕ) (s n i : ℕ) (at : Stands o s n i) where
  here : suc (occurs s (take i o)) ≡ n
  here = ap (λ x. suc (occurs x (take i o))) (sym at.station) ∙ at.number

  pub stands_before : (m : ℕ) → i < m → n ≤ occurs s (take m o)
  stands_before m l =
      omega (arith, here, occurs_more s o i at.within, one_same (get_or o i 0) s at.station, occurs_grows s o (suc i) m l)

  pub stands_after : (m : ℕ) → m ≤ i → occurs s (take m o) < n
  stands_after m l = omega (arith, here, occurs_grows s o m i l)

-- an event among the first m stands at one of these positions
pub stands_find : (o : List ℕ) (s n m : ℕ) → 0 < n → n ≤ occurs s (take m o) → (i : ℕ) × (i < m) × Stands o s n i
stands_find o s n zero p l = let z : ⊥ = omega arith in absurd z
stands_find o s n (suc m) p l = ⊎_elim
    (λ (b : occurs s (take m o) < n). by_last b)
    (λ b. let r = stands_find o s n m p b in (r.0, omega (arith, r.1), r.2))
    (cases_lt (occurs s (take m o)) n)
  where
    by_last : occurs s (take m o) < n → (i : ℕ) × (i < suc m) × Stands o s n i
    by_last b = ⊎_elim
        (λ (w : m < length o). ⊎_elim
        (λ (e : get_or o m 0 ≡ s). (
          m,
          omega arith,
          record
              { within = w; station = e; number = ap (λ x. suc (occurs x (take m o))) e ∙ omega (arith, occurs_more s o m w, one_same (get_or o m 0) s e) },
        ))
        (λ ne. let z : ⊥ = omega (arith, occurs_more s o m w, one_other (get_or o m 0) s ne) in absurd z)
        (cases_eq (get_or o m 0) s))
        (λ w. let z : ⊥ = omega (arith, ap (occurs s) (take_all (suc m) o (omega arith) ∙ sym (take_all m o w))) in absurd z)
        (cases_lt m (length o))
