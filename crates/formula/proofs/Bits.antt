-- Numbers and their bits.
use Rattle.std.proofs.Common.{◌≡◌, ℕ, zero, suc, ◌+◌, ◌*◌, ◌/◌, ◌%◌, ◌^◌, ◌<◌, Bool, true, false, eqb, List, [], ◌∷◌, length, refl, ap, ◌∙◌, ap₂, ⊎_elim, pow-suc, arith}
use Rattle.std.proofs.lemmas.Bool.{cases_eq, eq-eqb, ne_eqb, cond-true, cond-false}
use Rattle.formula.specs.Automata.{number_of, bits_of}

pub length_bits : (m c : ℕ) → length (bits_of m c) ≡ m
length_bits zero c = refl
length_bits (suc m) c = ap suc (length_bits m (c / 2))

pub number_below : (bs : List Bool) → number_of bs < 2 ^ length bs
number_below [] = omega arith
number_below (true ∷ bs) = omega (arith, number_below bs, pow-suc 2 (length bs))
number_below (false ∷ bs) = omega (arith, number_below bs, pow-suc 2 (length bs))

pub bits_number : (bs : List Bool) → bits_of (length bs) (number_of bs) ≡ bs
bits_number [] = refl
bits_number (true ∷ bs) =
    ap₂ ◌∷◌ (eq-eqb _ 1 (odd (number_of bs))) (ap (bits_of (length bs)) (half (number_of bs)) ∙ bits_number bs)
  where
    odd : (n : ℕ) → (1 + 2 * n) % 2 ≡ 1
    odd n = omega arith

    half : (n : ℕ) → (1 + 2 * n) / 2 ≡ n
    half n = omega arith
bits_number (false ∷ bs) =
    ap₂ ◌∷◌ (ne_eqb _ 1 (even (number_of bs))) (ap (bits_of (length bs)) (half (number_of bs)) ∙ bits_number bs)
  where
    even : (n : ℕ) → (0 + 2 * n) % 2 ≡ 1 → ⊥
    even n p = omega arith

    half : (n : ℕ) → (0 + 2 * n) / 2 ≡ n
    half n = omega arith

pub number_bits : (m c : ℕ) → c < 2 ^ m → number_of (bits_of m c) ≡ c
number_bits zero c l = omega arith
number_bits (suc m) c l =
    let rest = number_bits m (c / 2) (omega (arith, l, pow-suc 2 m)) in
    ⊎_elim
    (λ (p : c % 2 ≡ 1). omega (arith, cond-true {A = ℕ} (eqb (c % 2) 1) 1 0 (eq-eqb _ 1 p), rest))
    (λ p. omega (arith, cond-false {A = ℕ} (eqb (c % 2) 1) 1 0 (ne_eqb _ 1 p), rest))
    (cases_eq (c % 2) 1)
