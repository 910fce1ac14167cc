-- How many events a history holds: one more with each note, and never more than 512.
use Rattle.std.proofs.Common.{◌≡◌, ℕ, zero, suc, ◌+◌, ◌*◌, ◌<◌, ◌≤◌, [], ◌∷◌, length, take, refl, mul-suc, arith}
use Rattle.std.proofs.lemmas.List.{length_push}
use Rattle.history.specs.Histories.{History, opened, count, total, noted}
use Rattle.history.specs.declared.Event.{Event}

pub total_opened : (n : ℕ) → total (opened n) ≡ 0
total_opened zero = refl
total_opened (suc n) = omega (arith, total_opened n)

pub total_noted : (h : History) (s : ℕ) (e : Event) → s < length h → total (noted h s e) ≡ suc (total h)
total_noted [] s e l = let z : ⊥ = omega arith in absurd z
total_noted (es ∷ h) zero e l = omega (arith, length_push es e)
total_noted (es ∷ h) (suc s) e l = omega (arith, total_noted h s e (omega arith))

pub total_bound : (h : History) (most : ℕ) → ((s : ℕ) → count h s ≤ most) → total h ≤ most * length h
total_bound [] most small = omega arith
total_bound (es ∷ h) most small =
    omega (arith, small 0, total_bound h most (λ s. small (suc s)), mul-suc most (length h))

pub total_take : (h : History) (i : ℕ) → total (take (suc i) h) ≡ total (take i h) + count h i
total_take [] zero = refl
total_take [] (suc i) = refl
total_take (es ∷ h) zero = omega arith
total_take (es ∷ h) (suc i) = omega (arith, total_take h i)

pub total_take_le : (h : History) (i : ℕ) → total (take i h) ≤ total h
total_take_le h zero = omega arith
total_take_le [] (suc i) = omega arith
total_take_le (es ∷ h) (suc i) = omega (arith, total_take_le h i)
