-- The n-th of a list, counted from 1.
use Rattle.std.proofs.Common.{◌≡◌, ℕ, zero, suc, ◌-◌, ◌<◌, ◌≤◌, List, [], ◌∷◌, ◌++◌, map, length, get_or, Some, None, refl, ap, ◌∙◌, arith}
use Rattle.std.specs.Option.{option_map}
use Rattle.history.specs.Histories.{nth}

-- what is there is kept when another is put at the end
pub nth_push : {A : Type 0} (xs : List A) (y : A) (n : ℕ) → n ≤ length xs → nth (xs ++ y ∷ []) n ≡ nth xs n
nth_push xs y zero l = refl
nth_push [] y (suc n) l = let z : ⊥ = omega arith in absurd z
nth_push (x ∷ xs) y (suc zero) l = refl
nth_push (x ∷ xs) y (suc (suc n)) l = nth_push xs y (suc n) (omega arith)

pub nth_last : {A : Type 0} (xs : List A) (y : A) → nth (xs ++ y ∷ []) (suc (length xs)) ≡ Some y
nth_last [] y = refl
nth_last (x ∷ xs) y = nth_last xs y

pub nth_there : {A : Type 0} (xs : List A) (n : ℕ) (y : A) → nth xs n ≡ Some y → n ≤ length xs
nth_there xs zero y p = omega arith
nth_there [] (suc n) y p = let z : ◌≡◌ {A = ℕ} 0 1 = cc in omega arith
nth_there (x ∷ xs) (suc zero) y p = omega arith
nth_there (x ∷ xs) (suc (suc n)) y p = let l = nth_there xs (suc n) y p in omega arith

pub nth_none : {A : Type 0} (xs : List A) (n : ℕ) → length xs < n → nth xs n ≡ None
nth_none xs zero l = refl
nth_none [] (suc n) l = refl
nth_none (x ∷ xs) (suc zero) l = let z : ⊥ = omega arith in absurd z
nth_none (x ∷ xs) (suc (suc n)) l = nth_none xs (suc n) (omega arith)

pub nth_nil : {A : Type 0} (n : ℕ) → nth {A = A} [] n ≡ None
nth_nil zero = refl
nth_nil (suc n) = refl

pub nth_some : {A : Type 0} (xs : List A) (n : ℕ) (d : A) → 0 < n → n ≤ length xs → nth xs n ≡ Some (get_or xs (n - 1) d)
nth_some xs zero d p l = let z : ⊥ = omega arith in absurd z
nth_some [] (suc n) d p l = let z : ⊥ = omega arith in absurd z
nth_some (x ∷ xs) (suc zero) d p l = refl
nth_some (x ∷ xs) (suc (suc n)) d p l =
    nth_some xs (suc n) d (omega arith) (omega arith) ∙ ap (λ i. Some (get_or (x ∷ xs) i d)) (predecessor n)
  where
    predecessor : (m : ℕ) → suc (suc m - 1) ≡ suc (suc m) - 1
    predecessor m = omega arith

pub nth_has : {A : Type 0} (xs : List A) (n : ℕ) → 0 < n → n ≤ length xs → (x : A) × (nth xs n ≡ Some x)
nth_has xs zero p l = let z : ⊥ = omega arith in absurd z
nth_has [] (suc n) p l = let z : ⊥ = omega arith in absurd z
nth_has (x ∷ xs) (suc zero) p l = (x, refl)
nth_has (x ∷ xs) (suc (suc n)) p l = nth_has xs (suc n) (omega arith) (omega arith)

pub nth_map : {A B : Type 0} (f : A → B) (xs : List A) (n : ℕ) → nth (map f xs) n ≡ option_map f (nth xs n)
nth_map f xs zero = refl
nth_map f [] (suc n) = refl
nth_map f (x ∷ xs) (suc zero) = refl
nth_map f (x ∷ xs) (suc (suc n)) = nth_map f xs (suc n)
