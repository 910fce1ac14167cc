-- Tests of every and of some number below a bound.
use Rattle.std.proofs.Common.{◌≡◌, ℕ, ◌+◌, ◌<◌, Bool, true, false, ◌||◌, Decides, sym, refl, ap, ◌∙◌, add-one}
use Rattle.std.proofs.Math.Bool.{and_comm, or_comm}
use Rattle.std.proofs.lemmas.Bool.{and_from, false_from_ne_true, true≢false}
use Rattle.std.proofs.lemmas.Bool.Decides.{Decides-below_and, Decides-below_or}
use Rattle.monitor.specs.Tables.{all_below, any_below}

pub all_decides : (n : ℕ) (p : ℕ → Bool) → Decides (all_below n p) ((k : ℕ) → k < n → p k ≡ true)
all_decides n p = Decides-below_and p (λ k. p k ≡ true) (λ m. all_below m p) (λ k. (λ q. q, λ q. q)) refl (λ m. and_comm (all_below m p) (p m)) n

pub any_decides : (n : ℕ) (p : ℕ → Bool) → Decides (any_below n p) ((k : ℕ) × (k < n) × (p k ≡ true))
any_decides n p = Decides-below_or p (λ k. p k ≡ true) (λ m. any_below m p) (λ k. (λ q. q, λ q. q)) refl (λ m. or_comm (any_below m p) (p m)) n

pub all_more : (n : ℕ) (p : ℕ → Bool) → all_below n p ≡ true → p n ≡ true → all_below (n + 1) p ≡ true
all_more n p a b = ap (λ k. all_below k p) (add-one n) ∙ and_from (all_below n p) (p n) a b

pub all_fails : (n : ℕ) (p : ℕ → Bool) (k : ℕ) → k < n → p k ≡ false → all_below n p ≡ false
all_fails n p k l f = false_from_ne_true _ (λ a. true≢false (sym ((all_decides n p).0 a k l) ∙ f))

pub any_more : (n : ℕ) (p : ℕ → Bool) → any_below (n + 1) p ≡ (any_below n p || p n)
any_more n p = ap (λ k. any_below k p) (add-one n)
