-- Guards are listed one by one: all are there and lawful, or the first that is not stands for all.
use Rattle.std.proofs.Common.{◌≡◌, ℕ, ◌+◌, ◌*◌, ◌<◌, Bool, true, false, ◌&&◌, leb, List, length, Some, None, sym, ap, ◌∙◌, ap₂, ⊎_elim, arith}
use Rattle.std.proofs.lemmas.Option.{same_Some}
use mathlib.Core.Bool.{and-false}
use Rattle.std.proofs.lemmas.Bool.{and_parts, leb-true, leb-false, le-leb, lt-leb, cases_Bool, cond-true, cond-false}
use Rattle.monitor.proofs.Below.{all_more, all_fails}
use Rattle.monitor.specs.Guards.{guard_at}
use Rattle.monitor.specs.Tables.{all_below, guard_lawful, listed_guard}
use Rattle.monitor.specs.declared.guard.Guard.{Guard}
use Rattle.rule.specs.Parts.{all_listed}

module _ (bytes : List ℕ) (k : ℕ) where
  abbrev whole : Bool
  whole = leb (10 * k + 10) (length bytes) && guard_lawful bytes k

  pub one_more : (g : Guard) → listed_guard bytes k ≡ Some g → all_listed bytes k ≡ true
      → (all_listed bytes (k + 1) ≡ true) × (guard_at bytes k ≡ g)
  one_more g q l = ⊎_elim
      (λ (w : whole ≡ true).
      let there = and_parts (leb (10 * k + 10) (length bytes)) (guard_lawful bytes k) w in
      let far = leb-true (10 * k + 10) (length bytes) there.0 in (
        ap₂ ◌&&◌ (le-leb (10 * (k + 1)) (length bytes) (omega (arith, far)))
            (all_more k (guard_lawful bytes) (and_parts (leb (10 * k) (length bytes)) _ l).1 there.1),
        same_Some (guard_at bytes k) g (sym (cond-true whole (Some (guard_at bytes k)) None w) ∙ q),
      ))
      (λ w. let z = sym (cond-false whole (Some (guard_at bytes k)) None w) ∙ q in
      let n : ◌≡◌ {A = ℕ} 0 1 = cc in absurd (omega arith))
      (cases_Bool whole)

  pub none_more : (n : ℕ) → k < n → listed_guard bytes k ≡ None → all_listed bytes n ≡ false
  none_more n l q = ⊎_elim
      (λ (w : whole ≡ true). let z = sym (cond-true whole (Some (guard_at bytes k)) None w) ∙ q in
      let m : ◌≡◌ {A = ℕ} 0 1 = cc in absurd (omega arith))
      (λ w. ⊎_elim
      (λ (far : leb (10 * k + 10) (length bytes) ≡ true).
      ap (λ b. leb (10 * n) (length bytes) && b) (all_fails n (guard_lawful bytes) k l (sym (ap (λ b. b && guard_lawful bytes k) far) ∙ w))
      ∙ and-false (leb (10 * n) (length bytes)))
      (λ far. ap (λ b. b && all_below n (guard_lawful bytes)) (lt-leb (10 * n) (length bytes) (omega (arith, leb-false _ _ far, l))))
      (cases_Bool (leb (10 * k + 10) (length bytes))))
      (cases_Bool whole)
