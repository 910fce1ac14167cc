-- The numbers of a pass and of reading stay small: one more for each item.
use Rattle.std.proofs.Common.{ℕ, suc, ◌-◌, ◌/◌, ◌^◌, ◌<◌, ◌≤◌, Bool, true, false, cond, not, ◌&&◌, ◌||◌, eqb, ltb, leb, List, Ok, Err, Result, pow-suc, arith}
use Rattle.history.specs.Histories.{nth}
use Rattle.history.specs.declared.Label.{Label}
use Rattle.monitor.specs.declared.guard.Guard.{Guard}
use Rattle.std.proofs.lemmas.Bool.{cond_both}
use Rattle.history.specs.declared.Refusal.{Refusal}
use Rattle.rule.specs.declared.pass.Pass.{Pass}
use Rattle.rule.specs.declared.progress.Progress.{Progress}
use Rattle.rule.specs.Outlines.{takes, counts, then_counts, stepped}
use Rattle.rule.specs.Passes.{put, one, two, keep, triggered, valued}

pub record Bounded (n : ℕ) (p : Pass) : Type 0 where
  pub stack_below : p.stack < 2 ^ n
  pub weight_most : p.weight ≤ 2 ^ n
  pub here_below : p.here < p.weight

put_bounded : (n rest : ℕ) (p : Pass) (v : Bool) → rest ≤ p.stack → Bounded n p → Bounded (suc n) (put rest p v)
put_bounded n rest p true l b = record {
  stack_below = omega (arith, l, b.stack_below, pow-suc 2 n);
  weight_most = omega (arith, b.weight_most, pow-suc 2 n);
  here_below = b.here_below;
}
put_bounded n rest p false l b = record {
  stack_below = omega (arith, l, b.stack_below, pow-suc 2 n);
  weight_most = omega (arith, b.weight_most, pow-suc 2 n);
  here_below = b.here_below;
}

keep_bounded : (n rest : ℕ) (p : Pass) (v b : Bool) → rest ≤ p.stack → Bounded n p → Bounded (suc n) (keep (put rest p v) b)
keep_bounded n rest p v true l b = record {
  stack_below = (put_bounded n rest p v l b).stack_below;
  weight_most = omega (arith, b.weight_most, pow-suc 2 n);
  here_below = omega (arith, b.here_below);
}
keep_bounded n rest p v false l b = record {
  stack_below = (put_bounded n rest p v l b).stack_below;
  weight_most = omega (arith, b.weight_most, pow-suc 2 n);
  here_below = omega (arith, b.here_below);
}

pub valued_bounded : (n : ℕ) (guards : List Guard) (e : Label) (b : ℕ) (p : Pass) → Bounded n p → Bounded (suc n) (valued guards e b p)
valued_bounded n guards e b p small =
    let P = Bounded (suc n) in
    let full = put_bounded n p.stack p (triggered e (nth guards (b - 96))) (omega arith) small in
    let first : (v : Bool) → Bounded (suc n) (one p v) = λ v. put_bounded n (p.stack / 2) p v (omega arith) small in
    let second : (v : Bool) → Bounded (suc n) (two p v) = λ v. put_bounded n (p.stack / 2 / 2) p v (omega arith) small in
    let first_kept : (v w : Bool) → Bounded (suc n) (keep (one p v) w) = λ v w. keep_bounded n (p.stack / 2) p v w (omega arith) small in
    let second_kept : (v w : Bool) → Bounded (suc n) (keep (two p v) w) = λ v w. keep_bounded n (p.stack / 2 / 2) p v w (omega arith) small in
    cond_both (eqb b 33) _ _ P (λ _. first _) (λ _.
    cond_both (eqb b 38) _ _ P (λ _. second _) (λ _.
    cond_both (eqb b 124) _ _ P (λ _. second _) (λ _.
    cond_both (eqb b 88 || (eqb b 87 || eqb b 89)) _ _ P (λ _. first_kept _ _) (λ _.
    cond_both (eqb b 71 || eqb b 72) _ _ P (λ _. first_kept _ _) (λ _.
    cond_both (eqb b 70 || eqb b 79) _ _ P (λ _. first_kept _ _) (λ _.
    cond_both (eqb b 85 || eqb b 83) _ _ P (λ _. second_kept _ _) (λ _.
    cond_both (eqb b 86) _ _ P (λ _. second_kept _ _) (λ _. full))))))))

-- what reading has come to stays small
pub record Modest (n : ℕ) (p : Progress) : Type 0 where
  pub depth_most : p.depth ≤ n
  pub end_below : p.end < 2 ^ p.temporal

abbrev pub ModestIf : ℕ → Result Progress Refusal → Type 0
ModestIf n (Ok p) = Modest n p
ModestIf n (Err why) = Unit {0}

takes_modest : (n k : ℕ) (p : Progress) → Modest n p → ModestIf (suc n) (takes k p)
takes_modest n k p m = cond_both (ltb p.depth k) _ _ (ModestIf (suc n)) (λ _. tt)
    (λ _. record { depth_most = omega (arith, m.depth_most); end_below = m.end_below })

counts_modest : (n : ℕ) (bit : Bool) (p : Progress) → Modest n p → ModestIf n (counts bit p)
counts_modest n true p m = cond_both (leb 6 p.temporal) _ _ (ModestIf n) (λ _. tt)
    (λ _. record { depth_most = m.depth_most; end_below = omega (arith, m.end_below, pow-suc 2 p.temporal) })
counts_modest n false p m = cond_both (leb 6 p.temporal) _ _ (ModestIf n) (λ _. tt)
    (λ _. record { depth_most = m.depth_most; end_below = omega (arith, m.end_below, pow-suc 2 p.temporal) })

then_modest : (n : ℕ) (bit : Bool) (r : Result Progress Refusal) → ModestIf n r → ModestIf n (then_counts bit r)
then_modest n bit (Ok p) m = counts_modest n bit p m
then_modest n bit (Err why) m = tt

pub stepped_modest : (n : ℕ) (looks_back : Bool) (k b : ℕ) (p : Progress) → Modest n p → ModestIf (suc n) (stepped looks_back k b p)
stepped_modest n looks_back k b p m =
    let P = ModestIf (suc n) in
    let taken : (j : ℕ) → ModestIf (suc n) (takes j p) = λ j. takes_modest n j p m in
    let timed : (bit : Bool) (j : ℕ) → ModestIf (suc n) (then_counts bit (takes j p)) = λ bit j. then_modest (suc n) bit (takes j p) (taken j) in
    cond_both (eqb b 33) _ _ P (λ _. taken 1) (λ _.
    cond_both (eqb b 38 || eqb b 124) _ _ P (λ _. taken 2) (λ _.
    cond_both (cond looks_back (eqb b 89 || eqb b 79) (eqb b 88 || eqb b 70)) _ _ P (λ _. timed false 1) (λ _.
    cond_both (cond looks_back (eqb b 72) (eqb b 87 || eqb b 71)) _ _ P (λ _. timed true 1) (λ _.
    cond_both (cond looks_back (eqb b 83) (eqb b 85)) _ _ P (λ _. timed false 2) (λ _.
    cond_both (not looks_back && eqb b 86) _ _ P (λ _. timed true 2) (λ _.
    cond_both (leb 97 b && (leb b 122 && leb (b - 96) k)) _ _ P
    (λ _. record { depth_most = omega (arith, m.depth_most); end_below = m.end_below }) (λ _. tt)))))))
