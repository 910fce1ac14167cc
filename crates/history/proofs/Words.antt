-- The word of an order has at each position the label of the event that stands there.
use Rattle.std.proofs.Common.{◌≡◌, ℕ, zero, suc, ◌+◌, ◌<◌, List, [], ◌∷◌, length, get_or, take, Some, sym, refl, ap, ◌∙◌, add-zero, zero-add, arith}
use Rattle.std.proofs.Math.Nat.{add_assoc}
use Rattle.history.specs.Cuts.{Cut, nothing_done, advance}
use Rattle.history.specs.Histories.{History, nth}
use Rattle.history.specs.Orders.{one_if, occurs}
use Rattle.history.specs.Words.{label, labels, WordsFollow}

labels_long : (h : History) (c : Cut) (o : List ℕ) → length (labels h c o) ≡ length o
labels_long h c [] = refl
labels_long h c (s ∷ o) = ap suc (labels_long h (advance c s) o)

labels_at : (h : History) (c : Cut) (o : List ℕ) (i : ℕ) → i < length o
    → nth (labels h c o) (suc i) ≡ Some (label h (get_or o i 0) (suc (c (get_or o i 0) + occurs (get_or o i 0) (take i o))))
labels_at h c [] i l = let z : ⊥ = omega arith in absurd z
labels_at h c (s ∷ o) zero l = ap (λ n. Some (label h s (suc n))) (sym (add-zero (c s)))
labels_at h c (s ∷ o) (suc i) l =
    labels_at h (advance c s) o i (omega arith)
    ∙ ap (λ n. Some (label h (get_or o i 0) (suc n))) (add_assoc (c (get_or o i 0)) (one_if s (get_or o i 0)) (occurs (get_or o i 0) (take i o)))

pub words_follow : WordsFollow
words_follow h o = record {
  long = labels_long h nothing_done o;
  at = λ i l. labels_at h nothing_done o i l ∙ ap (λ n. Some (label h (get_or o i 0) (suc n))) (zero-add (occurs (get_or o i 0) (take i o)));
}
