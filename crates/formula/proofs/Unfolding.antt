-- Unfoldings and dualities, by the recursions that decide the formulas.
use Rattle.std.proofs.Common.{◌≡◌, Bool, true, false, not, ◌&&◌, ◌||◌, List, [], ◌∷◌, sym, refl, ap, ◌∙◌, ap₂}
use Rattle.history.specs.declared.Label.{Label}
use Rattle.formula.proofs.Backward.{back, newest, decides_at_index}
use Rattle.formula.proofs.Deserved.{dual}
use Rattle.formula.proofs.Satisfied.{satisfies, rest, every, some, til, decides, twice}
use Rattle.formula.specs.Automata.{mirrored}
use Rattle.formula.specs.Formulas.{Future, Past}
use Rattle.formula.specs.Laws.{Same, SameAt, FutureLaws, PastLaws, FormulaLaws}

-- formulas that are decided alike hold alike
same : (f g : Future) → ((e : Label) (w : List Label) → satisfies f (e ∷ w) ≡ satisfies g (e ∷ w)) → Same f g
same f g alike e w = (
  λ h. (decides g (e ∷ w)).0 (sym (alike e w) ∙ (decides f (e ∷ w)).1 h),
  λ h. (decides f (e ∷ w)).0 (alike e w ∙ (decides g (e ∷ w)).1 h),
)

same_at : (f g : Past) → ((e : Label) (w : List Label) → satisfies (mirrored f) (e ∷ w) ≡ satisfies (mirrored g) (e ∷ w)) → SameAt f g
same_at f g alike w i l = (
  λ h. (decides_at_index g w i l).0 (sym here ∙ (decides_at_index f w i l).1 h),
  λ h. (decides_at_index f w i l).0 (here ∙ (decides_at_index g w i l).1 h),
)
  where
    here : satisfies (mirrored f) (back [] w i) ≡ satisfies (mirrored g) (back [] w i)
    here =
        let n = newest [] w i l in
        ap (λ v. satisfies (mirrored f) v) n.2 ∙ alike n.0 n.1 ∙ ap (λ v. satisfies (mirrored g) v) (sym n.2)

-- what an item says where nothing is left is what it says at the end
rest_same : (end : Bool) (p : List Label → Bool) → p [] ≡ end → (w : List Label) → rest end p w ≡ p w
rest_same end p q [] = sym q
rest_same end p q (e ∷ w) = refl

module _ (p q : List Label → Bool) where
  -- until with its tests negated twice
  til_twice : (w : List Label) → til (λ v. not (not (p v))) (λ v. not (not (q v))) w ≡ til p q w
  til_twice [] = refl
  til_twice (e ∷ w) = ap₂ ◌||◌ (twice (q (e ∷ w))) (ap₂ ◌&&◌ (twice (p (e ∷ w))) (til_twice w))

  none_of : (w : List Label) → not (some p w) ≡ every (λ v. not (p v)) w
  none_of [] = refl
  none_of (e ∷ w) = apart (p (e ∷ w)) (some p w) ∙ ap (λ x. not (p (e ∷ w)) && x) (none_of w)
    where
      apart : (x y : Bool) → not (x || y) ≡ (not x && not y)
      apart true y = refl
      apart false y = refl

  weaker : (w : List Label) → not (rest false p w) ≡ rest true (λ v. not (p v)) w
  weaker [] = refl
  weaker (e ∷ w) = refl

future_laws : (f g : Future) → FutureLaws f g
future_laws f g = record {
  until_unfolds = same (Future.until f g) (Future.either g (Future.both f (Future.next (Future.until f g)))) (λ e w. ap (λ x. satisfies g (e ∷ w) || (satisfies f (e ∷ w) && x)) (sym (rest_same false (λ v. satisfies (Future.until f g) v) refl w)));
  release_unfolds = same (Future.release f g) (Future.both g (Future.either f (Future.weak_next (Future.release f g)))) (λ e w.
      sym (dual (satisfies g (e ∷ w)) (satisfies f (e ∷ w)) _)
      ∙ ap (λ x. satisfies g (e ∷ w) && (satisfies f (e ∷ w) || x)) (sym (rest_same true (λ v. satisfies (Future.release f g) v) refl w)));
  always_unfolds = same (Future.always f) (Future.both f (Future.weak_next (Future.always f))) (λ e w. ap (λ x. satisfies f (e ∷ w) && x) (sym (rest_same true (λ v. satisfies (Future.always f) v) refl w)));
  finally_unfolds = same (Future.finally f) (Future.either f (Future.next (Future.finally f))) (λ e w. ap (λ x. satisfies f (e ∷ w) || x) (sym (rest_same false (λ v. satisfies (Future.finally f) v) refl w)));
  not_next = same (Future.negated (Future.next f)) (Future.weak_next (Future.negated f)) (λ e w. weaker (λ v. satisfies f v) (λ v. satisfies g v) w);
  not_until = same (Future.negated (Future.until f g)) (Future.release (Future.negated f) (Future.negated g)) (λ e w. ap not (sym (til_twice (λ v. satisfies f v) (λ v. satisfies g v) (e ∷ w))));
  not_finally = same (Future.negated (Future.finally f)) (Future.always (Future.negated f)) (λ e w. none_of (λ v. satisfies f v) (λ v. satisfies g v) (e ∷ w));
}

past_laws : (f g : Past) → PastLaws f g
past_laws f g = record {
  since_unfolds = same_at (Past.since f g) (Past.either g (Past.both f (Past.previous (Past.since f g)))) (λ e w.
      ap (λ x. satisfies (mirrored g) (e ∷ w) || (satisfies (mirrored f) (e ∷ w) && x)) (sym (rest_same false (λ v. satisfies (mirrored (Past.since f g)) v) refl w)));
  once_unfolds = same_at (Past.once f) (Past.either f (Past.previous (Past.once f))) (λ e w.
      ap (λ x. satisfies (mirrored f) (e ∷ w) || x) (sym (rest_same false (λ v. satisfies (mirrored (Past.once f)) v) refl w)));
}

pub formula_laws : FormulaLaws
formula_laws = (future_laws, past_laws)
