-- One pass over the items of a line gives the value of its formula and the bits of its temporal items.
use Rattle.std.proofs.Common.{◌≡◌, ℕ, zero, suc, ◌+◌, ◌-◌, ◌*◌, ◌/◌, ◌%◌, ◌^◌, Bool, true, false, cond, not, ◌&&◌, ◌||◌, eqb, leb, List, [], ◌∷◌, ◌++◌, map, length, get_or, drop, Some, None, Ok, Err, Option, sym, refl, ap, ◌∙◌, subst, ap₂, ⊎_elim, pow-suc, arith}
use mathlib.Core.Path.{fun_ext}
use Rattle.std.proofs.lemmas.List.{length-append, append_assoc, append-nil}
use Rattle.std.proofs.lemmas.Bool.{eq-eqb, ne_eqb, cases_eq, cases_Bool, cond-true, cond-false}
use Rattle.history.specs.Histories.{nth}
use Rattle.history.specs.declared.Label.{Label}
use Rattle.history.specs.declared.Refusal.TheVariants.{TooManyTemporalItems}
use Rattle.monitor.specs.Guards.{triggers}
use Rattle.monitor.specs.declared.guard.Guard.{Guard}
use Rattle.formula.proofs.Reading.{went_on}
use Rattle.formula.specs.Automata.{number_of, value, values, mirrored}
use Rattle.formula.specs.Formulas.{Future, Past, items}
use Rattle.formula.specs.Lines.{Item, gives, takes_one, takes_two, named, letter_item, future_item, past_item, Reading, counted, taken, known, single, read_items, unread, future_line, past_line}
use Rattle.rule.specs.declared.pass.Pass.{Pass}
use Rattle.rule.specs.Passes.{low, last, earlier, looked, put, push, one, two, keep, triggered, valued, passed, begun, ended}

low_bit : (b : Bool) (bs : List Bool) → low (number_of (b ∷ bs)) ≡ b
low_bit true bs = eq-eqb _ 1 (odd (number_of bs))
  where
    odd : (n : ℕ) → (1 + 2 * n) % 2 ≡ 1
    odd n = omega arith
low_bit false bs = ne_eqb _ 1 (even (number_of bs))
  where
    even : (n : ℕ) → (0 + 2 * n) % 2 ≡ 1 → ⊥
    even n p = omega arith

half : (b : Bool) (bs : List Bool) → number_of (b ∷ bs) / 2 ≡ number_of bs
half true bs = omega arith
half false bs = omega arith

-- the bit at an index, and those behind it
low_drop : (k : ℕ) (d : List Bool) → low (number_of (drop k d)) ≡ get_or d k false
low_drop zero [] = refl
low_drop zero (b ∷ bs) = low_bit b bs
low_drop (suc k) [] = refl
low_drop (suc k) (b ∷ bs) = low_drop k bs

half_drop : (k : ℕ) (d : List Bool) → number_of (drop k d) / 2 ≡ number_of (drop (suc k) d)
half_drop zero [] = omega arith
half_drop zero (b ∷ bs) = half b bs
half_drop (suc k) [] = omega arith
half_drop (suc k) (b ∷ bs) = half_drop k bs

-- a bit behind the others
pub behind : (bs : List Bool) (b : Bool) → number_of (bs ++ b ∷ []) ≡ number_of bs + cond b (2 ^ length bs) 0
behind [] true = omega arith
behind [] false = omega arith
behind (c ∷ bs) true = omega (arith, behind bs true, pow-suc 2 (length bs))
behind (c ∷ bs) false = omega (arith, behind bs false)

length_values : (f : Future) (k : ℕ) (e : Label) (d : List Bool) → length (values f k e d) ≡ items f
length_values (Future.letter g) k e d = refl
length_values (Future.negated f) k e d = length_values f k e d
length_values (Future.both f g) k e d = length-append (values f k e d) _ ∙ ap₂ ◌+◌ (length_values f k e d) (length_values g _ e d)
length_values (Future.either f g) k e d = length-append (values f k e d) _ ∙ ap₂ ◌+◌ (length_values f k e d) (length_values g _ e d)
length_values (Future.next f) k e d = length-append (values f k e d) _ ∙ ap (λ n. n + 1) (length_values f k e d)
length_values (Future.weak_next f) k e d = length-append (values f k e d) _ ∙ ap (λ n. n + 1) (length_values f k e d)
length_values (Future.always f) k e d = length-append (values f k e d) _ ∙ ap (λ n. n + 1) (length_values f k e d)
length_values (Future.finally f) k e d = length-append (values f k e d) _ ∙ ap (λ n. n + 1) (length_values f k e d)
length_values (Future.until f g) k e d =
    length-append (values f k e d ++ _) _
    ∙ ap (λ n. n + 1) (length-append (values f k e d) _ ∙ ap₂ ◌+◌ (length_values f k e d) (length_values g _ e d))
length_values (Future.release f g) k e d =
    length-append (values f k e d ++ _) _
    ∙ ap (λ n. n + 1) (length-append (values f k e d) _ ∙ ap₂ ◌+◌ (length_values f k e d) (length_values g _ e d))

-- lists that end alike
end_one : (ks xs : List Bool) {b c : Bool} → b ≡ c → (ks ++ xs) ++ b ∷ [] ≡ ks ++ (xs ++ c ∷ [])
end_one ks xs q = append_assoc ks xs _ ∙ ap (λ b. ks ++ (xs ++ b ∷ [])) q

end_two : (ks xs bs : List Bool) {b c : Bool} → b ≡ c → ((ks ++ xs) ++ bs) ++ b ∷ [] ≡ ks ++ ((xs ++ bs) ++ c ∷ [])
end_two ks xs bs {b} q = ap (λ l. l ++ b ∷ []) (append_assoc ks xs bs) ∙ end_one ks (xs ++ bs) q

-- a value upon what is left of the stack
upon_one : (v : Bool) (vs : List Bool) {u w : Bool} → u ≡ w → cond u 1 0 + 2 * (number_of (v ∷ vs) / 2) ≡ number_of (w ∷ vs)
upon_one v vs q = ap₂ (λ c n. cond c 1 0 + 2 * n) q (half v vs)

upon_two : (v x : Bool) (vs : List Bool) {u w : Bool} → u ≡ w → cond u 1 0 + 2 * (number_of (v ∷ x ∷ vs) / 2 / 2) ≡ number_of (w ∷ vs)
upon_two v x vs q = ap₂ (λ c n. cond c 1 0 + 2 * n) q (ap (λ n. n / 2) (half v (x ∷ vs)) ∙ half x vs)

module _ (e : Label) (d : List Bool) where
  -- the formulas still to be taken, the last first: how many temporal items they have, their values and their bits
  abbrev pub sizes : List Future → ℕ
  sizes [] = 0
  sizes (f ∷ fs) = sizes fs + items f

  abbrev pub worth : List Future → List Bool
  worth [] = []
  worth (f ∷ fs) = value f (sizes fs) e d ∷ worth fs

  abbrev pub kept : List Future → List Bool
  kept [] = []
  kept (f ∷ fs) = kept fs ++ values f (sizes fs) e d

  abbrev pub pass_of : List Future → Pass
  pass_of fs = record {
    stack = number_of (worth fs);
    ahead = number_of (drop (sizes fs) d);
    here = number_of (kept fs);
    weight = 2 ^ sizes fs;
  }

  length_kept : (fs : List Future) → length (kept fs) ≡ sizes fs
  length_kept [] = refl
  length_kept (f ∷ fs) = length-append (kept fs) _ ∙ ap₂ ◌+◌ (length_kept fs) (length_values f (sizes fs) e d)

  same : {a b c w x y z u : ℕ} → a ≡ x → b ≡ y → c ≡ z → w ≡ u
      → ◌≡◌ {A = Pass} record { stack = a; ahead = b; here = c; weight = w } record { stack = x; ahead = y; here = z; weight = u }
  same p q r t = cc

  puts : (fs gs : List Future) (rest : ℕ) (v : Bool) → cond v 1 0 + 2 * rest ≡ number_of (worth gs) → kept fs ≡ kept gs → sizes fs ≡ sizes gs
      → put rest (pass_of fs) v ≡ pass_of gs
  puts fs gs rest v p q r = same p (ap (λ n. number_of (drop n d)) r) (ap number_of q) (ap (λ n. 2 ^ n) r)

  keeps : (fs gs : List Future) (rest : ℕ) (v b : Bool) → cond v 1 0 + 2 * rest ≡ number_of (worth gs) → kept fs ++ b ∷ [] ≡ kept gs
      → suc (sizes fs) ≡ sizes gs → keep (put rest (pass_of fs) v) b ≡ pass_of gs
  keeps fs gs rest v b p q r = same p
      (half_drop (sizes fs) d ∙ ap (λ n. number_of (drop n d)) r)
      (ap (λ n. number_of (kept fs) + cond b (2 ^ n) 0) (sym (length_kept fs)) ∙ sym (behind (kept fs) b) ∙ ap number_of q)
      (sym (pow-suc 2 (sizes fs)) ∙ ap (λ n. 2 ^ n) r)

  last_is : (f : Future) (fs : List Future) → last (pass_of (f ∷ fs)) ≡ value f (sizes fs) e d
  last_is f fs = low_bit _ (worth fs)

  earlier_is : (g f : Future) (fs : List Future) → earlier (pass_of (g ∷ f ∷ fs)) ≡ value f (sizes fs) e d
  earlier_is g f fs = ap low (half _ (worth (f ∷ fs))) ∙ low_bit _ (worth fs)

  looked_is : (fs : List Future) → looked (pass_of fs) ≡ get_or d (sizes fs) false
  looked_is fs = low_drop (sizes fs) d

  -- what each item does
  negated_acts : (f : Future) (fs : List Future) → let p : Pass = pass_of (f ∷ fs) in one p (not (last p)) ≡ pass_of (Future.negated f ∷ fs)
  negated_acts f fs = puts (f ∷ fs) (Future.negated f ∷ fs) _ _ (upon_one _ (worth fs) (ap not (last_is f fs))) refl refl

  both_acts : (f g : Future) (fs : List Future) → let p : Pass = pass_of (g ∷ f ∷ fs) in two p (earlier p && last p) ≡ pass_of (Future.both f g ∷ fs)
  both_acts f g fs = puts (g ∷ f ∷ fs) (Future.both f g ∷ fs) _ _
      (upon_two _ _ (worth fs) (ap₂ ◌&&◌ (earlier_is g f fs) (last_is g (f ∷ fs)))) (append_assoc (kept fs) _ _) (omega arith)

  either_acts : (f g : Future) (fs : List Future) → let p : Pass = pass_of (g ∷ f ∷ fs) in two p (earlier p || last p) ≡ pass_of (Future.either f g ∷ fs)
  either_acts f g fs = puts (g ∷ f ∷ fs) (Future.either f g ∷ fs) _ _
      (upon_two _ _ (worth fs) (ap₂ ◌||◌ (earlier_is g f fs) (last_is g (f ∷ fs)))) (append_assoc (kept fs) _ _) (omega arith)

  next_acts : (f : Future) (fs : List Future) → let p : Pass = pass_of (f ∷ fs) in keep (one p (looked p)) (last p) ≡ pass_of (Future.next f ∷ fs)
  next_acts f fs = keeps (f ∷ fs) (Future.next f ∷ fs) _ _ _
      (upon_one _ (worth fs) (looked_is (f ∷ fs))) (end_one (kept fs) _ (last_is f fs)) (omega arith)

  weak_next_acts : (f : Future) (fs : List Future) → let p : Pass = pass_of (f ∷ fs) in keep (one p (looked p)) (last p) ≡ pass_of (Future.weak_next f ∷ fs)
  weak_next_acts f fs = next_acts f fs

  always_acts : (f : Future) (fs : List Future) → let p : Pass = pass_of (f ∷ fs) in
      keep (one p (last p && looked p)) (last p && looked p) ≡ pass_of (Future.always f ∷ fs)
  always_acts f fs =
      let q = ap₂ ◌&&◌ (last_is f fs) (looked_is (f ∷ fs)) in
      keeps (f ∷ fs) (Future.always f ∷ fs) _ _ _ (upon_one _ (worth fs) q) (end_one (kept fs) _ q) (omega arith)

  finally_acts : (f : Future) (fs : List Future) → let p : Pass = pass_of (f ∷ fs) in
      keep (one p (last p || looked p)) (last p || looked p) ≡ pass_of (Future.finally f ∷ fs)
  finally_acts f fs =
      let q = ap₂ ◌||◌ (last_is f fs) (looked_is (f ∷ fs)) in
      keeps (f ∷ fs) (Future.finally f ∷ fs) _ _ _ (upon_one _ (worth fs) q) (end_one (kept fs) _ q) (omega arith)

  until_acts : (f g : Future) (fs : List Future) → let p : Pass = pass_of (g ∷ f ∷ fs) in
      keep (two p (last p || (earlier p && looked p))) (last p || (earlier p && looked p)) ≡ pass_of (Future.until f g ∷ fs)
  until_acts f g fs =
      let q = ap₂ ◌||◌ (last_is g (f ∷ fs)) (ap₂ ◌&&◌ (earlier_is g f fs) (looked_is (g ∷ f ∷ fs))) in
      keeps (g ∷ f ∷ fs) (Future.until f g ∷ fs) _ _ _ (upon_two _ _ (worth fs) q) (end_two (kept fs) _ _ q) (omega arith)

  release_acts : (f g : Future) (fs : List Future) → let p : Pass = pass_of (g ∷ f ∷ fs) in
      keep (two p (last p && (earlier p || looked p))) (last p && (earlier p || looked p)) ≡ pass_of (Future.release f g ∷ fs)
  release_acts f g fs =
      let q = ap₂ ◌&&◌ (last_is g (f ∷ fs)) (ap₂ ◌||◌ (earlier_is g f fs) (looked_is (g ∷ f ∷ fs))) in
      keeps (g ∷ f ∷ fs) (Future.release f g ∷ fs) _ _ _ (upon_two _ _ (worth fs) q) (end_two (kept fs) _ _ q) (omega arith)

  letter_acts : (g : Guard) (fs : List Future) → push (pass_of fs) (triggers g e) ≡ pass_of (Future.letter g ∷ fs)
  letter_acts g fs = puts fs (Future.letter g ∷ fs) _ _ refl (sym (append-nil (kept fs))) (omega arith)

  -- A kind of line, by what its formulas stand for: what an item does to a pass is what it does to the values read.
  module _ {X : Type 0} (plain : X → Future) where
    abbrev pass_at : List X → Pass
    pass_at xs = pass_of (map plain xs)

    abbrev Acts : Item X → (Pass → Pass) → Type 0
    Acts (gives x) h = (xs : List X) → h (pass_at xs) ≡ pass_at (x ∷ xs)
    Acts (takes_one t op) h = (x : X) (xs : List X) → h (pass_at (x ∷ xs)) ≡ pass_at (op x ∷ xs)
    Acts (takes_two t op) h = (x y : X) (xs : List X) → h (pass_at (y ∷ x ∷ xs)) ≡ pass_at (op x y ∷ xs)

    data Works : Option (Item X) → (Pass → Pass) → Type 0 where
      none : (h : Pass → Pass) → Works None h
      some : (it : Item X) (h : Pass → Pass) → Acts it h → Works (Some it) h

    named_works : (letter : Guard → X) → ((g : Guard) → plain (letter g) ≡ Future.letter g) → (o : Option Guard)
        → Works (named letter o) (λ p. push p (triggered e o))
    named_works letter q None = none _
    named_works letter q (Some g) = some (gives (letter g)) _ (λ xs. letter_acts g (map plain xs) ∙ ap (λ f. pass_of (f ∷ map plain xs)) (sym (q g)))

    letter_works : (letter : Guard → X) → ((g : Guard) → plain (letter g) ≡ Future.letter g) → (t : Bool) (o : Option Guard)
        → Works (cond t (named letter o) None) (λ p. push p (triggered e o))
    letter_works letter q true o = named_works letter q o
    letter_works letter q false o = none _

    counted_values : (t : Bool) (m : ℕ) (xs : List X) (s : Reading X) → counted t m xs ≡ Ok s → s.values ≡ xs
    counted_values false m xs s q = cc
    counted_values true m xs s q = ⊎_elim
        (λ (b : leb 6 m ≡ true). let z = sym (cond-true (leb 6 m) (Err TooManyTemporalItems) (Ok record { values = xs; temporal = suc m }) b) ∙ q in
        let w : ◌≡◌ {A = ℕ} 0 1 = cc in absurd (omega arith))
        (λ b. let z = sym (cond-false (leb 6 m) (Err TooManyTemporalItems) (Ok record { values = xs; temporal = suc m }) b) ∙ q in cc)
        (cases_Bool (leb 6 m))

    taken_works : (it : Item X) (h : Pass → Pass) → Acts it h → (xs : List X) (m : ℕ) (s : Reading X) → taken it xs m ≡ Ok s → h (pass_at xs) ≡ pass_at s.values
    taken_works (gives x) h a xs m s q = a xs ∙ ap pass_at (sym (counted_values false m (x ∷ xs) s q))
    taken_works (takes_one t op) h a [] m s q = let w : ◌≡◌ {A = ℕ} 0 1 = cc in absurd (omega arith)
    taken_works (takes_one t op) h a (x ∷ xs) m s q = a x xs ∙ ap pass_at (sym (counted_values t m (op x ∷ xs) s q))
    taken_works (takes_two t op) h a [] m s q = let w : ◌≡◌ {A = ℕ} 0 1 = cc in absurd (omega arith)
    taken_works (takes_two t op) h a (y ∷ []) m s q = let w : ◌≡◌ {A = ℕ} 0 1 = cc in absurd (omega arith)
    taken_works (takes_two t op) h a (y ∷ x ∷ xs) m s q = a x y xs ∙ ap pass_at (sym (counted_values t m (op x y ∷ xs) s q))

    known_works : {o : Option (Item X)} {h : Pass → Pass} → Works o h → (r s : Reading X) → known o r ≡ Ok s → h (pass_at r.values) ≡ pass_at s.values
    known_works (none h) r s q = let w : ◌≡◌ {A = ℕ} 0 1 = cc in absurd (omega arith)
    known_works (some it h a) r s q = taken_works it h a r.values r.temporal s q

    single_is : (n : ℕ) (xs : List X) (x : X) → single n xs ≡ Ok x → xs ≡ x ∷ []
    single_is n [] x q = let w : ◌≡◌ {A = ℕ} 0 1 = cc in absurd (omega arith)
    single_is n (y ∷ []) x q = cc
    single_is n (y ∷ z ∷ xs) x q = let w : ◌≡◌ {A = ℕ} 0 1 = cc in absurd (omega arith)

    passes : (guards : List Guard) (item : ℕ → Option (Item X)) → ((b : ℕ) → Works (item b) (valued guards e b))
        → (r : Reading X) (i : ℕ) (bs : List ℕ) (x : X) → read_items item r i bs ≡ Ok x → passed guards e (pass_at r.values) bs ≡ pass_at (x ∷ [])
    passes guards item works r i [] x q = ap pass_at (single_is i r.values x q)
    passes guards item works r i (b ∷ bs) x q =
        let n = went_on i (known (item b) r) (λ s. read_items item s (suc i) bs) x q in
        ap (λ p. passed guards e p bs) (known_works (works b) r n.0 n.1) ∙ passes guards item works n.0 (suc i) bs x n.2

-- one byte apart from the others
pub at : (P : ℕ → Type 0) (b c : ℕ) → P c → (eqb b c ≡ false → P b) → P b
at P b c w rest = ⊎_elim (λ (q : b ≡ c). subst P (sym q) w) (λ n. rest (ne_eqb b c n)) (cases_eq b c)

-- the items of both kinds, byte by byte
module _ (e : Label) (d : List Bool) (guards : List Guard) where
  abbrev FutureWorks : ℕ → Type 0
  FutureWorks b = Works e d (λ f. f) (future_item guards b) (valued guards e b)

  future_works : (b : ℕ) → FutureWorks b
  future_works b =
      at FutureWorks b 33 (some (takes_one false Future.negated) _ (λ f fs. negated_acts e d f (map (λ g. g) fs))) (λ n33.
      at FutureWorks b 38 (some (takes_two false Future.both) _ (λ f g fs. both_acts e d f g (map (λ g. g) fs))) (λ n38.
      at FutureWorks b 124 (some (takes_two false Future.either) _ (λ f g fs. either_acts e d f g (map (λ g. g) fs))) (λ n124.
      at FutureWorks b 88 (some (takes_one true Future.next) _ (λ f fs. next_acts e d f (map (λ g. g) fs))) (λ n88.
      at FutureWorks b 87 (some (takes_one true Future.weak_next) _ (λ f fs. weak_next_acts e d f (map (λ g. g) fs))) (λ n87.
      at FutureWorks b 89 (none _) (λ n89.
      at FutureWorks b 71 (some (takes_one true Future.always) _ (λ f fs. always_acts e d f (map (λ g. g) fs))) (λ n71.
      at FutureWorks b 72 (none _) (λ n72.
      at FutureWorks b 70 (some (takes_one true Future.finally) _ (λ f fs. finally_acts e d f (map (λ g. g) fs))) (λ n70.
      at FutureWorks b 79 (none _) (λ n79.
      at FutureWorks b 85 (some (takes_two true Future.until) _ (λ f g fs. until_acts e d f g (map (λ g. g) fs))) (λ n85.
      at FutureWorks b 83 (none _) (λ n83.
      at FutureWorks b 86 (some (takes_two true Future.release) _ (λ f g fs. release_acts e d f g (map (λ g. g) fs))) (λ n86.
      let same : (p : Pass) → push p (triggered e (nth guards (b - 96))) ≡ valued guards e b p =
      λ p. simp (n33, n38, n124, n88, n87, n89, n71, n72, n70, n79, n85, n83, n86) refl in
      simp (n33, n38, n124, n88, n87, n71, n70, n85, n86)
      (subst (Works e d (λ f. f) (letter_item Future.letter guards b)) (fun_ext same)
      (letter_works e d (λ f. f) Future.letter (λ g. refl) (leb 97 b && leb b 122) (nth guards (b - 96)))))))))))))))))

  abbrev PastWorks : ℕ → Type 0
  PastWorks b = Works e d mirrored (past_item guards b) (valued guards e b)

  past_works : (b : ℕ) → PastWorks b
  past_works b =
      at PastWorks b 33 (some (takes_one false Past.negated) _ (λ f fs. negated_acts e d (mirrored f) (map mirrored fs))) (λ n33.
      at PastWorks b 38 (some (takes_two false Past.both) _ (λ f g fs. both_acts e d (mirrored f) (mirrored g) (map mirrored fs))) (λ n38.
      at PastWorks b 124 (some (takes_two false Past.either) _ (λ f g fs. either_acts e d (mirrored f) (mirrored g) (map mirrored fs))) (λ n124.
      at PastWorks b 88 (none _) (λ n88.
      at PastWorks b 87 (none _) (λ n87.
      at PastWorks b 89 (some (takes_one true Past.previous) _ (λ f fs. next_acts e d (mirrored f) (map mirrored fs))) (λ n89.
      at PastWorks b 71 (none _) (λ n71.
      at PastWorks b 72 (some (takes_one true Past.historically) _ (λ f fs. always_acts e d (mirrored f) (map mirrored fs))) (λ n72.
      at PastWorks b 70 (none _) (λ n70.
      at PastWorks b 79 (some (takes_one true Past.once) _ (λ f fs. finally_acts e d (mirrored f) (map mirrored fs))) (λ n79.
      at PastWorks b 85 (none _) (λ n85.
      at PastWorks b 83 (some (takes_two true Past.since) _ (λ f g fs. until_acts e d (mirrored f) (mirrored g) (map mirrored fs))) (λ n83.
      at PastWorks b 86 (none _) (λ n86.
      let same : (p : Pass) → push p (triggered e (nth guards (b - 96))) ≡ valued guards e b p =
      λ p. simp (n33, n38, n124, n88, n87, n89, n71, n72, n70, n79, n85, n83, n86) refl in
      simp (n33, n38, n124, n89, n72, n79, n83)
      (subst (Works e d mirrored (letter_item Past.letter guards b)) (fun_ext same)
      (letter_works e d mirrored Past.letter (λ g. refl) (leb 97 b && leb b 122) (nth guards (b - 96)))))))))))))))))

-- the pass of a whole line
whole : (f : Future) (e : Label) (d : List Bool) → pass_of e d (f ∷ []) ≡ ended f e d
whole f e d =
    let n : 0 + items f ≡ items f = omega arith in
    same e d (omega arith) (ap (λ k. number_of (drop k d)) n) refl (ap (λ k. 2 ^ k) n)

pub future_passed : (guards : List Guard) (bytes : List ℕ) (f : Future) → future_line guards bytes ≡ Ok f → (e : Label) (d : List Bool)
    → passed guards e (begun (number_of d)) bytes ≡ ended f e d
future_passed guards bytes f q e d = passes e d (λ g. g) guards (future_item guards) (future_works e d guards) unread 1 bytes f q ∙ whole f e d

pub past_passed : (guards : List Guard) (bytes : List ℕ) (f : Past) → past_line guards bytes ≡ Ok f → (e : Label) (d : List Bool)
    → passed guards e (begun (number_of d)) bytes ≡ ended (mirrored f) e d
past_passed guards bytes f q e d =
    passes e d mirrored guards (past_item guards) (past_works e d guards) unread 1 bytes f q ∙ whole (mirrored f) e d
