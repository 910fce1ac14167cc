-- A line that can be read has at most six temporal items.
use Rattle.std.proofs.Common.{◌≡◌, ℕ, suc, ◌+◌, ◌-◌, ◌≤◌, Bool, true, false, cond, ◌&&◌, eqb, leb, List, [], ◌∷◌, Some, None, Ok, Err, Option, Result, sym, refl, ap, ◌∙◌, subst, ⊎_elim, arith}
use Rattle.std.proofs.lemmas.Bool.{cases_Bool, cond-true, cond-false, leb-false}
use Rattle.history.specs.Histories.{nth}
use Rattle.history.specs.declared.Refusal.{Refusal}
use Rattle.history.specs.declared.Refusal.TheVariants.{TooManyTemporalItems}
use Rattle.history.specs.declared.Refused.{Refused}
use Rattle.monitor.specs.declared.guard.Guard.{Guard}
use Rattle.formula.specs.Automata.{mirrored}
use Rattle.formula.specs.Formulas.{Future, Past, items}
use Rattle.formula.specs.Lines.{Item, gives, takes_one, takes_two, named, future_item, past_item, Reading, counted, taken, known, go_on, single, read_items, unread, future_line, past_line}

abbrev one_if : Bool → ℕ
one_if true = 1
one_if false = 0

-- an item that was taken
pub went_on : {X : Type 0} (place : ℕ) (a : Result (Reading X) Refusal) (next : Reading X → Result X Refused) (x : X) → go_on place a next ≡ Ok x
    → (s : Reading X) × (a ≡ Ok s) × (next s ≡ Ok x)
went_on place (Ok s) next x q = (s, refl, q)
went_on place (Err why) next x q = let w : ◌≡◌ {A = ℕ} 0 1 = cc in absurd (omega arith)

module _ {X : Type 0} (size : X → ℕ) where
  -- the item adds to the size what it counts
  abbrev Counts : Item X → Type 0
  Counts (gives x) = size x ≡ 0
  Counts (takes_one t op) = (x : X) → size (op x) ≡ size x + one_if t
  Counts (takes_two t op) = (x y : X) → size (op x y) ≡ size x + size y + one_if t

  data Good : Option (Item X) → Type 0 where
    none : Good None
    some : (it : Item X) → Counts it → Good (Some it)

  choose : {x y : Option (Item X)} (t : Bool) → Good x → Good y → Good (cond t x y)
  choose true p q = p
  choose false p q = q

  sizes : List X → ℕ
  sizes [] = 0
  sizes (x ∷ xs) = size x + sizes xs

  -- what reading has come to: the values have as many temporal items as were counted, at most six
  record Fits (r : Reading X) : Type 0 where
    same : sizes r.values ≡ r.temporal
    few : r.temporal ≤ 6

  counted_fits : (t : Bool) (m : ℕ) (xs : List X) (r : Reading X) → m ≤ 6 → sizes xs ≡ m + one_if t → counted t m xs ≡ Ok r → Fits r
  counted_fits false m xs r l p q =
      let e : r ≡ record { values = xs; temporal = m } = cc in
      subst Fits (sym e) record { same = omega arith; few = l }
  counted_fits true m xs r l p q = ⊎_elim
      (λ (b : leb 6 m ≡ true). let z = sym (cond-true (leb 6 m) (Err TooManyTemporalItems) (Ok record { values = xs; temporal = suc m }) b) ∙ q in
      let w : ◌≡◌ {A = ℕ} 0 1 = cc in absurd (omega arith))
      (λ b.
      let z = sym (cond-false (leb 6 m) (Err TooManyTemporalItems) (Ok record { values = xs; temporal = suc m }) b) ∙ q in
      let e : r ≡ record { values = xs; temporal = suc m } = cc in
      subst Fits (sym e) record { same = omega arith; few = omega (arith, leb-false 6 m b) })
      (cases_Bool (leb 6 m))

  item_fits : (i : Item X) → Counts i → (xs : List X) (m : ℕ) (s : Reading X) → sizes xs ≡ m → m ≤ 6 → taken i xs m ≡ Ok s → Fits s
  unfolding sizes
  item_fits (gives x) c xs m s p l e = counted_fits false m (x ∷ xs) s l (omega (arith, c)) e
  item_fits (takes_one t op) c [] m s p l e = let w : ◌≡◌ {A = ℕ} 0 1 = cc in absurd (omega arith)
  item_fits (takes_one t op) c (x ∷ xs) m s p l e = counted_fits t m (op x ∷ xs) s l (omega (arith, c x)) e
  item_fits (takes_two t op) c [] m s p l e = let w : ◌≡◌ {A = ℕ} 0 1 = cc in absurd (omega arith)
  item_fits (takes_two t op) c (y ∷ []) m s p l e = let w : ◌≡◌ {A = ℕ} 0 1 = cc in absurd (omega arith)
  item_fits (takes_two t op) c (y ∷ x ∷ xs) m s p l e = counted_fits t m (op x y ∷ xs) s l (omega (arith, c x y)) e

  known_fits : {o : Option (Item X)} → Good o → (r s : Reading X) → Fits r → known o r ≡ Ok s → Fits s
  known_fits none r s fits q = let w : ◌≡◌ {A = ℕ} 0 1 = cc in absurd (omega arith)
  known_fits (some it c) r s fits q = item_fits it c r.values r.temporal s fits.same fits.few q

  single_fits : (n : ℕ) (xs : List X) (x : X) → single n xs ≡ Ok x → size x ≡ sizes xs
  unfolding sizes
  single_fits n [] x q = let w : ◌≡◌ {A = ℕ} 0 1 = cc in absurd (omega arith)
  single_fits n (y ∷ []) x q = let e : x ≡ y = cc in omega (arith, ap size e)
  single_fits n (y ∷ z ∷ xs) x q = let w : ◌≡◌ {A = ℕ} 0 1 = cc in absurd (omega arith)

  read_few : (item : ℕ → Option (Item X)) → ((b : ℕ) → Good (item b)) → (r : Reading X) (i : ℕ) (bs : List ℕ) (x : X)
      → Fits r → read_items item r i bs ≡ Ok x → size x ≤ 6
  read_few item good r i [] x fits q = omega (arith, single_fits i r.values x q, fits.same, fits.few)
  read_few item good r i (b ∷ bs) x fits q =
      let n = went_on i (known (item b) r) (λ s. read_items item s (suc i) bs) x q in
      read_few item good n.0 (suc i) bs x (known_fits (good b) r n.0 fits n.1) n.2

  unread_fits : Fits unread
  unfolding sizes
  unread_fits = record { same = refl; few = omega arith }

named_good : {X : Type 0} (size : X → ℕ) (letter : Guard → X) → ((g : Guard) → size (letter g) ≡ 0) → (o : Option Guard) → Good size (named letter o)
named_good size letter p None = none
named_good size letter p (Some g) = some (gives (letter g)) (p g)

future_good : (guards : List Guard) (b : ℕ) → Good items (future_item guards b)
future_good guards b =
    choose items (eqb b 33) (some (takes_one false Future.negated) (λ x. omega arith))
    (choose items (eqb b 38) (some (takes_two false Future.both) (λ x y. omega arith))
    (choose items (eqb b 124) (some (takes_two false Future.either) (λ x y. omega arith))
    (choose items (eqb b 88) (some (takes_one true Future.next) (λ x. refl))
    (choose items (eqb b 87) (some (takes_one true Future.weak_next) (λ x. refl))
    (choose items (eqb b 71) (some (takes_one true Future.always) (λ x. refl))
    (choose items (eqb b 70) (some (takes_one true Future.finally) (λ x. refl))
    (choose items (eqb b 85) (some (takes_two true Future.until) (λ x y. refl))
    (choose items (eqb b 86) (some (takes_two true Future.release) (λ x y. refl))
    (choose items (leb 97 b && leb b 122) (named_good items Future.letter (λ g. refl) (nth guards (b - 96))) none)))))))))

past_good : (guards : List Guard) (b : ℕ) → Good (λ p. items (mirrored p)) (past_item guards b)
past_good guards b =
    choose _ (eqb b 33) (some (takes_one false Past.negated) (λ x. omega arith))
    (choose _ (eqb b 38) (some (takes_two false Past.both) (λ x y. omega arith))
    (choose _ (eqb b 124) (some (takes_two false Past.either) (λ x y. omega arith))
    (choose _ (eqb b 89) (some (takes_one true Past.previous) (λ x. refl))
    (choose _ (eqb b 72) (some (takes_one true Past.historically) (λ x. refl))
    (choose _ (eqb b 79) (some (takes_one true Past.once) (λ x. refl))
    (choose _ (eqb b 83) (some (takes_two true Past.since) (λ x y. refl))
    (choose _ (leb 97 b && leb b 122) (named_good (λ p. items (mirrored p)) Past.letter (λ g. refl) (nth guards (b - 96))) none)))))))

pub future_few : (guards : List Guard) (bytes : List ℕ) (f : Future) → future_line guards bytes ≡ Ok f → items f ≤ 6
future_few guards bytes f q = read_few items (future_item guards) (future_good guards) unread 1 bytes f (unread_fits items) q

pub past_few : (guards : List Guard) (bytes : List ℕ) (f : Past) → past_line guards bytes ≡ Ok f → items (mirrored f) ≤ 6
past_few guards bytes f q =
    read_few (λ p. items (mirrored p)) (past_item guards) (past_good guards) unread 1 bytes f (unread_fits (λ p. items (mirrored p))) q
