-- Reading a line by counting values and bits answers as reading its formula, and comes to the formula's bits behind the last
-- position.
use Rattle.std.proofs.Common.{◌≡◌, ℕ, suc, ◌+◌, ◌-◌, ◌^◌, ◌<◌, ◌≤◌, Bool, true, false, cond, ◌&&◌, eqb, ltb, leb, List, [], ◌∷◌, ◌++◌, length, Some, None, Ok, Err, Option, Result, sym, refl, ap, ◌∙◌, subst, ⊎_elim, arith}
use mathlib.Core.Path.{fun_ext}
use Rattle.std.proofs.lemmas.List.{length-append, append_assoc, append-nil}
use Rattle.std.proofs.lemmas.Bool.{ne_eqb, lt-ltb, le-ltb, cases_Bool, cond-true, cond-false, and_parts, leb-true, leb-false, true≢false}
use Rattle.history.proofs.Nth.{nth_has, nth_none}
use Rattle.history.specs.Histories.{nth}
use Rattle.history.specs.declared.Refusal.{Refusal}
use Rattle.history.specs.declared.Refusal.TheVariants.{UnknownItem, MissingOperand, TooManyTemporalItems}
use Rattle.history.specs.declared.Refused.{Refused}
use Rattle.monitor.specs.declared.guard.Guard.{Guard}
use Rattle.formula.specs.Automata.{number_of, end_bits, mirrored}
use Rattle.formula.specs.Formulas.{Future, Past}
use Rattle.formula.specs.Lines.{Item, gives, takes_one, takes_two, named, letter_item, future_item, past_item, Reading, counted, taken, known, go_on, single, read_items, unread, future_line, past_line}
use Rattle.rule.proofs.Valuing.{behind, at}
use Rattle.rule.specs.declared.progress.Progress.{Progress}
use Rattle.rule.specs.Outlines.{takes, then_counts, stepped, closed, outlined, untaken}
use Rattle.rule.specs.Outlines.{gives as given}

module _ {X : Type 0} (plain : X → Future) where
  -- the bits behind the last position of all values read
  abbrev ends : List X → List Bool
  ends [] = []
  ends (x ∷ xs) = ends xs ++ end_bits (plain x)

  abbrev progress : List X → ℕ → Progress
  progress xs m = record { depth = length xs; temporal = m; end = number_of (ends xs) }

  abbrev progress_of : Reading X → Progress
  progress_of r = progress r.values r.temporal

  abbrev Fits : Reading X → Type 0
  Fits r = length (ends r.values) ≡ r.temporal

  -- what is told of a reading that went on
  abbrev sent : Result (Reading X) Refusal → Result Progress Refusal
  sent (Ok r) = Ok (progress_of r)
  sent (Err why) = Err why

  abbrev tail : Bool → Bool → List Bool
  tail true bit = bit ∷ []
  tail false bit = []

  -- what an item adds to the bits
  abbrev Adds : Item X → Bool → Type 0
  Adds (gives x) bit = end_bits (plain x) ≡ []
  Adds (takes_one t op) bit = (x : X) → end_bits (plain (op x)) ≡ end_bits (plain x) ++ tail t bit
  Adds (takes_two t op) bit = (x y : X) → end_bits (plain (op x y)) ≡ (end_bits (plain x) ++ end_bits (plain y)) ++ tail t bit

  abbrev perhaps : Bool → Bool → Result Progress Refusal → Result Progress Refusal
  perhaps true bit r = then_counts bit r
  perhaps false bit r = r

  abbrev does : Item X → Bool → Progress → Result Progress Refusal
  does (gives x) bit p = Ok (given p)
  does (takes_one t op) bit p = perhaps t bit (takes 1 p)
  does (takes_two t op) bit p = perhaps t bit (takes 2 p)

  same : {a b c x y z : ℕ} → a ≡ x → b ≡ y → c ≡ z
      → ◌≡◌ {A = Progress} record { depth = a; temporal = b; end = c } record { depth = x; temporal = y; end = z }
  same p q r = cc

  -- the values stand, n of the old ones taken; then the item is counted
  counted_sent : (t bit : Bool) (m : ℕ) (xs old : List X) → length (ends old) ≡ m → ends xs ≡ ends old ++ tail t bit
      → sent (counted t m xs) ≡ perhaps t bit (Ok record { depth = length xs; temporal = m; end = number_of (ends old) })
  counted_sent false bit m xs old l q = ap Ok (same refl refl (ap number_of (q ∙ append-nil (ends old))))
  counted_sent true bit m xs old l q = ⊎_elim
      (λ (c : leb 6 m ≡ true). ap sent (cond-true (leb 6 m) (Err TooManyTemporalItems) (Ok record { values = xs; temporal = suc m }) c)
      ∙ sym (cond-true (leb 6 m) _ _ c))
      (λ c. ap sent (cond-false (leb 6 m) (Err TooManyTemporalItems) (Ok record { values = xs; temporal = suc m }) c)
      ∙ ap Ok (same refl refl (ap number_of q ∙ behind (ends old) bit ∙ ap (λ n. number_of (ends old) + cond bit (2 ^ n) 0) l))
      ∙ sym (cond-false (leb 6 m) _ _ c))
      (cases_Bool (leb 6 m))

  -- values enough, or too few
  enough : (n : ℕ) (p : Progress) (k : ℕ) → n ≤ p.depth → p.depth - n + 1 ≡ k
      → takes n p ≡ Ok record { depth = k; temporal = p.temporal; end = p.end }
  enough n p k l q = cond-false (ltb p.depth n) _ _ (le-ltb p.depth n l) ∙ ap Ok (same q refl refl)

  too_few : (n : ℕ) (p : Progress) → p.depth < n → takes n p ≡ Err MissingOperand
  too_few n p l = cond-true (ltb p.depth n) _ _ (lt-ltb p.depth n l)

  refused : (t bit : Bool) → perhaps t bit (Err MissingOperand) ≡ Err MissingOperand
  refused true bit = refl
  refused false bit = refl

  taken_sent : (it : Item X) (bit : Bool) → Adds it bit → (xs : List X) (m : ℕ) → length (ends xs) ≡ m
      → sent (taken it xs m) ≡ does it bit (progress xs m)
  taken_sent (gives x) bit a xs m l = ap Ok (same (omega arith) refl (ap number_of (ap (λ b. ends xs ++ b) a ∙ append-nil (ends xs))))
  taken_sent (takes_one t op) bit a [] m l = sym (ap (perhaps t bit) (too_few 1 (progress [] m) (omega arith)) ∙ refused t bit)
  taken_sent (takes_one t op) bit a (x ∷ xs) m l =
      counted_sent t bit m (op x ∷ xs) (x ∷ xs) l (ap (λ b. ends xs ++ b) (a x) ∙ sym (append_assoc (ends xs) _ _))
      ∙ sym (ap (perhaps t bit) (enough 1 (progress (x ∷ xs) m) (length (op x ∷ xs)) (omega arith) (omega arith)))
  taken_sent (takes_two t op) bit a [] m l = sym (ap (perhaps t bit) (too_few 2 (progress [] m) (omega arith)) ∙ refused t bit)
  taken_sent (takes_two t op) bit a (y ∷ []) m l = sym (ap (perhaps t bit) (too_few 2 (progress (y ∷ []) m) (omega arith)) ∙ refused t bit)
  taken_sent (takes_two t op) bit a (y ∷ x ∷ xs) m l =
      counted_sent t bit m (op x y ∷ xs) (y ∷ x ∷ xs) l
      (ap (λ b. ends xs ++ b) (a x y) ∙ sym (append_assoc (ends xs) _ _) ∙ ap (λ b. b ++ tail t bit) (sym (append_assoc (ends xs) _ _)))
      ∙ sym (ap (perhaps t bit) (enough 2 (progress (y ∷ x ∷ xs) m) (length (op x y ∷ xs)) (omega arith) (omega arith)))

  counted_fits : (t bit : Bool) (m : ℕ) (xs old : List X) (s : Reading X) → length (ends old) ≡ m → ends xs ≡ ends old ++ tail t bit
      → counted t m xs ≡ Ok s → Fits s
  counted_fits false bit m xs old s l q e =
      let n : length (ends xs) ≡ m = ap length (q ∙ append-nil (ends old)) ∙ l in
      let w : s ≡ record { values = xs; temporal = m } = cc in subst Fits (sym w) n
  counted_fits true bit m xs old s l q e = ⊎_elim
      (λ (c : leb 6 m ≡ true). let z = sym (cond-true (leb 6 m) (Err TooManyTemporalItems) (Ok record { values = xs; temporal = suc m }) c) ∙ e in
      let w : ◌≡◌ {A = ℕ} 0 1 = cc in absurd (omega arith))
      (λ c. let z = sym (cond-false (leb 6 m) (Err TooManyTemporalItems) (Ok record { values = xs; temporal = suc m }) c) ∙ e in
      let n : length (ends xs) ≡ suc m = omega (arith, ap length q, length-append (ends old) (bit ∷ []), l) in
      let w : s ≡ record { values = xs; temporal = suc m } = cc in subst Fits (sym w) n)
      (cases_Bool (leb 6 m))

  taken_fits : (it : Item X) (bit : Bool) → Adds it bit → (xs : List X) (m : ℕ) (s : Reading X) → length (ends xs) ≡ m → taken it xs m ≡ Ok s → Fits s
  taken_fits (gives x) bit a xs m s l e = counted_fits false bit m (x ∷ xs) xs s l (ap (λ b. ends xs ++ b) a) e
  taken_fits (takes_one t op) bit a [] m s l e = let w : ◌≡◌ {A = ℕ} 0 1 = cc in absurd (omega arith)
  taken_fits (takes_one t op) bit a (x ∷ xs) m s l e =
      counted_fits t bit m (op x ∷ xs) (x ∷ xs) s l (ap (λ b. ends xs ++ b) (a x) ∙ sym (append_assoc (ends xs) _ _)) e
  taken_fits (takes_two t op) bit a [] m s l e = let w : ◌≡◌ {A = ℕ} 0 1 = cc in absurd (omega arith)
  taken_fits (takes_two t op) bit a (y ∷ []) m s l e = let w : ◌≡◌ {A = ℕ} 0 1 = cc in absurd (omega arith)
  taken_fits (takes_two t op) bit a (y ∷ x ∷ xs) m s l e =
      counted_fits t bit m (op x y ∷ xs) (y ∷ x ∷ xs) s l
      (ap (λ b. ends xs ++ b) (a x y) ∙ sym (append_assoc (ends xs) _ _) ∙ ap (λ b. b ++ tail t bit) (sym (append_assoc (ends xs) _ _))) e

  -- an item of the kind and what counting does with its byte
  data Steps : Option (Item X) → (Progress → Result Progress Refusal) → Type 0 where
    none : (k : Progress → Result Progress Refusal) → ((p : Progress) → k p ≡ Err UnknownItem) → Steps None k
    some : (it : Item X) (bit : Bool) (k : Progress → Result Progress Refusal) → Adds it bit → ((p : Progress) → k p ≡ does it bit p) → Steps (Some it) k

  known_sent : {o : Option (Item X)} {k : Progress → Result Progress Refusal} → Steps o k → (r : Reading X) → Fits r → sent (known o r) ≡ k (progress_of r)
  known_sent (none k q) r l = sym (q (progress_of r))
  known_sent (some it bit k a q) r l = taken_sent it bit a r.values r.temporal l ∙ sym (q (progress_of r))

  known_fits : {o : Option (Item X)} {k : Progress → Result Progress Refusal} → Steps o k → (r s : Reading X) → Fits r → known o r ≡ Ok s → Fits s
  known_fits (none k q) r s l e = let w : ◌≡◌ {A = ℕ} 0 1 = cc in absurd (omega arith)
  known_fits (some it bit k a q) r s l e = taken_fits it bit a r.values r.temporal s l e

  -- what is told of a formula
  abbrev pub finished : Result X Refused → Result Progress Refused
  finished (Ok x) = Ok record { depth = 1; temporal = length (end_bits (plain x)); end = number_of (end_bits (plain x)) }
  finished (Err why) = Err why

  single_sent : (n : ℕ) (xs : List X) (m : ℕ) → length (ends xs) ≡ m → finished (single n xs) ≡ closed n (progress xs m)
  single_sent n [] m l = refl
  single_sent n (x ∷ []) m l = ap Ok (same refl l refl)
  single_sent n (x ∷ y ∷ xs) m l =
      let more = length xs in
      sym (cond-false (eqb (suc (suc more)) 0) _ _ (ne_eqb (suc (suc more)) 0 (λ q. omega arith))
      ∙ cond-false (eqb (suc (suc more)) 1) _ _ (ne_eqb (suc (suc more)) 1 (λ q. omega arith)))

  goes_on : (i : ℕ) (next : Reading X → Result X Refused) (after : Progress → Result Progress Refused) (a : Result (Reading X) Refusal)
      → ((s : Reading X) → a ≡ Ok s → finished (next s) ≡ after (progress_of s)) → finished (go_on i a next) ≡ go_on i (sent a) after
  goes_on i next after (Ok s) l = l s refl
  goes_on i next after (Err why) l = refl

  reads : (looks_back : Bool) (n : ℕ) (item : ℕ → Option (Item X)) → ((b : ℕ) → Steps (item b) (stepped looks_back n b))
      → (r : Reading X) (i : ℕ) (bs : List ℕ) → Fits r → finished (read_items item r i bs) ≡ outlined looks_back n (progress_of r) i bs
  reads looks_back n item steps r i [] l = single_sent i r.values r.temporal l
  reads looks_back n item steps r i (b ∷ bs) l =
      goes_on i (λ s. read_items item s (suc i) bs) (λ q. outlined looks_back n q (suc i) bs) (known (item b) r)
      (λ s e. reads looks_back n item steps s (suc i) bs (known_fits (steps b) r s l e))
      ∙ ap (λ a. go_on i a (λ q. outlined looks_back n q (suc i) bs)) (known_sent (steps b) r l)

  -- letters
  letter_steps : (letter : Guard → X) → ((g : Guard) → plain (letter g) ≡ Future.letter g) → (guards : List Guard) (b : ℕ)
      → Steps (letter_item letter guards b) (λ p. cond (leb 97 b && (leb b 122 && leb (b - 96) (length guards))) (Ok (given p)) (Err UnknownItem))
  letter_steps letter q guards b = ⊎_elim
      (λ (t : (leb 97 b && leb b 122) ≡ true).
      let low = and_parts (leb 97 b) (leb b 122) t in
      ⊎_elim
      (λ (n : leb (b - 96) (length guards) ≡ true).
      let g = nth_has guards (b - 96) (omega (arith, leb-true 97 b low.0)) (leb-true _ _ n) in
      subst (λ o. Steps o (λ p. cond (leb 97 b && (leb b 122 && leb (b - 96) (length guards))) (Ok (given p)) (Err UnknownItem)))
      (sym (cond-true (leb 97 b && leb b 122) (named letter (nth guards (b - 96))) None t ∙ ap (named letter) g.1))
      (some (gives (letter g.0)) false _ (ap end_bits (q g.0)) (λ p. simp (low.0, low.1, n) refl)))
      (λ n.
      subst (λ o. Steps o (λ p. cond (leb 97 b && (leb b 122 && leb (b - 96) (length guards))) (Ok (given p)) (Err UnknownItem)))
      (sym (cond-true (leb 97 b && leb b 122) (named letter (nth guards (b - 96))) None t
      ∙ ap (named letter) (nth_none guards (b - 96) (leb-false _ _ n))))
      (none _ (λ p. simp (low.0, low.1, n) refl)))
      (cases_Bool (leb (b - 96) (length guards))))
      (λ t.
      subst (λ o. Steps o (λ p. cond (leb 97 b && (leb b 122 && leb (b - 96) (length guards))) (Ok (given p)) (Err UnknownItem)))
      (sym (cond-false (leb 97 b && leb b 122) (named letter (nth guards (b - 96))) None t))
      (none _ (λ p. ap (λ c. cond c (Ok (given p)) (Err UnknownItem)) (no_more (leb 97 b) (leb b 122) _ t))))
      (cases_Bool (leb 97 b && leb b 122))
    where
      no_more : (x y z : Bool) → (x && y) ≡ false → (x && (y && z)) ≡ false
      no_more true true z e = absurd (true≢false e)
      no_more true false z e = refl
      no_more false y z e = refl

-- the items of both kinds, byte by byte
module _ (guards : List Guard) where
  abbrev FutureSteps : ℕ → Type 0
  FutureSteps b = Steps (λ f. f) (future_item guards b) (stepped false (length guards) b)

  future_steps : (b : ℕ) → FutureSteps b
  future_steps b =
      at FutureSteps b 33 (some (takes_one false Future.negated) false _ (λ x. sym (append-nil _)) (λ p. refl)) (λ n33.
      at FutureSteps b 38 (some (takes_two false Future.both) false _ (λ x y. sym (append-nil _)) (λ p. refl)) (λ n38.
      at FutureSteps b 124 (some (takes_two false Future.either) false _ (λ x y. sym (append-nil _)) (λ p. refl)) (λ n124.
      at FutureSteps b 88 (some (takes_one true Future.next) false _ (λ x. refl) (λ p. refl)) (λ n88.
      at FutureSteps b 87 (some (takes_one true Future.weak_next) true _ (λ x. refl) (λ p. refl)) (λ n87.
      at FutureSteps b 71 (some (takes_one true Future.always) true _ (λ x. refl) (λ p. refl)) (λ n71.
      at FutureSteps b 70 (some (takes_one true Future.finally) false _ (λ x. refl) (λ p. refl)) (λ n70.
      at FutureSteps b 85 (some (takes_two true Future.until) false _ (λ x y. refl) (λ p. refl)) (λ n85.
      at FutureSteps b 86 (some (takes_two true Future.release) true _ (λ x y. refl) (λ p. refl)) (λ n86.
      let rest : (p : Progress) → cond (leb 97 b && (leb b 122 && leb (b - 96) (length guards))) (Ok (given p)) (Err UnknownItem) ≡ stepped false (length guards) b p =
      λ p. simp (n33, n38, n124, n88, n87, n71, n70, n85, n86) refl in
      simp (n33, n38, n124, n88, n87, n71, n70, n85, n86)
      (subst (Steps (λ f. f) (letter_item Future.letter guards b)) (fun_ext rest)
      (letter_steps (λ f. f) Future.letter (λ g. refl) guards b)))))))))))

  abbrev PastSteps : ℕ → Type 0
  PastSteps b = Steps mirrored (past_item guards b) (stepped true (length guards) b)

  past_steps : (b : ℕ) → PastSteps b
  past_steps b =
      at PastSteps b 33 (some (takes_one false Past.negated) false _ (λ x. sym (append-nil _)) (λ p. refl)) (λ n33.
      at PastSteps b 38 (some (takes_two false Past.both) false _ (λ x y. sym (append-nil _)) (λ p. refl)) (λ n38.
      at PastSteps b 124 (some (takes_two false Past.either) false _ (λ x y. sym (append-nil _)) (λ p. refl)) (λ n124.
      at PastSteps b 89 (some (takes_one true Past.previous) false _ (λ x. refl) (λ p. refl)) (λ n89.
      at PastSteps b 72 (some (takes_one true Past.historically) true _ (λ x. refl) (λ p. refl)) (λ n72.
      at PastSteps b 79 (some (takes_one true Past.once) false _ (λ x. refl) (λ p. refl)) (λ n79.
      at PastSteps b 83 (some (takes_two true Past.since) false _ (λ x y. refl) (λ p. refl)) (λ n83.
      let rest : (p : Progress) → cond (leb 97 b && (leb b 122 && leb (b - 96) (length guards))) (Ok (given p)) (Err UnknownItem) ≡ stepped true (length guards) b p =
      λ p. simp (n33, n38, n124, n89, n72, n79, n83) refl in
      simp (n33, n38, n124, n89, n72, n79, n83)
      (subst (Steps mirrored (letter_item Past.letter guards b)) (fun_ext rest)
      (letter_steps mirrored Past.letter (λ g. refl) guards b)))))))))

  pub future_outlined : (bytes : List ℕ) → finished (λ f. f) (future_line guards bytes) ≡ outlined false (length guards) untaken 1 bytes
  future_outlined bytes = reads (λ f. f) false (length guards) (future_item guards) future_steps unread 1 bytes refl

  pub past_outlined : (bytes : List ℕ) → finished mirrored (past_line guards bytes) ≡ outlined true (length guards) untaken 1 bytes
  past_outlined bytes = reads mirrored true (length guards) (past_item guards) past_steps unread 1 bytes refl
