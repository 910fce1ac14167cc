-- The bits that what is left of a sequence deserves, and that the values worked out from them are right.
use Rattle.std.proofs.Common.{◌≡◌, ℕ, ◌+◌, Bool, true, false, not, ◌&&◌, ◌||◌, List, [], ◌∷◌, ◌++◌, length, get_or, sym, refl, ap, ◌∙◌, subst, ap₂}
use Rattle.std.proofs.lemmas.List.{append-nil, append_assoc, length-append, get_or_at}
use Rattle.history.specs.declared.Label.{Label}
use Rattle.formula.proofs.Satisfied.{satisfies, rest}
use Rattle.formula.specs.Automata.{value, values, end_bits}
use Rattle.formula.specs.Formulas.{Future, items}

pub deserved : Future → List Label → List Bool
deserved (Future.letter g) w = []
deserved (Future.negated f) w = deserved f w
deserved (Future.both f g) w = deserved f w ++ deserved g w
deserved (Future.either f g) w = deserved f w ++ deserved g w
deserved (Future.next f) w = deserved f w ++ rest false (λ v. satisfies f v) w ∷ []
deserved (Future.weak_next f) w = deserved f w ++ rest true (λ v. satisfies f v) w ∷ []
deserved (Future.always f) w = deserved f w ++ satisfies (Future.always f) w ∷ []
deserved (Future.finally f) w = deserved f w ++ satisfies (Future.finally f) w ∷ []
deserved (Future.until f g) w = (deserved f w ++ deserved g w) ++ satisfies (Future.until f g) w ∷ []
deserved (Future.release f g) w = (deserved f w ++ deserved g w) ++ satisfies (Future.release f g) w ∷ []

one_more : {X : Type 0} (xs : List X) (y : X) (n : ℕ) → length xs ≡ n → length (xs ++ y ∷ []) ≡ n + 1
one_more xs y n p = length-append xs (y ∷ []) ∙ ap (λ k. k + 1) p

joined : {X : Type 0} (xs ys : List X) (m n : ℕ) → length xs ≡ m → length ys ≡ n → length (xs ++ ys) ≡ m + n
joined xs ys m n p q = length-append xs ys ∙ ap₂ ◌+◌ p q

pub length_deserved : (f : Future) (w : List Label) → length (deserved f w) ≡ items f
unfolding deserved
length_deserved (Future.letter g) w = refl
length_deserved (Future.negated f) w = length_deserved f w
length_deserved (Future.both f g) w = joined (deserved f w) (deserved g w) _ _ (length_deserved f w) (length_deserved g w)
length_deserved (Future.either f g) w = joined (deserved f w) (deserved g w) _ _ (length_deserved f w) (length_deserved g w)
length_deserved (Future.next f) w = one_more (deserved f w) _ _ (length_deserved f w)
length_deserved (Future.weak_next f) w = one_more (deserved f w) _ _ (length_deserved f w)
length_deserved (Future.always f) w = one_more (deserved f w) _ _ (length_deserved f w)
length_deserved (Future.finally f) w = one_more (deserved f w) _ _ (length_deserved f w)
length_deserved (Future.until f g) w =
    one_more (deserved f w ++ deserved g w) _ _ (joined (deserved f w) (deserved g w) _ _ (length_deserved f w) (length_deserved g w))
length_deserved (Future.release f g) w =
    one_more (deserved f w ++ deserved g w) _ _ (joined (deserved f w) (deserved g w) _ _ (length_deserved f w) (length_deserved g w))

-- where nothing is left
pub deserved_end : (f : Future) → deserved f [] ≡ end_bits f
unfolding deserved
deserved_end (Future.letter g) = refl
deserved_end (Future.negated f) = deserved_end f
deserved_end (Future.both f g) = ap₂ ◌++◌ (deserved_end f) (deserved_end g)
deserved_end (Future.either f g) = ap₂ ◌++◌ (deserved_end f) (deserved_end g)
deserved_end (Future.next f) = ap (λ x. x ++ false ∷ []) (deserved_end f)
deserved_end (Future.weak_next f) = ap (λ x. x ++ true ∷ []) (deserved_end f)
deserved_end (Future.always f) = ap (λ x. x ++ true ∷ []) (deserved_end f)
deserved_end (Future.finally f) = ap (λ x. x ++ false ∷ []) (deserved_end f)
deserved_end (Future.until f g) = ap (λ x. x ++ false ∷ []) (ap₂ ◌++◌ (deserved_end f) (deserved_end g))
deserved_end (Future.release f g) = ap (λ x. x ++ true ∷ []) (ap₂ ◌++◌ (deserved_end f) (deserved_end g))

-- the bits d have those of a part of the formula behind k others
record Has (d : List Bool) (k : ℕ) (bs : List Bool) : Type 0 where
  front : List Bool
  back : List Bool
  split : d ≡ front ++ (bs ++ back)
  long : length front ≡ k

has_left : (d : List Bool) (k : ℕ) (xs ys : List Bool) → Has d k (xs ++ ys) → Has d k xs
has_left d k xs ys h = record
    { front = h.front; back = ys ++ h.back; split = h.split ∙ ap (λ z. h.front ++ z) (append_assoc xs ys h.back); long = h.long }

has_right : (d : List Bool) (k n : ℕ) (xs ys : List Bool) → length xs ≡ n → Has d k (xs ++ ys) → Has d (k + n) ys
has_right d k n xs ys l h = record {
  front = h.front ++ xs;
  back = h.back;
  split = h.split ∙ ap (λ z. h.front ++ z) (append_assoc xs ys h.back) ∙ sym (append_assoc h.front xs (ys ++ h.back));
  long = joined h.front xs k n h.long l;
}

has_bit : (d : List Bool) (k : ℕ) (b : Bool) → Has d k (b ∷ []) → get_or d k false ≡ b
has_bit d k b h = ap (λ z. get_or z k false) h.split ∙ get_or_at h.front b h.back false k h.long

-- not (not x or (not y and z))
pub dual : (x y z : Bool) → (x && (y || not z)) ≡ not (not x || (not y && z))
dual true true z = refl
dual true false true = refl
dual true false false = refl
dual false y z = refl

-- the value here, and the bits here, from the event and the bits of what is left
pub record Right (f : Future) (k : ℕ) (e : Label) (d : List Bool) (w : List Label) : Type 0 where
  pub one : value f k e d ≡ satisfies f (e ∷ w)
  pub all : values f k e d ≡ deserved f (e ∷ w)

module _ (e : Label) (w : List Label) (d : List Bool) where
  -- a temporal item over one operand: the operand's bits, and the item's own behind them
  operand : (f : Future) (k : ℕ) (b : Bool) → Has d k (deserved f w ++ b ∷ []) → Has d k (deserved f w)
  operand f k b h = has_left d k (deserved f w) (b ∷ []) h

  own : (f : Future) (k : ℕ) (b : Bool) → Has d k (deserved f w ++ b ∷ []) → get_or d (k + items f) false ≡ b
  own f k b h = has_bit d (k + items f) b (has_right d k (items f) (deserved f w) (b ∷ []) (length_deserved f w) h)

  -- and over two
  first_of : (f g : Future) (k : ℕ) → Has d k (deserved f w ++ deserved g w) → Has d k (deserved f w)
  first_of f g k h = has_left d k (deserved f w) (deserved g w) h

  second_of : (f g : Future) (k : ℕ) → Has d k (deserved f w ++ deserved g w) → Has d (k + items f) (deserved g w)
  second_of f g k h = has_right d k (items f) (deserved f w) (deserved g w) (length_deserved f w) h

  operands : (f g : Future) (k : ℕ) (b : Bool) → Has d k ((deserved f w ++ deserved g w) ++ b ∷ []) → Has d k (deserved f w ++ deserved g w)
  operands f g k b h = has_left d k (deserved f w ++ deserved g w) (b ∷ []) h

  own_of : (f g : Future) (k : ℕ) (b : Bool) → Has d k ((deserved f w ++ deserved g w) ++ b ∷ []) → get_or d (k + items f + items g) false ≡ b
  own_of f g k b h = own g (k + items f) b
      (has_right d k (items f) (deserved f w) (deserved g w ++ b ∷ []) (length_deserved f w)
      (subst (λ z. Has d k z) (append_assoc (deserved f w) (deserved g w) (b ∷ [])) h))

  right : (f : Future) (k : ℕ) → Has d k (deserved f w) → Right f k e d w
  unfolding deserved
  right (Future.letter g) k h = record { one = refl; all = refl }
  right (Future.negated f) k h = let r = right f k h in record { one = ap not r.one; all = r.all }
  right (Future.both f g) k h =
      let r = right f k (first_of f g k h) in let s = right g (k + items f) (second_of f g k h) in
      record { one = ap₂ ◌&&◌ r.one s.one; all = ap₂ ◌++◌ r.all s.all }
  right (Future.either f g) k h =
      let r = right f k (first_of f g k h) in let s = right g (k + items f) (second_of f g k h) in
      record { one = ap₂ ◌||◌ r.one s.one; all = ap₂ ◌++◌ r.all s.all }
  right (Future.next f) k h =
      let r = right f k (operand f k _ h) in
      record { one = own f k _ h; all = ap₂ (λ x y. x ++ y ∷ []) r.all r.one }
  right (Future.weak_next f) k h =
      let r = right f k (operand f k _ h) in
      record { one = own f k _ h; all = ap₂ (λ x y. x ++ y ∷ []) r.all r.one }
  right (Future.always f) k h =
      let r = right f k (operand f k _ h) in let v = ap₂ ◌&&◌ r.one (own f k _ h) in
      record { one = v; all = ap₂ (λ x y. x ++ y ∷ []) r.all v }
  right (Future.finally f) k h =
      let r = right f k (operand f k _ h) in let v = ap₂ ◌||◌ r.one (own f k _ h) in
      record { one = v; all = ap₂ (λ x y. x ++ y ∷ []) r.all v }
  right (Future.until f g) k h =
      let r = right f k (first_of f g k (operands f g k _ h)) in
      let s = right g (k + items f) (second_of f g k (operands f g k _ h)) in
      let v = ap₂ ◌||◌ s.one (ap₂ ◌&&◌ r.one (own_of f g k _ h)) in
      record { one = v; all = ap₂ (λ x y. x ++ y ∷ []) (ap₂ ◌++◌ r.all s.all) v }
  right (Future.release f g) k h =
      let r = right f k (first_of f g k (operands f g k _ h)) in
      let s = right g (k + items f) (second_of f g k (operands f g k _ h)) in
      let v = ap₂ ◌&&◌ s.one (ap₂ ◌||◌ r.one (own_of f g k _ h)) ∙ dual (satisfies g (e ∷ w)) (satisfies f (e ∷ w)) _ in
      record { one = v; all = ap₂ (λ x y. x ++ y ∷ []) (ap₂ ◌++◌ r.all s.all) v }

-- the values of a whole line from the bits that what is left deserves
pub values_right : (f : Future) (e : Label) (w : List Label) → Right f 0 e (deserved f w) w
values_right f e w = right e w (deserved f w) f 0 record { front = []; back = []; split = sym (append-nil (deserved f w)); long = refl }
