-- The automata of formulas, by the numbers of their states.
use Rattle.std.specs.Prelude.{ℕ, zero, suc, ◌+◌, ◌*◌, ◌/◌, ◌%◌, ◌^◌, Bool, true, false, cond, not, ◌&&◌, ◌||◌, List, [], ◌∷◌, ◌++◌, ◌==◌, nat_lt, slice_index_or}
use Rattle.history.specs.declared.Label.{Label}
use Rattle.monitor.specs.Guards.{triggers}
use Rattle.monitor.specs.Meanings.{Meaning}
use Rattle.formula.specs.Formulas.{Future, Past, items}

-- the number with these bits, the lowest first
abbrev pub number_of : List Bool → ℕ
number_of [] = 0
number_of (b ∷ bs) = cond b 1 0 + 2 * number_of bs

-- the m lowest bits of a number, the lowest first
abbrev pub bits_of : ℕ → ℕ → List Bool
bits_of zero c = []
bits_of (suc m) c = (c % 2 == 1) ∷ bits_of m (c / 2)

-- The value of a formula here, from the event here and the bits of what comes next. Temporal items are numbered in line order,
-- operands before the item itself; k items come before the formula's own. For next and weak next the bit is the operand's
-- value at the next position, for the others their own value there.
abbrev pub value : Future → ℕ → Label → List Bool → Bool
value (Future.letter g) k e d = triggers g e
value (Future.negated f) k e d = not (value f k e d)
value (Future.both f g) k e d = value f k e d && value g (k + items f) e d
value (Future.either f g) k e d = value f k e d || value g (k + items f) e d
value (Future.next f) k e d = slice_index_or d (k + items f) false
value (Future.weak_next f) k e d = slice_index_or d (k + items f) false
value (Future.always f) k e d = value f k e d && slice_index_or d (k + items f) false
value (Future.finally f) k e d = value f k e d || slice_index_or d (k + items f) false
value (Future.until f g) k e d = value g (k + items f) e d || (value f k e d && slice_index_or d (k + items f + items g) false)
value (Future.release f g) k e d = value g (k + items f) e d && (value f k e d || slice_index_or d (k + items f + items g) false)

-- The bits of a formula's items here: for next and weak next the operand's value here, for the others their own.
abbrev pub values : Future → ℕ → Label → List Bool → List Bool
values (Future.letter g) k e d = []
values (Future.negated f) k e d = values f k e d
values (Future.both f g) k e d = values f k e d ++ values g (k + items f) e d
values (Future.either f g) k e d = values f k e d ++ values g (k + items f) e d
values (Future.next f) k e d = values f k e d ++ value f k e d ∷ []
values (Future.weak_next f) k e d = values f k e d ++ value f k e d ∷ []
values (Future.always f) k e d = values f k e d ++ value (Future.always f) k e d ∷ []
values (Future.finally f) k e d = values f k e d ++ value (Future.finally f) k e d ∷ []
values (Future.until f g) k e d = (values f k e d ++ values g (k + items f) e d) ++ value (Future.until f g) k e d ∷ []
values (Future.release f g) k e d = (values f k e d ++ values g (k + items f) e d) ++ value (Future.release f g) k e d ∷ []

-- the bits behind the last position: those of weak next, always and release are set, and no other
abbrev pub end_bits : Future → List Bool
end_bits (Future.letter g) = []
end_bits (Future.negated f) = end_bits f
end_bits (Future.both f g) = end_bits f ++ end_bits g
end_bits (Future.either f g) = end_bits f ++ end_bits g
end_bits (Future.next f) = end_bits f ++ false ∷ []
end_bits (Future.weak_next f) = end_bits f ++ true ∷ []
end_bits (Future.always f) = end_bits f ++ true ∷ []
end_bits (Future.finally f) = end_bits f ++ false ∷ []
end_bits (Future.until f g) = (end_bits f ++ end_bits g) ++ false ∷ []
end_bits (Future.release f g) = (end_bits f ++ end_bits g) ++ true ∷ []

-- The automaton of a future line with m temporal items: state 0 is the only start and not bad, state 1 + c carries the bits
-- of c. The only bad state has the bits behind the last position. An event takes 1 + c to 1 + d when the bits here, worked
-- out from the event and d, are c, and 0 to 1 + d when the line fails here by d.
abbrev pub future_step : Future → ℕ → Label → ℕ → Bool
future_step f s e zero = false
future_step f zero e (suc d) = not (value f 0 e (bits_of (items f) d))
future_step f (suc c) e (suc d) = number_of (values f 0 e (bits_of (items f) d)) == c

abbrev pub future : Future → Meaning
future f =
    let n : ℕ = 2 ^ items f + 1 in
    record {
      states = n;
      start = λ s. (s == 0);
      bad = λ s. (s == 1 + number_of (end_bits f));
      step = λ s e t. nat_lt s n && (nat_lt t n && future_step f s e t);
    }

-- A past formula's values are worked out from the bits of the position before just as a future formula's from those of the
-- position after: previous as next, once as finally, historically as always, since as until.
abbrev pub mirrored : Past → Future
mirrored (Past.letter g) = Future.letter g
mirrored (Past.negated f) = Future.negated (mirrored f)
mirrored (Past.both f g) = Future.both (mirrored f) (mirrored g)
mirrored (Past.either f g) = Future.either (mirrored f) (mirrored g)
mirrored (Past.previous f) = Future.next (mirrored f)
mirrored (Past.once f) = Future.finally (mirrored f)
mirrored (Past.historically f) = Future.always (mirrored f)
mirrored (Past.since f g) = Future.until (mirrored f) (mirrored g)

-- where an event leads from the bits of the position before: to 2 + the bits here, or to 1 when the line fails here
abbrev pub past_next : Future → Label → List Bool → ℕ
past_next f e d = cond (value f 0 e d) (2 + number_of (values f 0 e d)) 1

-- The automaton of a past line with m temporal items: state 0 is the only start, nothing read; state 1, failed, alone is bad
-- and steps to itself alone; state 2 + c carries the bits of c.
abbrev pub past_step : Future → ℕ → Label → ℕ
past_step f zero e = past_next f e (end_bits f)
past_step f (suc zero) e = 1
past_step f (suc (suc c)) e = past_next f e (bits_of (items f) c)

abbrev pub past : Past → Meaning
past p =
    let f : Future = mirrored p in
    let n : ℕ = 2 ^ items f + 2 in
    record {
      states = n;
      start = λ s. (s == 0);
      bad = λ s. (s == 1);
      step = λ s e t. nat_lt s n && (nat_lt t n && t == past_step f s e);
    }
