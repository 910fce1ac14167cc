-- Temporal formulas over guards. Future formulas look at this and later positions of a sequence, past formulas at this and
-- earlier ones.
use Rattle.std.specs.Prelude.{ℕ, ◌+◌}
use Rattle.monitor.specs.declared.guard.Guard.{Guard}

pub data Future : Type 0 where
  -- the event here triggers the guard
  letter : Guard → Future
  negated : Future → Future
  both either : Future → Future → Future
  -- X, strong next, and W, weak next
  next weak_next : Future → Future
  -- G, at this and all later positions, and F, at this or some later one
  always finally : Future → Future
  -- U: the second here or later, and the first at every position before that; V: not (not first U not second)
  until release : Future → Future → Future

pub data Past : Type 0 where
  letter : Guard → Past
  negated : Past → Past
  both either : Past → Past → Past
  -- Y, at the previous position
  previous : Past → Past
  -- O, here or at some earlier position, and H, here and at all earlier ones
  once historically : Past → Past
  -- S: the second here or earlier, and the first at every position since
  since : Past → Past → Past

-- how many temporal items a formula has
abbrev pub items : Future → ℕ
items (letter g) = 0
items (negated f) = items f
items (both f g) = items f + items g
items (either f g) = items f + items g
items (next f) = items f + 1
items (weak_next f) = items f + 1
items (always f) = items f + 1
items (finally f) = items f + 1
items (until f g) = items f + items g + 1
items (release f g) = items f + items g + 1
