-- Guards: which events trigger them, and their bytes.
use Rattle.std.specs.Prelude.{ℕ, ◌+◌, ◌*◌, Bool, cond, not, ◌&&◌, List, ◌==◌, int_le, slice_index_or}
use Rattle.history.specs.RunFiles.{signed}
use Rattle.history.specs.declared.Label.{Label}
use Rattle.monitor.specs.declared.guard.Guard.{Guard}

-- the event assigns the guard's variable a value from low to high, or, with outside, one that is not
abbrev pub triggers : Guard → Label → Bool
triggers g e =
    let inside : Bool = int_le g.low e.value && int_le e.value g.high in
    (g.variable == e.variable) && cond g.outside (not inside) inside

-- the guard of number k in a list of guards of ten bytes each: variable, low and high of four bytes each with the high byte
-- first, and outside
abbrev pub guard_at : List ℕ → ℕ → Guard
guard_at bytes k =
    let b : ℕ → ℕ = λ j. slice_index_or bytes (10 * k + j) 0 in
    record {
      variable = b 0;
      low = signed (b 1) (b 2) (b 3) (b 4);
      high = signed (b 5) (b 6) (b 7) (b 8);
      outside = (b 9 == 1);
    }
