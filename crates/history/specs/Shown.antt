-- What is printed of a refusal and of a clock, byte by byte.
use Rattle.std.specs.Prelude.{ℕ, List, ◌++◌, codes, decimal, slice_index}
use Rattle.history.specs.Refusals.{number}
use Rattle.history.specs.declared.Refused.{Refused}

-- refused 5 at 2
abbrev pub refusal_line : Refused → List ℕ
refusal_line why = codes "refused " ++ (decimal (number why.refusal) ++ (codes " at " ++ decimal why.place))

abbrev pub at : List ℕ → ℕ → List ℕ
at v k = decimal (slice_index v k)

-- the eight counts, with a blank between
abbrev pub clock_words : List ℕ → List ℕ
clock_words v =
    (at v 0 ++ (codes " " ++ (at v 1 ++ (codes " " ++ (at v 2 ++ (codes " " ++ at v 3))))))
    ++ (codes " " ++ (at v 4 ++ (codes " " ++ (at v 5 ++ (codes " " ++ (at v 6 ++ (codes " " ++ at v 7)))))))
