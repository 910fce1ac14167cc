-- Worked examples: lines over two guards, words of one to three events, and whether the line holds.
use Rattle.std.specs.Prelude.{◌≡◌, ℕ, Bool, true, false, List, [], ◌∷◌, pos, Ok, codes, MatchBool}
use Rattle.history.specs.declared.Label.{Label}
use Rattle.monitor.specs.declared.guard.Guard.{Guard}
use Rattle.formula.specs.Formulas.{Future, Past}
use Rattle.formula.specs.Lines.{future_line, past_line}
use Rattle.formula.specs.Sequences.{Holds, HoldsThroughout}

-- guard a is variable 0 from 1 to 1, guard b variable 1 from 1 to 1
abbrev pub guards : List Guard
guards =
    record { variable = 0; low = pos 1; high = pos 1; outside = false }
    ∷ record { variable = 1; low = pos 1; high = pos 1; outside = false } ∷ []

-- event a sets variable 0 to 1, b sets 1 to 1, z sets 5 to 9
abbrev pub a : Label
a = record { station = 0; variable = 0; value = pos 1 }

abbrev pub b : Label
b = record { station = 0; variable = 1; value = pos 1 }

abbrev pub z : Label
z = record { station = 0; variable = 5; value = pos 9 }

-- the items are read, and the line holds on the word or not
pub record FutureExample (items : List ℕ) (w : List Label) (holds : Bool) : Type 0 where
  pub formula : Future
  pub read : future_line guards items ≡ Ok formula
  pub so : MatchBool holds (Holds formula w) (Holds formula w → ⊥)

pub record PastExample (items : List ℕ) (w : List Label) (holds : Bool) : Type 0 where
  pub formula : Past
  pub read : past_line guards items ≡ Ok formula
  pub so : MatchBool holds (HoldsThroughout formula w) (HoldsThroughout formula w → ⊥)

pub record FutureExamples : Type 0 where
  pub e0 : FutureExample (codes "aX") (a ∷ []) false
  pub e1 : FutureExample (codes "aW") (a ∷ []) true
  pub e2 : FutureExample (codes "abU!") (a ∷ []) true
  pub e3 : FutureExample (codes "b!a!b!&U") (a ∷ []) false
  pub e4 : FutureExample (codes "aX") (b ∷ []) false
  pub e5 : FutureExample (codes "aX") (a ∷ b ∷ []) false
  pub e6 : FutureExample (codes "aX") (b ∷ a ∷ []) true
  pub e7 : FutureExample (codes "aX") (a ∷ a ∷ b ∷ []) true
  pub e8 : FutureExample (codes "aX") (a ∷ b ∷ z ∷ []) false
  pub e9 : FutureExample (codes "aW") (b ∷ []) true
  pub e10 : FutureExample (codes "aW") (a ∷ b ∷ []) false
  pub e11 : FutureExample (codes "aW") (b ∷ a ∷ []) true
  pub e12 : FutureExample (codes "aW") (a ∷ a ∷ b ∷ []) true
  pub e13 : FutureExample (codes "aW") (a ∷ b ∷ z ∷ []) false
  pub e14 : FutureExample (codes "aG") (b ∷ []) false
  pub e15 : FutureExample (codes "aG") (a ∷ b ∷ []) false
  pub e16 : FutureExample (codes "aG") (b ∷ a ∷ []) false
  pub e17 : FutureExample (codes "aG") (a ∷ a ∷ b ∷ []) false
  pub e18 : FutureExample (codes "aG") (a ∷ b ∷ z ∷ []) false
  pub e19 : FutureExample (codes "aF") (b ∷ []) false
  pub e20 : FutureExample (codes "aF") (a ∷ b ∷ []) true
  pub e21 : FutureExample (codes "aF") (b ∷ a ∷ []) true
  pub e22 : FutureExample (codes "aF") (a ∷ a ∷ b ∷ []) true
  pub e23 : FutureExample (codes "aF") (a ∷ b ∷ z ∷ []) true
  pub e24 : FutureExample (codes "abU") (b ∷ []) true
  pub e25 : FutureExample (codes "abU") (a ∷ b ∷ []) true
  pub e26 : FutureExample (codes "abU") (b ∷ a ∷ []) true
  pub e27 : FutureExample (codes "abU") (a ∷ a ∷ b ∷ []) true
  pub e28 : FutureExample (codes "abU") (a ∷ b ∷ z ∷ []) true
  pub e29 : FutureExample (codes "abV") (b ∷ []) true
  pub e30 : FutureExample (codes "abV") (a ∷ b ∷ []) false
  pub e31 : FutureExample (codes "abV") (b ∷ a ∷ []) false
  pub e32 : FutureExample (codes "abV") (a ∷ a ∷ b ∷ []) false
  pub e33 : FutureExample (codes "abV") (a ∷ b ∷ z ∷ []) false
  pub e34 : FutureExample (codes "a!bF|G") (b ∷ a ∷ []) false
  pub e35 : FutureExample (codes "a!bF|G") (a ∷ b ∷ []) true

pub record PastExamples : Type 0 where
  pub e0 : PastExample (codes "aY") (a ∷ []) false
  pub e1 : PastExample (codes "aY") (b ∷ []) false
  pub e2 : PastExample (codes "aY") (a ∷ b ∷ []) false
  pub e3 : PastExample (codes "aY") (b ∷ a ∷ []) false
  pub e4 : PastExample (codes "aY") (a ∷ a ∷ b ∷ []) false
  pub e5 : PastExample (codes "aY") (b ∷ a ∷ b ∷ []) false
  pub e6 : PastExample (codes "aO") (a ∷ []) true
  pub e7 : PastExample (codes "aO") (b ∷ []) false
  pub e8 : PastExample (codes "aO") (a ∷ b ∷ []) true
  pub e9 : PastExample (codes "aO") (b ∷ a ∷ []) false
  pub e10 : PastExample (codes "aO") (a ∷ a ∷ b ∷ []) true
  pub e11 : PastExample (codes "aO") (b ∷ a ∷ b ∷ []) false
  pub e12 : PastExample (codes "aH") (a ∷ []) true
  pub e13 : PastExample (codes "aH") (b ∷ []) false
  pub e14 : PastExample (codes "aH") (a ∷ b ∷ []) false
  pub e15 : PastExample (codes "aH") (b ∷ a ∷ []) false
  pub e16 : PastExample (codes "aH") (a ∷ a ∷ b ∷ []) false
  pub e17 : PastExample (codes "aH") (b ∷ a ∷ b ∷ []) false
  pub e18 : PastExample (codes "abS") (a ∷ []) false
  pub e19 : PastExample (codes "abS") (b ∷ []) true
  pub e20 : PastExample (codes "abS") (a ∷ b ∷ []) false
  pub e21 : PastExample (codes "abS") (b ∷ a ∷ []) true
  pub e22 : PastExample (codes "abS") (a ∷ a ∷ b ∷ []) false
  pub e23 : PastExample (codes "abS") (b ∷ a ∷ b ∷ []) true
  pub e24 : PastExample (codes "bY!") (a ∷ []) true
  pub e25 : PastExample (codes "bY!") (b ∷ []) true
  pub e26 : PastExample (codes "bY!") (a ∷ b ∷ []) true
  pub e27 : PastExample (codes "bY!") (b ∷ a ∷ []) false
  pub e28 : PastExample (codes "bY!") (a ∷ a ∷ b ∷ []) true
  pub e29 : PastExample (codes "bY!") (b ∷ a ∷ b ∷ []) false
  pub e30 : PastExample (codes "a!bO|") (a ∷ b ∷ []) false
  pub e31 : PastExample (codes "a!bO|") (b ∷ a ∷ []) true
