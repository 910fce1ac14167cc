-- What the parts of a combination answer to a question of a state, where the question is given as a function.
use Rattle.std.specs.Prelude.{◌≡◌, ℕ, Bool, true, false, Option, Some, None, ◌⊎◌}
use Rattle.std.specs.Borrow.{Bor}
use Rattle.std.specs.Fn.{Once}
use Rattle.monitor.specs.declared.combine.Part.{Part}
use Rattle.monitor.specs.declared.combine.Part.TheVariants.{Left, Right}

-- the question, put to the part at the state, may be answered so
abbrev pub Answers : {F M : Type 0} → Once F (Bor M × (ℕ × Unit {0})) Bool → F → M → Bool → ℕ → Type 0
Answers {F} {M} g ask part r s = (p : Bor M) × g.post ask (p, (s, tt)) r × (p.now ≡ part)

-- P of a state of the left part, Q of one of the right, and N where there is none
abbrev pub OfPart : (ℕ → Type 0) → (ℕ → Type 0) → Type 0 → Option Part → Type 0
OfPart P Q N None = N
OfPart P Q N (Some (Left s)) = P s
OfPart P Q N (Some (Right s)) = Q s

-- yes where both parts say so of their states of the pair, the second being asked where the first said yes
abbrev pub OfPair : (Bool → ℕ → Type 0) → (Bool → ℕ → Type 0) → Bool → Option (ℕ × ℕ) → Type 0
OfPair P Q r None = r ≡ false
OfPair P Q r (Some (s, t)) = (x : Bool) × P x s × (((x ≡ false) × (r ≡ false)) ⊎ ((x ≡ true) × Q r t))
