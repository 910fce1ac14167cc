-- Rule lines: one byte for the kind and then items in postfix order, and what is read of them.
use Rattle.std.specs.Prelude.{ℕ, suc, ◌-◌, Bool, true, false, cond, ◌&&◌, List, [], ◌∷◌, Some, None, Ok, Err, Option, Result, ◌==◌, nat_le}
use Rattle.history.specs.Histories.{nth}
use Rattle.history.specs.declared.Refusal.{Refusal}
use Rattle.history.specs.declared.Refusal.TheVariants.{UnknownItem, MissingOperand, TooManyTemporalItems, UnusedValue}
use Rattle.history.specs.declared.Refused.{Refused}
use Rattle.monitor.specs.declared.guard.Guard.{Guard}
use Rattle.formula.specs.Formulas.{Future, Past}

-- an item gives a value, or takes one or two and gives one; the flag says whether it is temporal
pub data Item (X : Type 0) : Type 0 where
  gives : X → Item X
  takes_one : Bool → (X → X) → Item X
  takes_two : Bool → (X → X → X) → Item X

-- the letters a to z name the guards of the list in their succession
abbrev pub named : {X : Type 0} → (Guard → X) → Option Guard → Option (Item X)
named letter None = None
named letter (Some g) = Some (gives (letter g))

abbrev pub letter_item : {X : Type 0} → (Guard → X) → List Guard → ℕ → Option (Item X)
letter_item letter guards b = cond (nat_le 97 b && nat_le b 122) (named letter (nth guards (b - 96))) None

-- the items of a future line: letters, ! & | X W G F U V
abbrev pub future_item : List Guard → ℕ → Option (Item Future)
future_item guards b =
    cond (b == 33) (Some (takes_one false Future.negated))
    (cond (b == 38) (Some (takes_two false Future.both))
    (cond (b == 124) (Some (takes_two false Future.either))
    (cond (b == 88) (Some (takes_one true Future.next))
    (cond (b == 87) (Some (takes_one true Future.weak_next))
    (cond (b == 71) (Some (takes_one true Future.always))
    (cond (b == 70) (Some (takes_one true Future.finally))
    (cond (b == 85) (Some (takes_two true Future.until))
    (cond (b == 86) (Some (takes_two true Future.release))
    (letter_item Future.letter guards b)))))))))

-- the items of a past line: letters, ! & | Y H O S
abbrev pub past_item : List Guard → ℕ → Option (Item Past)
past_item guards b =
    cond (b == 33) (Some (takes_one false Past.negated))
    (cond (b == 38) (Some (takes_two false Past.both))
    (cond (b == 124) (Some (takes_two false Past.either))
    (cond (b == 89) (Some (takes_one true Past.previous))
    (cond (b == 72) (Some (takes_one true Past.historically))
    (cond (b == 79) (Some (takes_one true Past.once))
    (cond (b == 83) (Some (takes_two true Past.since))
    (letter_item Past.letter guards b)))))))

-- what reading has come to: the values, the last first, and how many temporal items came
pub record Reading (X : Type 0) : Type 0 where
  pub values : List X
  pub temporal : ℕ

-- a temporal item may not be the seventh
abbrev pub counted : {X : Type 0} → Bool → ℕ → List X → Result (Reading X) Refusal
counted false m xs = Ok record { values = xs; temporal = m }
counted true m xs = cond (nat_le 6 m) (Err TooManyTemporalItems) (Ok record { values = xs; temporal = suc m })

-- one item: the earlier value is the first operand
abbrev pub taken : {X : Type 0} → Item X → List X → ℕ → Result (Reading X) Refusal
taken (gives x) xs m = Ok record { values = x ∷ xs; temporal = m }
taken (takes_one t op) [] m = Err MissingOperand
taken (takes_one t op) (x ∷ xs) m = counted t m (op x ∷ xs)
taken (takes_two t op) [] m = Err MissingOperand
taken (takes_two t op) (y ∷ []) m = Err MissingOperand
taken (takes_two t op) (y ∷ x ∷ xs) m = counted t m (op x y ∷ xs)

abbrev pub known : {X : Type 0} → Option (Item X) → Reading X → Result (Reading X) Refusal
known None r = Err UnknownItem
known (Some it) r = taken it r.values r.temporal

abbrev pub go_on : {X Y : Type 0} → ℕ → Result X Refusal → (X → Result Y Refused) → Result Y Refused
go_on place (Ok x) next = next x
go_on place (Err why) next = Err record { refusal = why; place = place }

-- the one value that is left, or the refusal of a line of that length
abbrev pub single : {X : Type 0} → ℕ → List X → Result X Refused
single n [] = Err record { refusal = MissingOperand; place = n }
single n (x ∷ []) = Ok x
single n (x ∷ y ∷ xs) = Err record { refusal = UnusedValue; place = n }

-- the formula that items give, byte by byte from index i of the line on, or the first refusal with its place
abbrev pub read_items : {X : Type 0} → (ℕ → Option (Item X)) → Reading X → ℕ → List ℕ → Result X Refused
read_items item r i [] = single i r.values
read_items item r i (b ∷ bs) = go_on i (known (item b) r) (λ s. read_items item s (suc i) bs)

-- nothing read yet
abbrev pub unread : {X : Type 0} → Reading X
unread = record { values = []; temporal = 0 }

-- the formula of a line's items; the kind stands at index 0
abbrev pub future_line : List Guard → List ℕ → Result Future Refused
future_line guards items = read_items (future_item guards) unread 1 items

abbrev pub past_line : List Guard → List ℕ → Result Past Refused
past_line guards items = read_items (past_item guards) unread 1 items
