-- The rows of a table as lists.
use Rattle.std.proofs.Common.{◌≡◌, ℕ, zero, suc, ◌<◌, ◌≤◌, List, [], ◌∷◌, map, take, replicate, set, length, get_or, max, EachIndex, Some, None, Option, sym, refl, ap, ◌∙◌, arith}
use Rattle.std.specs.Borrow.{Bor}
use Rattle.std.specs.List.{slice_get}
use Rattle.std.specs.Option.{option_copied}
use Rattle.std.specs.Slice.{IsItemAt}
use Rattle.std.proofs.Math.Seq.{take-set-lt}
use Rattle.std.proofs.lemmas.List.{get_or_past, get_or-take, length-map, length-take, map-set, take-replicate, ext_get_or}
use Rattle.std.proofs.lemmas.Option.{slice_get_past, slice_get_read}
use Rattle.history.proofs.Clocks.{get_or_larger, length_larger}
use Rattle.history.specs.Clocks.{larger}
use Rattle.history.specs.Histories.{nth}
use Rattle.sheet.specs.Tables.{filled, there, rows, row}
use Rattle.sheet.specs.declared.table.Station.{Station}
use Rattle.sheet.specs.declared.table.Table.{Table}

pub get_or_map_default : {A B : Type 0} (f : A → B) (xs : List A) (i : ℕ) (d : A) → get_or (map f xs) i (f d) ≡ f (get_or xs i d)
get_or_map_default f [] i d = refl
get_or_map_default f (x ∷ xs) zero d = refl
get_or_map_default f (x ∷ xs) (suc i) d = get_or_map_default f xs i d

pub nth_get : {A : Type 0} (xs : List A) (n : ℕ) → nth xs (suc n) ≡ slice_get xs n
nth_get [] n = refl
nth_get (x ∷ xs) zero = refl
nth_get (x ∷ xs) (suc n) = nth_get xs n

-- what a look-up lends is the element there
pub get_copied : {A : Type 0} (xs : List A) (i : ℕ) (r : Option (Bor A)) → IsItemAt xs i r → option_copied r ≡ slice_get xs i
get_copied xs i None is = sym (slice_get_past xs i is.3)
get_copied xs i (Some x) is = sym (slice_get_read xs (length xs) i x.now refl is.3.0 is.1)

-- a station that is not there has no slot
pub row_past : (t : Table) (s : ℕ) → length (there t) ≤ s → row t s ≡ []
row_past t s l = get_or_past (rows t) s [] (omega (arith, length-map (there t) filled))

-- stations that are all without an event
pub rows_blank : (n k : ℕ) (x : Station) → n ≤ k → filled x ≡ [] → map filled (take n (replicate k x)) ≡ replicate n []
rows_blank n k x l empty = ap (map filled) (take-replicate n k x l) ∙ each n
  where
    each : (m : ℕ) → map filled (replicate m x) ≡ replicate m []
    each zero = refl
    each (suc m) = ap (λ y. y ∷ map filled (replicate m x)) empty ∙ ap (λ ys. [] ∷ ys) (each m)

-- a station that is there, as an index into the array reads and writes it
module _ (t : Table) (s : ℕ) (on : s < length (rows t)) where
  counted : s < t.count
  counted = omega (arith, on, length-map (there t) filled, length-take t.count t.stations)

  pub row_is : row t s ≡ filled (get_or t.stations s record { slots = []; len = 0 })
  row_is =
      get_or_map_default filled (there t) s record { slots = []; len = 0 }
      ∙ ap filled (get_or-take t.count t.stations s record { slots = []; len = 0 } counted)

  pub row_put : (x : Station) → map filled (take t.count (set t.stations s x)) ≡ set (rows t) s (filled x)
  row_put x = ap (map filled) (take-set-lt t.count t.stations s x counted) ∙ map-set filled (there t) s x

-- larger counts at each place are the larger clock
pub larger_each : (a b v : List ℕ) → length a ≡ 8 → length b ≡ 8 → length v ≡ 8
    → EachIndex v (λ k. get_or v k 0 ≡ max (get_or a k 0) (get_or b k 0))
    → v ≡ larger a b
larger_each a b v la lb lv each =
    ext_get_or 0 v (larger a b)
    (lv ∙ sym la ∙ sym (length_larger a b (la ∙ sym lb)))
    (λ k h. each k h ∙ sym (get_or_larger a b (la ∙ sym lb) k))
