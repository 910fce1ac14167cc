-- Records of a fixed width in a list of bytes.
use Rattle.std.proofs.Common.{◌≡◌, ℕ, zero, suc, ◌+◌, ◌*◌, ◌<◌, ◌≤◌, Bool, ◌&&◌, List, [], length, get_or, take, drop, refl, ap, ap₂, ◌∙◌, sym, arith}
use Rattle.std.proofs.lemmas.List.{drop-drop, get_or-take, get_or-drop, take_all}
use Rattle.std.proofs.lemmas.List.Folds.{list_all_more}
use Rattle.std.specs.List.{list_all}
use Rattle.std.specs.Simd.{first_chunks}
use Rattle.monitor.specs.Guards.{guard_at}
use Rattle.monitor.specs.Tables.{all_below, arc_at, guard_lawful}
use Rattle.monitor.specs.declared.bytes.Arc.{Arc}

record_at : (width count k : ℕ) (bytes : List ℕ) → k < count → get_or (first_chunks width count bytes) k [] ≡ take width (drop (width * k) bytes)
record_at width zero k bytes l = let z : ⊥ = omega arith in absurd z
record_at width (suc count) zero bytes l = let e : 0 ≡ width * 0 = omega arith in ap (λ i. take width (drop i bytes)) e
record_at width (suc count) (suc k) bytes l =
    let e : width + width * k ≡ width * suc k = omega arith in
    record_at width count k (drop width bytes) (omega arith)
    ∙ ap (take width) (drop-drop (width * k) width bytes ∙ ap (λ i. drop i bytes) e)

byte_at : (width count k : ℕ) (bytes : List ℕ) → k < count → (j : ℕ) → j < width
    → get_or (get_or (first_chunks width count bytes) k []) j 0 ≡ get_or bytes (width * k + j) 0
byte_at width count k bytes l j within =
    ap (λ b. get_or b j 0) (record_at width count k bytes l)
    ∙ get_or-take width (drop (width * k) bytes) j 0 within
    ∙ get_or-drop (width * k) bytes j 0

-- what a record says is what the list says there
module _ (count k : ℕ) (bytes : List ℕ) (l : k < count) where
  pub arc_there : arc_at (get_or (first_chunks 3 count bytes) k []) 0 ≡ arc_at bytes k
  arc_there =
      let b = byte_at 3 count k bytes l in
      cc (b 0 (omega arith), b 1 (omega arith), b 2 (omega arith))

  pub guard_there : guard_at (get_or (first_chunks 10 count bytes) k []) 0 ≡ guard_at bytes k
  guard_there =
      let b = byte_at 10 count k bytes l in
      cc (
        b 0 (omega arith),
        b 1 (omega arith),
        b 2 (omega arith),
        b 3 (omega arith),
        b 4 (omega arith),
        b 5 (omega arith),
        b 6 (omega arith),
        b 7 (omega arith),
        b 8 (omega arith),
        b 9 (omega arith),
      )

  pub guard_lawful_there : guard_lawful (get_or (first_chunks 10 count bytes) k []) 0 ≡ guard_lawful bytes k
  guard_lawful_there =
      let b = byte_at 10 count k bytes l in
      cc (b 9 (omega arith))

-- a test of each of the first n elements is one of each number below n
every : {X : Type 0} (d : X) (xs : List X) (p : X → Bool) (q : ℕ → Bool) (n : ℕ) → n ≤ length xs
    → ((k : ℕ) → k < n → p (get_or xs k d) ≡ q k) → list_all p (take n xs) ≡ all_below n q
every d xs p q zero l same = refl
every d xs p q (suc n) l same =
    let e : suc n ≡ n + 1 = omega arith in
    ap (λ i. list_all p (take i xs)) e
    ∙ list_all_more p xs n d (omega arith)
    ∙ ap₂ (λ a b. a && b) (every d xs p q n (omega arith) (λ k less. same k (omega arith))) (same n (omega arith))

length_records : (width count : ℕ) (bytes : List ℕ) → length (first_chunks width count bytes) ≡ count
length_records width zero bytes = refl
length_records width (suc count) bytes = ap suc (length_records width count (drop width bytes))

every_record : (width count : ℕ) (bytes : List ℕ) (p : List ℕ → Bool) (q : ℕ → Bool)
    → ((k : ℕ) → k < count → p (get_or (first_chunks width count bytes) k []) ≡ q k)
    → list_all p (first_chunks width count bytes) ≡ all_below count q
every_record width count bytes p q same =
    let n = length_records width count bytes in
    let e : take count (first_chunks width count bytes) ≡ first_chunks width count bytes = take_all _ _ (omega arith) in
    ap (list_all p) (sym e) ∙ every [] (first_chunks width count bytes) p q count (omega arith) same

pub every_guard : (count : ℕ) (bytes : List ℕ) → list_all (λ b. guard_lawful b 0) (first_chunks 10 count bytes) ≡ all_below count (guard_lawful bytes)
every_guard count bytes = every_record 10 count bytes _ _ (λ k l. guard_lawful_there count k bytes l)

pub every_arc : (count : ℕ) (bytes : List ℕ) (p : Arc → Bool) → list_all (λ b. p (arc_at b 0)) (first_chunks 3 count bytes) ≡ all_below count (λ k. p (arc_at bytes k))
every_arc count bytes p = every_record 3 count bytes _ _ (λ k l. ap p (arc_there count k bytes l))
