-- The answers of a rule line, as numbers, are those of its formula's automaton.
use Rattle.std.proofs.Common.{◌≡◌, ℕ, zero, suc, ◌+◌, ◌-◌, ◌^◌, ◌<◌, ◌≤◌, Bool, true, false, cond, not, ◌&&◌, eqb, ltb, leb, List, Ok, Err, Result, sym, refl, ap, ◌∙◌, subst, ap₂, ⊎_elim, arith}
use mathlib.Core.Bool.{and-false}
use Rattle.std.proofs.lemmas.Bool.{and_parts, eqb-true, eq-eqb, ne_eqb, lt-ltb, le-leb, lt-leb, false≢true, cases_eq, cond-false}
use Rattle.history.specs.declared.Label.{Label}
use Rattle.history.specs.declared.Refused.{Refused}
use Rattle.monitor.specs.declared.guard.Guard.{Guard}
use Rattle.formula.proofs.Bits.{number_bits}
use Rattle.formula.proofs.Reading.{future_few, past_few}
use Rattle.formula.specs.Automata.{number_of, bits_of, value, values, end_bits, mirrored, future_step, past_next, past_step}
use Rattle.formula.specs.Formulas.{Future, Past, items}
use Rattle.formula.specs.Lines.{future_line, past_line}
use Rattle.rule.specs.Held.{steps_ahead, leads_back, steps_back, states_of}
use Rattle.rule.specs.Passes.{passed, begun, ended}
use Rattle.rule.specs.RuleFiles.{Rule, ahead_of, behind_of, formula_of}
use Rattle.rule.specs.RuleLines.{outlines, automaton}
use Rattle.rule.specs.declared.progress.Progress.{Progress}
use Rattle.rule.proofs.Valuing.{future_passed, past_passed}

not_zero : (n : ℕ) → eqb (suc n) 0 ≡ false
not_zero n = ne_eqb (suc n) 0 (λ q. omega arith)

-- a value as a bit
fails : (v : Bool) → eqb (cond v 1 0) 0 ≡ not v
fails true = refl
fails false = refl

inside : (s t n : ℕ) (x : Bool) → s < n → t < n → (ltb s n && (ltb t n && x)) ≡ x
inside s t n x l k = ap₂ (λ a b. a && (b && x)) (lt-ltb s n l) (lt-ltb t n k)

-- the state two above a number
two_above : (h t : ℕ) → eqb t (2 + h) ≡ (leb 2 t && eqb h (t - 2))
two_above h t = ⊎_elim
    (λ (q : t ≡ 2 + h). eq-eqb t (2 + h) q ∙ sym (ap₂ ◌&&◌ (le-leb 2 t (omega arith)) (eq-eqb h (t - 2) (omega arith))))
    (λ n. ne_eqb t (2 + h) n ∙ sym (⊎_elim
    (λ (q : h ≡ t - 2). ap₂ ◌&&◌ (lt-leb 2 t (few q n)) (eq-eqb h (t - 2) q))
    (λ m. ap (λ b. leb 2 t && b) (ne_eqb h (t - 2) m) ∙ and-false (leb 2 t))
    (cases_eq h (t - 2))))
    (cases_eq t (2 + h))
  where
    few : h ≡ t - 2 → (t ≡ 2 + h → ⊥) → t < 2
    few q n = omega arith

-- where a past line leads
leads : (f : Future) (e : Label) (d : List Bool) (t : ℕ) → leads_back (ended f e d) t ≡ eqb t (past_next f e d)
leads f e d t = by (value f 0 e d) (number_of (values f 0 e d))
  where
    by : (v : Bool) (h : ℕ) → cond (eqb (cond v 1 0) 0) (eqb t 1) (leb 2 t && eqb h (t - 2)) ≡ eqb t (cond v (2 + h) 1)
    by true h = sym (two_above h t)
    by false h = refl

module _ (guards : List Guard) (bytes : List ℕ) (o : Progress) where
  abbrev Ahead : Rule
  Ahead = record { looks_back = false; guards = guards; items = bytes }

  abbrev Back : Rule
  Back = record { looks_back = true; guards = guards; items = bytes }

  -- steps of a future line
  future_steps : (f : Future) → future_line guards bytes ≡ Ok f → (s : ℕ) (e : Label) (t : ℕ) → t < 2 ^ items f + 1
      → steps_ahead Ahead s e t ≡ future_step f s e t
  future_steps f q s e zero l = refl
  future_steps f q zero e (suc d) l =
      let back : number_of (bits_of (items f) d) ≡ suc d - 1 = number_bits (items f) d (omega arith) ∙ omega arith in
      cond-false (eqb (suc d) 0) _ _ (not_zero d)
      ∙ ap (λ n. eqb (passed guards e (begun n) bytes).stack 0) (sym back)
      ∙ ap (λ p. eqb p.stack 0) (future_passed guards bytes f q e (bits_of (items f) d))
      ∙ fails (value f 0 e (bits_of (items f) d))
  future_steps f q (suc c) e (suc d) l =
      let back : number_of (bits_of (items f) d) ≡ suc d - 1 = number_bits (items f) d (omega arith) ∙ omega arith in
      let less : suc c - 1 ≡ c = omega arith in
      cond-false (eqb (suc d) 0) _ _ (not_zero d) ∙ cond-false (eqb (suc c) 0) _ _ (not_zero c)
      ∙ ap (λ n. eqb (passed guards e (begun n) bytes).here (suc c - 1)) (sym back)
      ∙ ap₂ (λ p k. eqb p.here k) (future_passed guards bytes f q e (bits_of (items f) d)) less

  -- steps of a past line
  past_steps : (f : Past) → past_line guards bytes ≡ Ok f → o.end ≡ number_of (end_bits (mirrored f))
      → (s : ℕ) (e : Label) (t : ℕ) → s < 2 ^ items (mirrored f) + 2 → steps_back Back o s e t ≡ eqb t (past_step (mirrored f) s e)
  past_steps f q same zero e t l =
      ap (λ n. leads_back (passed guards e (begun n) bytes) t) same
      ∙ ap (λ p. leads_back p t) (past_passed guards bytes f q e (end_bits (mirrored f)))
      ∙ leads (mirrored f) e (end_bits (mirrored f)) t
  past_steps f q same (suc zero) e t l = refl
  past_steps f q same (suc (suc c)) e t l =
      let m = items (mirrored f) in
      let not_one : eqb (suc (suc c)) 1 ≡ false = ne_eqb (suc (suc c)) 1 (λ z. omega arith) in
      let less : suc (suc c) - 2 ≡ c = omega arith in
      let back : cond (eqb (suc (suc c)) 0) o.end (suc (suc c) - 2) ≡ number_of (bits_of m c) =
      cond-false (eqb (suc (suc c)) 0) _ _ (not_zero (suc c)) ∙ less ∙ sym (number_bits m c (omega arith)) in
      cond-false (eqb (suc (suc c)) 1) _ _ not_one
      ∙ ap (λ n. leads_back (passed guards e (begun n) bytes) t) back
      ∙ ap (λ p. leads_back p t) (past_passed guards bytes f q e (bits_of m c))
      ∙ leads (mirrored f) e (bits_of m c) t

  -- the line is read, so its formula is there
  record AheadRead : Type 0 where
    formula : Future
    is : future_line guards bytes ≡ Ok formula
    size : o.temporal ≡ items formula
    ends : o.end ≡ number_of (end_bits formula)

  ahead_read : outlines o (ahead_of (future_line guards bytes)) ≡ true → AheadRead
  ahead_read p = look (future_line guards bytes) refl p
    where
      look : (x : Result Future Refused) → future_line guards bytes ≡ x → outlines o (ahead_of x) ≡ true → AheadRead
      look (Ok f) q p =
          let both = and_parts (eqb o.temporal (items f)) _ p in
          record { formula = f; is = q; size = eqb-true _ _ both.0; ends = eqb-true _ _ both.1 }
      look (Err why) q p = absurd (false≢true p)

  record BackRead : Type 0 where
    formula : Past
    is : past_line guards bytes ≡ Ok formula
    size : o.temporal ≡ items (mirrored formula)
    ends : o.end ≡ number_of (end_bits (mirrored formula))

  back_read : outlines o (behind_of (past_line guards bytes)) ≡ true → BackRead
  back_read p = look (past_line guards bytes) refl p
    where
      look : (x : Result Past Refused) → past_line guards bytes ≡ x → outlines o (behind_of x) ≡ true → BackRead
      look (Ok f) q p =
          let both = and_parts (eqb o.temporal (items (mirrored f))) _ p in
          record { formula = f; is = q; size = eqb-true _ _ both.0; ends = eqb-true _ _ both.1 }
      look (Err why) q p = absurd (false≢true p)

  pub few : (looks_back : Bool) → outlines o (formula_of record { looks_back = looks_back; guards = guards; items = bytes }) ≡ true → o.temporal ≤ 6
  few false p = let r = ahead_read p in omega (arith, r.size, future_few guards bytes r.formula r.is)
  few true p = let r = back_read p in omega (arith, r.size, past_few guards bytes r.formula r.is)

  pub states_are : (looks_back : Bool) → outlines o (formula_of record { looks_back = looks_back; guards = guards; items = bytes }) ≡ true
      → states_of looks_back o ≡ (automaton (formula_of record { looks_back = looks_back; guards = guards; items = bytes })).states
  states_are false p = let r = ahead_read p in
      ap (λ n. 2 ^ n + 1) r.size ∙ ap (λ x. (automaton (ahead_of x)).states) (sym r.is)
  states_are true p = let r = back_read p in
      ap (λ n. 2 ^ n + 2) r.size ∙ ap (λ x. (automaton (behind_of x)).states) (sym r.is)

  pub ahead_steps : outlines o (formula_of Ahead) ≡ true → (s : ℕ) (e : Label) (t : ℕ) → s < (automaton (formula_of Ahead)).states
      → t < (automaton (formula_of Ahead)).states → steps_ahead Ahead s e t ≡ (automaton (formula_of Ahead)).step s e t
  ahead_steps p s e t l k =
      let r = ahead_read p in
      let f = r.formula in
      let n = ap (λ x. (automaton (ahead_of x)).states) r.is in
      future_steps f r.is s e t (subst (λ m. t < m) n k)
      ∙ sym (inside s t (2 ^ items f + 1) (future_step f s e t) (subst (λ m. s < m) n l) (subst (λ m. t < m) n k))
      ∙ ap (λ x. (automaton (ahead_of x)).step s e t) (sym r.is)

  pub back_steps : outlines o (formula_of Back) ≡ true → (s : ℕ) (e : Label) (t : ℕ) → s < (automaton (formula_of Back)).states
      → t < (automaton (formula_of Back)).states → steps_back Back o s e t ≡ (automaton (formula_of Back)).step s e t
  back_steps p s e t l k =
      let r = back_read p in
      let f = mirrored r.formula in
      let n = ap (λ x. (automaton (behind_of x)).states) r.is in
      past_steps r.formula r.is r.ends s e t (subst (λ m. s < m) n l)
      ∙ sym (inside s t (2 ^ items f + 2) (eqb t (past_step f s e)) (subst (λ m. s < m) n l) (subst (λ m. t < m) n k))
      ∙ ap (λ x. (automaton (behind_of x)).step s e t) (sym r.is)

  pub steps_are : (looks_back : Bool) → let r : Rule = record { looks_back = looks_back; guards = guards; items = bytes } in
      outlines o (formula_of r) ≡ true → (s : ℕ) (e : Label) (t : ℕ) → s < (automaton (formula_of r)).states → t < (automaton (formula_of r)).states
      → cond looks_back (steps_back r o s e t) (steps_ahead r s e t) ≡ (automaton (formula_of r)).step s e t
  steps_are true p s e t l k = back_steps p s e t l k
  steps_are false p s e t l k = ahead_steps p s e t l k
