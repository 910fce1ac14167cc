-- Tables and combinations are lawful. (These proofs stand here since an implementation of the interface gives its proof with its
-- meaning.)
use Rattle.std.specs.Prelude.{◌≡◌, ℕ, ◌+◌, ◌*◌, ◌%◌, ◌<◌, ◌≤◌, Bool, true, ◌&&◌, ◌||◌, length, ◌==◌, nat_eq, nat_le, nat_lt}
use Rattle.std.proofs.Common.{arith, subst}
use Rattle.std.proofs.lemmas.Bool.{and_parts, or_parts, leb-true, ltb-true, ltb-false, eqb-true, cond_both}
use Rattle.monitor.specs.Meanings.{Meaning, Lawful}
use Rattle.monitor.specs.Combinations.{limited, either, both, only, hears}
use Rattle.monitor.specs.Tables.{Description, states_lawful, lawful_table, table}

limited_few : (m n k : ℕ) → limited m n k ≤ 4096
limited_few m n k = cond_both (m == 0 || (n == 0 || nat_lt 4096 k)) 0 k (λ x. x ≤ 4096)
    (λ _. omega arith)
    (λ p. ltb-false 4096 k (or_parts (n == 0) (nat_lt 4096 k) (or_parts (m == 0) (n == 0 || nat_lt 4096 k) p).1).1)

-- a test that begins with s < n
below : (s n : ℕ) (rest : Bool) → (nat_lt s n && rest) ≡ true → s < n
below s n rest p = ltb-true s n (and_parts (nat_lt s n) rest p).0

pub either_lawful : (a b : Meaning) → Lawful (either a b)
either_lawful a b = record {
  few = limited_few a.states b.states (a.states + b.states);
  starts = λ s p. below s _ _ p;
  bads = λ s p. below s _ _ p;
  from = λ s e t p. below s _ _ p;
  to = λ s e t p. below t _ _ (and_parts (nat_lt s _) _ p).1;
}

pub both_lawful : (a b : Meaning) → Lawful (both a b)
both_lawful a b = record {
  few = limited_few a.states b.states (a.states * b.states);
  starts = λ s p. below s _ _ p;
  bads = λ s p. below s _ _ p;
  from = λ s e t p. below s _ _ p;
  to = λ s e t p. below t _ _ (and_parts (nat_lt s _) _ p).1;
}

pub only_lawful : (mask : ℕ) (m : Meaning) → Lawful m → Lawful (only mask m)
only_lawful mask m law = record {
  few = law.few;
  starts = law.starts;
  bads = law.bads;
  from = λ s e t. cond_both (hears mask e.variable) (m.step s e t) (nat_lt s m.states && s == t) (λ x. x ≡ true → s < m.states)
      (λ _ p. law.from s e t p) (λ _ p. below s _ _ p);
  to = λ s e t. cond_both (hears mask e.variable) (m.step s e t) (nat_lt s m.states && s == t) (λ x. x ≡ true → t < m.states)
      (λ _ p. law.to s e t p)
      (λ _ p. subst (λ i. i < m.states) (eqb-true s t (and_parts (nat_lt s m.states) (s == t) p).1) (below s _ _ p));
}

pub table_lawful : (d : Description) → lawful_table d ≡ true → Lawful (table d)
table_lawful d ok = record {
  few =
      let whole = length d.guards % 10 == 0 && nat_eq (length d.arcs % 3) 0 in
      let states = states_lawful d.states d.initial d.bad in
      let most = (and_parts (nat_le 1 d.states) _ (and_parts states _ (and_parts whole _ ok).1).0).1 in
      omega (arith, leb-true d.states 64 (and_parts (nat_le d.states 64) _ most).0);
  starts = λ s p. below s _ _ p;
  bads = λ s p. below s _ _ p;
  from = λ s e t p. below s _ _ p;
  to = λ s e t p. below t _ _ (and_parts (nat_lt s _) _ p).1;
}
