-- What the example monitor means: two states, and an event of its variable leads from the start 0 to the bad state 1 for good.
use Rattle.std.specs.Prelude.{ℕ, cond, ◌&&◌, ◌||◌, ◌==◌, nat_lt}
use Rattle.std.proofs.Common.{arith}
use Rattle.monitor.specs.Meanings.{Meaning, Lawful}
use Rattle.std.proofs.lemmas.Bool.{and_parts, ltb-true, eqb-true}

abbrev pub seen : ℕ → Meaning
seen variable = record {
  states = 2;
  start = λ s. (s == 0);
  bad = λ s. (s == 1);
  step = λ s e t. nat_lt s 2 && (nat_lt t 2 && t == cond (s == 1 || e.variable == variable) 1 0);
}

pub seen_lawful : (variable : ℕ) → Lawful (seen variable)
seen_lawful variable = record {
  few = omega arith;
  starts = λ s p. omega (arith, eqb-true s 0 p);
  bads = λ s p. omega (arith, eqb-true s 1 p);
  from = λ s e t p. ltb-true s 2 (and_parts (nat_lt s 2) _ p).0;
  to = λ s e t p. ltb-true t 2 (and_parts (nat_lt t 2) _ (and_parts (nat_lt s 2) _ p).1).0;
}
