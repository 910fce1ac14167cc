-- What a rule line holds and means, and that what it means is lawful.
use Rattle.std.specs.Prelude.{◌≡◌, ℕ, ◌^◌, ◌<◌, ◌≤◌, Bool, true, false, ◌&&◌, List, [], length, Ok, Err, Result, ◌==◌, nat_lt, refl}
use Rattle.std.proofs.Common.{arith, pow_mono, sym, ap, ◌∙◌, subst}
use Rattle.history.specs.declared.Refused.{Refused}
use Rattle.monitor.specs.Meanings.{Meaning, Lawful}
use Rattle.monitor.specs.declared.guard.Guard.{Guard}
use Rattle.formula.specs.Automata.{number_of, end_bits, mirrored, future, past}
use Rattle.formula.specs.Formulas.{Future, Past, items}
use Rattle.formula.specs.Lines.{future_line, past_line}
use Rattle.formula.proofs.Bits.{number_below}
use Rattle.formula.proofs.Deserved.{length_deserved, deserved_end}
use Rattle.formula.proofs.Reading.{future_few, past_few}
use Rattle.rule.specs.RuleFiles.{Formula, ahead, behind, ahead_of, behind_of, formula_of}
use Rattle.rule.specs.declared.progress.Progress.{Progress}
use Rattle.std.proofs.lemmas.Bool.{and_parts, ltb-true, eqb-true, false≢true}

-- the future formula whose values a formula's are worked out as
abbrev pub plain : Formula → Future
plain (ahead f) = f
plain (behind f) = mirrored f

-- what is kept of a formula beside its items: how many are temporal, and their bits behind the last position
abbrev pub outlines : Progress → Result Formula Refused → Bool
outlines o (Ok f) = o.temporal == items (plain f) && o.end == number_of (end_bits (plain f))
outlines o (Err why) = false

-- no state at all
abbrev pub nowhere : Meaning
nowhere = record { states = 0; start = λ s. false; bad = λ s. false; step = λ s e t. false }

-- the automaton of a line that can be read
abbrev pub automaton : Result Formula Refused → Meaning
automaton (Ok (ahead f)) = future f
automaton (Ok (behind f)) = past f
automaton (Err why) = nowhere

nowhere_lawful : Lawful nowhere
nowhere_lawful = record {
  few = omega arith;
  starts = λ s p. absurd (false≢true p);
  bads = λ s p. absurd (false≢true p);
  from = λ s e t p. absurd (false≢true p);
  to = λ s e t p. absurd (false≢true p);
}

pub length_end : (f : Future) → length (end_bits f) ≡ items f
length_end f = ap length (sym (deserved_end f)) ∙ length_deserved f []

end_number : (f : Future) → number_of (end_bits f) < 2 ^ items f
end_number f = subst (λ n. number_of (end_bits f) < 2 ^ n) (length_end f) (number_below (end_bits f))

future_lawful : (f : Future) → items f ≤ 6 → Lawful (future f)
future_lawful f l = record {
  few = omega (arith, pow_mono l);
  starts = λ s p. omega (arith, eqb-true s 0 p);
  bads = λ s p. omega (arith, eqb-true s _ p, end_number f);
  from = λ s e t p. ltb-true s _ (and_parts (nat_lt s _) _ p).0;
  to = λ s e t p. ltb-true t _ (and_parts (nat_lt t _) _ (and_parts (nat_lt s _) _ p).1).0;
}

past_lawful : (f : Past) → items (mirrored f) ≤ 6 → Lawful (past f)
past_lawful f l = record {
  few = omega (arith, pow_mono l);
  starts = λ s p. omega (arith, eqb-true s 0 p);
  bads = λ s p. omega (arith, eqb-true s 1 p);
  from = λ s e t p. ltb-true s _ (and_parts (nat_lt s _) _ p).0;
  to = λ s e t p. ltb-true t _ (and_parts (nat_lt t _) _ (and_parts (nat_lt s _) _ p).1).0;
}

ahead_lawful : (r : Result Future Refused) → ((f : Future) → r ≡ Ok f → items f ≤ 6) → Lawful (automaton (ahead_of r))
ahead_lawful (Ok f) few = future_lawful f (few f refl)
ahead_lawful (Err why) few = nowhere_lawful

behind_lawful : (r : Result Past Refused) → ((f : Past) → r ≡ Ok f → items (mirrored f) ≤ 6) → Lawful (automaton (behind_of r))
behind_lawful (Ok f) few = past_lawful f (few f refl)
behind_lawful (Err why) few = nowhere_lawful

pub rule_lawful : (looks_back : Bool) (guards : List Guard) (bytes : List ℕ)
    → Lawful (automaton (formula_of record { looks_back = looks_back; guards = guards; items = bytes }))
rule_lawful true guards bytes = behind_lawful (past_line guards bytes) (past_few guards bytes)
rule_lawful false guards bytes = ahead_lawful (future_line guards bytes) (future_few guards bytes)
