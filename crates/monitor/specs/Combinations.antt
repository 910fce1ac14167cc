-- Combinations of monitors, by their states' numbers. One over a monitor without states, or with more than 4096 states of its
-- own, has none.
use Rattle.std.specs.Prelude.{ℕ, ◌+◌, ◌-◌, ◌*◌, ◌/◌, ◌%◌, ◌^◌, Bool, cond, ◌&&◌, ◌||◌, ◌==◌, nat_le, nat_lt}
use Rattle.monitor.specs.Meanings.{Meaning}

-- the size of a combination of monitors with m and n states, where it would have k
abbrev pub limited : ℕ → ℕ → ℕ → ℕ
limited m n k = cond (m == 0 || (n == 0 || nat_lt 4096 k)) 0 k

-- A's states and then B's, with starts, bad states and steps of both
abbrev pub either : Meaning → Meaning → Meaning
either a b =
    let n : ℕ = limited a.states b.states (a.states + b.states) in
    record {
      states = n;
      start = λ s. nat_lt s n && cond (nat_lt s a.states) (a.start s) (b.start (s - a.states));
      bad = λ s. nat_lt s n && cond (nat_lt s a.states) (a.bad s) (b.bad (s - a.states));
      step = λ s e t. nat_lt s n && (nat_lt t n
          && cond (nat_lt s a.states) (nat_lt t a.states && a.step s e t) (nat_le a.states t && b.step (s - a.states) e (t - a.states)));
    }

-- state a × (B's number of states) + b stands for the pair of a and b, and each of the two has its say
abbrev pub both : Meaning → Meaning → Meaning
both a b =
    let n : ℕ = limited a.states b.states (a.states * b.states) in
    record {
      states = n;
      start = λ s. nat_lt s n && (a.start (s / b.states) && b.start (s % b.states));
      bad = λ s. nat_lt s n && (a.bad (s / b.states) && b.bad (s % b.states));
      step = λ s e t. nat_lt s n && (nat_lt t n && (a.step (s / b.states) e (t / b.states) && b.step (s % b.states) e (t % b.states)));
    }

-- the variable's bit is set in a mask of 32 bits
abbrev pub hears : ℕ → ℕ → Bool
hears mask v = nat_lt v 32 && (mask / 2 ^ v) % 2 == 1

-- events of the variables in the mask step as below, all others keep every state
abbrev pub only : ℕ → Meaning → Meaning
only mask m = record {
  states = m.states;
  start = m.start;
  bad = m.bad;
  step = λ s e t. cond (hears mask e.variable) (m.step s e t) (nat_lt s m.states && s == t);
}
