-- How an answer is written in a script, byte by byte.
use Rattle.std.specs.Prelude.{ℕ, cond, List, codes, decimal}
use Rattle.history.specs.Shown.{clock_words, refusal_line}
use Rattle.replay.specs.declared.answer.Answer.{Answer}
use Rattle.replay.specs.declared.answer.Answer.TheVariants.{Done, YesNo, Number, Clock, Refused, Unreadable}

abbrev pub answer_words : Answer → List ℕ
answer_words Done = codes "ok"
answer_words (YesNo said) = cond said (codes "yes") (codes "no")
answer_words (Number n) = decimal n
answer_words (Clock counts) = clock_words counts.0
answer_words (Refused why) = refusal_line why
answer_words Unreadable = codes "unreadable"
