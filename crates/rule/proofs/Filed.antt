-- What a rule file answers, from its parts.
use Rattle.std.proofs.Common.{◌≡◌, ℕ, zero, suc, ◌*◌, Bool, true, false, cond, not, ◌&&◌, ◌||◌, eqb, ltb, leb, List, [], ◌∷◌, length, get_or, drop, Ok, Err, Result, sym, refl, ap, ◌∙◌, ap₂, arith}
use Rattle.std.proofs.lemmas.List.{length-append}
use Rattle.std.proofs.lemmas.Bool.{eq-eqb, cond-true, cond-false}
use Rattle.history.specs.declared.Refusal.TheVariants.{GuardList, LineShape}
use Rattle.history.specs.declared.Refused.{Refused}
use Rattle.monitor.specs.Guards.{guard_at}
use Rattle.monitor.specs.declared.guard.Guard.{Guard}
use Rattle.formula.specs.Automata.{number_of, end_bits, mirrored}
use Rattle.formula.specs.Formulas.{Future, Past, items}
use Rattle.formula.specs.Lines.{future_line, past_line}
use Rattle.rule.specs.Outlines.{outlined, untaken}
use Rattle.rule.specs.Parts.{Opened, Shaped, all_listed}
use Rattle.rule.specs.RuleFiles.{Rule, ahead_of, behind_of, formula_of, marked, guards_of, guards_listed, line_bytes, rule_of, line_shaped, file_answer}
use Rattle.rule.specs.RuleLines.{outlines, length_end}
use Rattle.rule.specs.declared.progress.Progress.{Progress}
use Rattle.rule.proofs.Outlining.{finished, future_outlined, past_outlined}

module _ (file : List ℕ) (count : ℕ) (rest : List ℕ) (o : Opened file count rest) where
  listed_is : (leb count 26 && all_listed rest count) ≡ guards_listed file
  listed_is = ap₂ (λ n b. leb n 26 && all_listed b n) o.count_is o.behind

  pub line_is : drop (10 * count) rest ≡ line_bytes file
  line_is = ap₂ (λ n b. drop (10 * n) b) o.count_is o.behind

  begins : file_answer file ≡ cond (not (guards_listed file)) (Err GuardList) (cond (not (line_shaped (line_bytes file))) (Err LineShape) (Ok tt))
  begins =
      cond-false (ltb (length file) 6 || not (marked file)) _ _ o.mark
      ∙ cond-false (not (eqb (get_or file 3 0) 0 && eqb (get_or file 4 0) 1)) _ _ (ap not o.version)

  pub guards_wrong : (leb count 26 && all_listed rest count) ≡ false → file_answer file ≡ Err GuardList
  guards_wrong q = begins ∙ cond-true (not (guards_listed file)) _ _ (ap not (sym listed_is ∙ q))

  pub line_wrong : (leb count 26 && all_listed rest count) ≡ true → line_shaped (drop (10 * count) rest) ≡ false → file_answer file ≡ Err LineShape
  line_wrong q l =
      begins ∙ cond-false (not (guards_listed file)) _ _ (ap not (sym listed_is ∙ q))
      ∙ cond-true (not (line_shaped (line_bytes file))) _ _ (ap not (ap line_shaped (sym line_is) ∙ l))

  pub all_right : (leb count 26 && all_listed rest count) ≡ true → line_shaped (drop (10 * count) rest) ≡ true → file_answer file ≡ Ok tt
  all_right q l =
      begins ∙ cond-false (not (guards_listed file)) _ _ (ap not (sym listed_is ∙ q))
      ∙ cond-false (not (line_shaped (line_bytes file))) _ _ (ap not (ap line_shaped (sym line_is) ∙ l))

  -- the rule of the file, from its parts
  pub rule_is : (line : List ℕ) (looks_back : Bool) (guards : List Guard) (bytes : List ℕ) → line ≡ drop (10 * count) rest
      → Shaped line looks_back bytes → guards ≡ guards_of rest count
      → ◌≡◌ {A = Rule} record { looks_back = looks_back; guards = guards; items = bytes } (rule_of file)
  rule_is line looks_back guards bytes l s g = made
      (s.kind ∙ ap (λ b. eqb (get_or b 0 0) 60) (l ∙ line_is))
      (g ∙ ap₂ guards_of o.behind o.count_is)
      (s.items_are ∙ ap (drop 1) (l ∙ line_is))
    where
      made : {a x : Bool} {b y : List Guard} {c z : List ℕ} → a ≡ x → b ≡ y → c ≡ z
          → ◌≡◌ {A = Rule} record { looks_back = a; guards = b; items = c } record { looks_back = x; guards = y; items = z }
      made p q r = cc

-- what counting came to, told of the formula
outline_found : (f : Future) (o : Progress)
    → ◌≡◌ {A = Progress} record { depth = 1; temporal = length (end_bits f); end = number_of (end_bits f) } o
    → (eqb o.temporal (items f) && eqb o.end (number_of (end_bits f))) ≡ true
outline_found f o q = ap₂ ◌&&◌
    (eq-eqb o.temporal (items f) (ap (λ p. p.temporal) (sym q) ∙ length_end f))
    (eq-eqb o.end _ (ap (λ p. p.end) (sym q)))

same_ok : {A B : Type 0} (a b : A) → ◌≡◌ {A = Result A B} (Ok a) (Ok b) → a ≡ b
same_ok a b q = cc

same_err : {A B : Type 0} (a b : B) → ◌≡◌ {A = Result A B} (Err a) (Err b) → a ≡ b
same_err a b q = cc

module _ (guards : List Guard) (bytes : List ℕ) where
  ahead_found : (x : Result Future Refused) (o : Progress) → finished (λ f. f) x ≡ Ok o → outlines o (ahead_of x) ≡ true
  ahead_found (Ok f) o q = outline_found f o (same_ok _ o q)
  ahead_found (Err why) o q = let w : ◌≡◌ {A = ℕ} 0 1 = cc in absurd (omega arith)

  behind_found : (x : Result Past Refused) (o : Progress) → finished mirrored x ≡ Ok o → outlines o (behind_of x) ≡ true
  behind_found (Ok f) o q = outline_found (mirrored f) o (same_ok _ o q)
  behind_found (Err why) o q = let w : ◌≡◌ {A = ℕ} 0 1 = cc in absurd (omega arith)

  ahead_lost : (x : Result Future Refused) (why : Refused) → finished (λ f. f) x ≡ Err why → ahead_of x ≡ Err why
  ahead_lost (Ok f) why q = let w : ◌≡◌ {A = ℕ} 0 1 = cc in absurd (omega arith)
  ahead_lost (Err because) why q = ap Err (same_err because why q)

  behind_lost : (x : Result Past Refused) (why : Refused) → finished mirrored x ≡ Err why → behind_of x ≡ Err why
  behind_lost (Ok f) why q = let w : ◌≡◌ {A = ℕ} 0 1 = cc in absurd (omega arith)
  behind_lost (Err because) why q = ap Err (same_err because why q)

  pub found : (looks_back : Bool) (o : Progress) → outlined looks_back (length guards) untaken 1 bytes ≡ Ok o
      → outlines o (formula_of record { looks_back = looks_back; guards = guards; items = bytes }) ≡ true
  found false o q = ahead_found (future_line guards bytes) o (future_outlined guards bytes ∙ q)
  found true o q = behind_found (past_line guards bytes) o (past_outlined guards bytes ∙ q)

  pub lost : (looks_back : Bool) (why : Refused) → outlined looks_back (length guards) untaken 1 bytes ≡ Err why
      → formula_of record { looks_back = looks_back; guards = guards; items = bytes } ≡ Err why
  lost false why q = ahead_lost (future_line guards bytes) why (future_outlined guards bytes ∙ q)
  lost true why q = behind_lost (past_line guards bytes) why (past_outlined guards bytes ∙ q)

pub guards_length : (bytes : List ℕ) (n : ℕ) → length (guards_of bytes n) ≡ n
guards_length bytes zero = refl
guards_length bytes (suc n) = omega (arith, length-append (guards_of bytes n) (guard_at bytes n ∷ []), guards_length bytes n)
