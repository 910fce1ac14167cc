use Rattle.std.proofs.Common.{◌≡◌, ℕ, ◌*◌, ◌≤◌, true, ◌&&◌, leb, List, length, take, Ok, Err, sym, ap, ◌∙◌, subst, ap₂}
use Rattle.std.proofs.lemmas.List.{take_rest}
use Rattle.std.proofs.lemmas.Result.{err_from_is_err_and}
use Rattle.std.proofs.lemmas.Bool.{le-leb}
use Rattle.monitor.specs.declared.guard.Guard.{Guard}
use Rattle.rule.specs.Kinds.{back}
use Rattle.rule.specs.Outlines.{outlined, untaken}
use Rattle.rule.specs.Parts.{all_listed}
use Rattle.rule.specs.Reads.{LineRead}
use Rattle.rule.specs.RuleFiles.{guards_of, and_then, formula_of, rule_of, line_shaped}
use Rattle.rule.specs.RuleLines.{outlines}
use Rattle.rule.proofs.Filed.{line_wrong, all_right, rule_is, found, lost, guards_length}
use Rattle.rule.proofs.file.line_of.Goals as goal

listed_all : (n : ℕ) (bytes : List ℕ) → n ≤ 26 → all_listed bytes n ≡ true → (leb n 26 && all_listed bytes n) ≡ true
listed_all n bytes l q = ap₂ ◌&&◌ (le-leb n 26 l) q

pub returns-in_err-kind : goal.returns-in_err-kind
returns-in_err-kind c =
    let file = c.args.file.now in
    let n = c.in_ok-letters.letters in
    let rest = c.in_ok-letters.rest.now in
    let r = err_from_is_err_and c.from_residual-in_err-kind.result c.from_residual-in_err-kind.ensures.1 in
    let wrong = line_wrong file n rest c.in_ok-letters.ensures
    (listed_all n rest c.if-letters-gt-GUARDS.false c.in_ok-guards.ensures.0)
    (ap line_shaped (sym (take_rest rest (10 * n))) ∙ c.in_err-kind.ensures.0) in
    subst (LineRead file) (sym r.1)
    (ap (λ a. and_then a (formula_of (rule_of file))) wrong
    ∙ ap Err (sym (r.2 ∙ ap (λ w. record { refusal = w; place = 0 }) c.in_err-kind.ensures.1)))

-- as many guards as are named
as_many : (n : ℕ) (bytes : List ℕ) (guards : List Guard) → take n guards ≡ guards_of bytes n → length (take n guards) ≡ n
as_many n bytes guards q = ap length q ∙ guards_length bytes n

pub returns-in_err-outline : goal.returns-in_err-outline
returns-in_err-outline c =
    let file = c.args.file.now in
    let n = c.in_ok-letters.letters in
    let rest = c.in_ok-letters.rest.now in
    let past = back c.in_ok-kind.kind in
    let items = c.in_ok-kind.items.now in
    let guards = take n c.in_ok-guards.guards in
    let opened = c.in_ok-letters.ensures in
    let listed = c.in_ok-guards.ensures in
    let shape = c.in_ok-kind.ensures in
    let r = err_from_is_err_and c.from_residual-in_err-outline.result c.from_residual-in_err-outline.ensures.1 in
    let right = all_right file n rest opened (listed_all n rest c.if-letters-gt-GUARDS.false listed.0)
    (ap line_shaped (sym (take_rest rest (10 * n))) ∙ shape.shape) in
    let gone = lost guards items past c.in_err-outline.field-0.0
    (ap (λ m. outlined past m untaken 1 items) (as_many n rest c.in_ok-guards.guards listed.1) ∙ sym c.in_err-outline.ensures) in
    let rule = rule_is file n rest opened _ past guards items (take_rest rest (10 * n)) shape listed.1 in
    subst (LineRead file) (sym r.1)
    (ap (λ a. and_then a (formula_of (rule_of file))) right ∙ ap formula_of (sym rule) ∙ gone ∙ ap Err (sym r.2))

pub invariant_of-result : goal.invariant_of-result
invariant_of-result c =
    let n = c.in_ok-letters.letters in
    let rest = c.in_ok-letters.rest.now in
    let past = back c.in_ok-kind.kind in
    let items = c.in_ok-kind.items.now in
    let guards = take n c.in_ok-guards.guards in
    let o = c.in_ok-outline.outline in
    let shape = c.in_ok-kind.ensures in
    let counted : Ok o ≡ outlined past n untaken 1 items = c.in_ok-outline.ensures in
    let kept = found guards items past o
    (ap (λ m. outlined past m untaken 1 items) (as_many n rest c.in_ok-guards.guards c.in_ok-guards.ensures.1) ∙ sym counted) in
    record {
      fits = ap₂ ◌&&◌ (le-leb n 26 c.if-letters-gt-GUARDS.false) (le-leb (length items) 32 shape.few);
      lawful = subst (λ bytes. outlines o (formula_of record { looks_back = past; guards = guards; items = bytes }) ≡ true) (sym c.kept.ensures) kept;
    }
