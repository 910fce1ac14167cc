use Rattle.std.proofs.Common.{◌≡◌, sym, refl, ◌∙◌, None, Err, subst, rules}
use Rattle.history.specs.declared.Refusal.TheVariants.{GuardList}
use Rattle.rule.specs.Parts.{Listed}
use Rattle.rule.proofs.Listing.{none_more}
use Rattle.rule.proofs.file.listed.Goals as goal

pub returns-in_err-guards : goal.returns-in_err-guards
returns-in_err-guards c =
    let none : c.listed_guard.result ≡ None = search rules in
    let told : c.from_residual.result ≡ Err GuardList = search rules in
    subst (Listed c.args.bytes.now c.args.count) (sym told)
    (none_more c.args.bytes.now c.loop-k.k c.args.count c.loop-k-test.true (sym c.listed_guard.ensures ∙ none), refl)
