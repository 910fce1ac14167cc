use Rattle.std.proofs.Common.{◌≡◌, suc, ◌+◌, get_or, drop, Ok, sym, ap, ◌∙◌, subst, arith, rules}
use Rattle.std.proofs.lemmas.List.{at_drop_more}
use Rattle.formula.specs.Lines.{go_on}
use Rattle.rule.specs.Kinds.{back}
use Rattle.rule.specs.Outlines.{outlined, stepped}
use Rattle.rule.proofs.Bounds.{Modest, ModestIf, stepped_modest}
use Rattle.rule.proofs.progress.outlined.Goals as goal

pub loop-k-preserved : goal.loop-k-preserved
loop-k-preserved c =
    let past = back c.args.kind in
    let guards = c.args.guards in
    let items = c.args.items.now in
    let k = c.loop-k.k-counter in
    let more : suc k ≡ k + 1 = omega arith in
    let next : k + 1 + 1 ≡ suc (k + 1) = omega arith in
    let told : c.stepped.result ≡ Ok c.in_ok-progress.progress = search rules in
    let step : stepped past guards (get_or items k 0) c.loop-k.progress ≡ Ok c.in_ok-progress.progress = sym c.stepped.ensures ∙ told in (
      ap (λ n. outlined past guards c.in_ok-progress.progress n (drop (k + 1) items)) next
          ∙ ap (λ a. go_on (k + 1) a (λ q. outlined past guards q (suc (k + 1)) (drop (k + 1) items))) (sym step)
          ∙ sym (at_drop_more (outlined past guards c.loop-k.progress (k + 1)) items k 0 c.loop-k-test.true)
          ∙ c.loop-k.invariant.0,
      subst (λ n. Modest n c.in_ok-progress.progress) more
          (subst (ModestIf (suc k)) step (stepped_modest k past guards (get_or items k 0) c.loop-k.progress c.loop-k.invariant.1)),
    )
