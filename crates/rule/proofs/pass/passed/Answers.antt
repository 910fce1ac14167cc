use Rattle.std.proofs.Common.{◌≡◌, suc, ◌+◌, get_or, drop, sym, ap, ◌∙◌, subst, arith}
use Rattle.std.proofs.lemmas.List.{at_drop_more}
use Rattle.rule.specs.Passes.{passed, valued}
use Rattle.rule.proofs.Bounds.{Bounded, valued_bounded}
use Rattle.rule.proofs.pass.passed.Goals as goal

pub loop-item-preserved : goal.loop-item-preserved
loop-item-preserved c =
    let guards = c.args.letters.now.guards.now in
    let items = c.args.items.now in
    let i = c.loop-item.item-index in
    let more : suc i ≡ i + 1 = omega arith in (
      ap (λ p. passed guards c.args.letters.now.event p (drop (i + 1) items)) c.valued-pass.ensures
          ∙ sym (at_drop_more (passed guards c.args.letters.now.event c.loop-item.pass) items i 0 c.loop-item-test.true)
          ∙ c.loop-item.invariant.0,
      subst (Bounded (i + 1)) (sym c.valued-pass.ensures)
          (subst (λ n. Bounded n (valued guards c.args.letters.now.event (get_or items i 0) c.loop-item.pass)) more
          (valued_bounded i guards c.args.letters.now.event (get_or items i 0) c.loop-item.pass c.loop-item.invariant.1)),
    )
