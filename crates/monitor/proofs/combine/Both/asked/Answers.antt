use Rattle.std.proofs.Common.{inl, inr, subst, sym, refl, ap, ◌∙◌}
use Rattle.monitor.specs.Numbering.{pair_of}
use Rattle.monitor.specs.Asked.{Answers, OfPair}
use Rattle.monitor.proofs.combine.Both.asked.Goals as goal

pub returns-then-ask_left : goal.returns-then-ask_left
returns-then-ask_left g c =
    let P = Answers g.A.FnOnce c.args.ask_left c.args.self.now.left in
    let Q = Answers g.B.FnOnce c.args.ask_right c.args.self.now.right in
    let e = sym c.in-Some.is ∙ c.pair.ensures ∙ ap (λ n. pair_of n c.args.state) c.sizes.ensures in
    subst (OfPair P Q _) e (_, (_, c.ask_left.ensures, refl), inr (c.if-ask_left.true, (_, c.ask_right.ensures, refl)))

pub returns-else-ask_left : goal.returns-else-ask_left
returns-else-ask_left g c =
    let P = Answers g.A.FnOnce c.args.ask_left c.args.self.now.left in
    let Q = Answers g.B.FnOnce c.args.ask_right c.args.self.now.right in
    let e = sym c.in-Some.is ∙ c.pair.ensures ∙ ap (λ n. pair_of n c.args.state) c.sizes.ensures in
    subst (OfPair P Q _) e (_, (_, c.ask_left.ensures, refl), inl (c.if-ask_left.false, c.if-ask_left.false))
