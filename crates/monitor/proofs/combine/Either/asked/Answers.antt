use Rattle.std.proofs.Common.{Some, subst, sym, refl, ap, ◌∙◌}
use Rattle.monitor.specs.Numbering.{part_of}
use Rattle.monitor.specs.Asked.{OfPart}
use Rattle.monitor.proofs.combine.Either.asked.Goals as goal

pub returns-in-Some-Left : goal.returns-in-Some-Left
returns-in-Some-Left g c =
    let e = sym (c.in-Some-Left.is ∙ ap Some c.in-Some-Left.field-0-is) ∙ c.part.ensures ∙ ap (λ n. part_of n c.args.state) c.sizes.ensures in
    subst (OfPart _ _ _) e (_, c.ask_left.ensures, refl)

pub returns-in-Some-Right : goal.returns-in-Some-Right
returns-in-Some-Right g c =
    let e = sym (c.in-Some-Right.is ∙ ap Some c.in-Some-Right.field-0-is) ∙ c.part.ensures ∙ ap (λ n. part_of n c.args.state) c.sizes.ensures in
    subst (OfPart _ _ _) e (_, c.ask_right.ensures, refl)
