use Rattle.std.proofs.Common.{[], length, sym, ap, subst, ◌∙◌, arith}
use Rattle.std.proofs.lemmas.Bool.Decides.{nat_tests}
use Rattle.std.proofs.lemmas.List.{length-replicate}
use Rattle.history.specs.Notes.{Made, empty}
use Rattle.sheet.proofs.Held.{held_blank, kept_blank}
use Rattle.sheet.proofs.types.Sheet.empty.Goals as goal

pub invariant_of-result : goal.invariant_of-result
invariant_of-result c =
    let long = ap length c.new.ensures ∙ length-replicate c.args.count [] in
    record {
      some = grind (arith, nat_tests, long);
      few = grind (arith, nat_tests, long);
      made = ∣ subst Made (sym (held_blank c.args.count c.new.result c.new.ensures))
          (empty c.args.count (grind (arith, nat_tests)) (grind (arith, nat_tests))) ∣₁;
      clocks = ∣ kept_blank c.args.count c.new.result c.new.ensures ∣₁;
    }

pub returns : goal.returns
returns c = held_blank c.args.count c.new.result c.new.ensures
