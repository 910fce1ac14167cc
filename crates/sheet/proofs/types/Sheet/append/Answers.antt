use Rattle.std.proofs.Common.{arith}
use Rattle.sheet.proofs.Accepts.{appended, appended_length, appended_made, appended_kept}
use Rattle.sheet.proofs.types.Sheet.append.Goals as goal

pub invariant_of-self : goal.invariant_of-self
invariant_of-self c =
    let long = appended_length c.args.self.now c.args.station c.args.event c.requires c.push.new.self _ c.push.ensures c.next_clock-clock.ensures in
    record {
      some = omega (arith, long, c.args.self.now.some);
      few = omega (arith, long, c.args.self.now.few);
      made = appended_made c.args.self.now c.args.station c.args.event c.requires c.push.new.self _ c.push.ensures c.next_clock-clock.ensures;
      clocks = appended_kept c.args.self.now c.args.station c.args.event c.requires c.push.new.self _ c.push.ensures c.next_clock-clock.ensures;
    }

pub returns : goal.returns
returns c =
    appended c.args.self.now c.args.station c.args.event c.requires c.push.new.self _ c.push.ensures c.next_clock-clock.ensures
