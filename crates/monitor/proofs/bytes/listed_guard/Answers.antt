use Rattle.std.proofs.Common.{◌/◌, length, arith}
use Rattle.std.proofs.lemmas.Bool.Decides.{nat_tests}
use Rattle.monitor.proofs.Records.{guard_there, guard_lawful_there}
use Rattle.monitor.proofs.bytes.listed_guard.Goals as goal

pub returns : goal.returns
returns c =
    grind (
      arith,
      nat_tests,
      guard_there (length c.args.bytes.now / 10) c.args.k c.args.bytes.now,
      guard_lawful_there (length c.args.bytes.now / 10) c.args.k c.args.bytes.now,
    )
