use Rattle.std.proofs.Common.{true, arith}
use Rattle.monitor.proofs.Tables.{Read, guard_read, reads, found, elsewhere, passed}
use Rattle.monitor.specs.Described.{described}
use Rattle.monitor.proofs.table.Table.moves.Goals as goal
use Rattle.monitor.proofs.table.Table.moves.Goals.{then-leads+else-arc-to, else-leads}

pub leads-requires : goal.leads-requires
leads-requires c =
    omega (arith, guard_read (described c.args.self.now) c.args.self.now.lawful c.loop-bytes.bytes-index c.from-arc.result (omega arith) cc)

pub returns-then-arc-to : goal.returns-then-arc-to
returns-then-arc-to c =
    found _ _ _ _ c.loop-bytes.bytes-index c.from-arc.result
    (reads (described c.args.self.now) c.args.self.now.lawful c.args.from c.args.event _ _ true (omega arith) (cc) (cc)) c.if-arc-to.true

pub loop-bytes-preserved : goal.loop-bytes-preserved
loop-bytes-preserved c =
    let d = described c.args.self.now in
    let k = c.loop-bytes.bytes-index in
    let a = c.from-arc.result in
    let read : Read d c.args.from c.args.event k a c.leads.result =
    reads d c.args.self.now.lawful c.args.from c.args.event k a c.leads.result (omega arith) (cc) (cc) in
    elim c.if-leads.branch [
      | then-leads+else-arc-to w ↦ rw w.stays-is (elsewhere d c.args.from c.args.event c.args.to k a _ c.loop-bytes.invariant
          (rw w.if-leads.true at read) w.if-arc-to.false)
      | else-leads w ↦ rw w.stays-is (passed d c.args.from c.args.event c.args.to k a _ c.loop-bytes.invariant (rw w.if-leads.false at read))
    ]
