use Rattle.std.proofs.Common.{◌≡◌, ◌/◌, length, rules, tests}
use Rattle.std.proofs.lemmas.Iterator.{YieldsList-from_slice}
use Rattle.std.proofs.lemmas.Iterator.Search.{all_from_yields_List}
use Rattle.std.specs.List.{list_all}
use Rattle.monitor.proofs.Records.{every_arc}
use Rattle.monitor.specs.Tables.{arc_at, arc_lawful}
use Rattle.monitor.proofs.parts.Parts.has_lawful_arcs.Goals as goal

pub returns : goal.returns
returns c =
    let p = arc_lawful c.args.self.now.states (length c.args.self.now.guards.now / 10) in
    let run : c.all.result ≡ list_all (λ b. p (arc_at b 0)) c.as_chunks.result.0.now =
    all_from_yields_List (λ b. p (arc_at b 0)) _ _ c.all.result c.all.ensures.ran (YieldsList-from_slice c.as_chunks.result.0.now cc) (λ x b q k. search (rules, tests)) in
    cc (every_arc _ c.args.self.now.arcs.now p)
