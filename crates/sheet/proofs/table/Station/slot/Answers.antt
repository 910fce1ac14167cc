use Rattle.std.proofs.Common.{◌≡◌, suc, ap, sym, ◌∙◌, arith}
use Rattle.std.specs.List.{slice_get}
use Rattle.history.specs.Histories.{nth}
use Rattle.sheet.proofs.Tables.{get_copied, nth_get}
use Rattle.sheet.specs.Tables.{filled}
use Rattle.sheet.proofs.table.Station.slot.Goals as goal

pub returns : goal.returns
returns c =
    let number : suc c.in_ok-index.index ≡ c.args.number = omega (arith, c.in_ok-index.ensures) in
    c.copied.ensures
    ∙ get_copied c.held.result.now c.in_ok-index.index c.get.result c.get.ensures.lookup
    ∙ ap (λ xs. slice_get xs c.in_ok-index.index) c.held.ensures.is
    ∙ sym (nth_get (filled c.args.self.now) c.in_ok-index.index)
    ∙ ap (nth (filled c.args.self.now)) number
