use Rattle.std.proofs.Common.{◌<◌, [], ◌∷◌, ◌++◌, length, set, sym, ap, ◌∙◌, subst}
use Rattle.sheet.specs.Tables.{rows}
use Rattle.sheet.proofs.Tables.{row_is, row_put}
use Rattle.sheet.proofs.table.Table.push.Goals as goal

pub push-requires : goal.push-requires
push-requires c = subst (λ xs. length xs < 64) (row_is c.args.self.now c.args.station c.requires.there) c.requires.room

pub returns : goal.returns
returns c =
    row_put c.args.self.now c.args.station c.requires.there _
    ∙ ap (λ xs. set (rows c.args.self.now) c.args.station xs)
    (c.push.ensures ∙ ap (λ xs. xs ++ c.args.slot ∷ []) (sym (row_is c.args.self.now c.args.station c.requires.there)))
