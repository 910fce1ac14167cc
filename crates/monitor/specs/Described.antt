-- What a table value describes.
use Rattle.monitor.specs.Tables.{Description, description}
use Rattle.monitor.specs.declared.table.Table.{Table}

abbrev pub described : Table → Description
described t = description t.parts
