-- The kind of a line as the definitions speak of it.
use Rattle.std.specs.Prelude.{Bool, true, false}
use Rattle.rule.specs.declared.kind.Kind.{Kind}
use Rattle.rule.specs.declared.kind.Kind.TheVariants.{Future, Past}

-- whether a line of the kind is a past one
abbrev pub back : Kind → Bool
back Future = false
back Past = true
