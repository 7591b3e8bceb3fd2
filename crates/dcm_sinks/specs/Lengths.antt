-- What the heads of the open sequences, fragment lists and items declare, the innermost first.
use Rattle.std.specs.Prelude.{List, [], ◌∷◌}
use Rattle.dcm_base.specs.declared.length.Length.{Length}
use Rattle.dcm_base.specs.declared.length.Length.TheVariants.{Undefined}

abbrev pub innermost : List Length → Length
innermost [] = Undefined
innermost (declared ∷ others) = declared

abbrev pub outer : List Length → List Length
outer [] = []
outer (declared ∷ others) = others
