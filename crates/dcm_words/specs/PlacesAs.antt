-- What a function made of the paths of a tool.
use Rattle.dcm_words.specs.declared.places.TwoPaths.{TwoPaths}
use Rattle.dcm_words.specs.Places as spec

abbrev pub two_as : TwoPaths → spec.TwoPaths
two_as p = record { input = p.input.now; output = p.output.now; overwrites = p.overwrites }
