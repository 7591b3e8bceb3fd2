-- The tags that a function holds.
use Rattle.std.specs.Prelude.{List, take}
use Rattle.dcm_base.specs.declared.tag.Tag.{Tag}
use Rattle.dcm_words.specs.declared.tags.Tags.{Tags}

abbrev pub tags_of : Tags → List Tag
tags_of t = take t.count t.tags
