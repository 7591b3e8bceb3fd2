-- The lines of a dump, in parts.
use Rattle.std.specs.Prelude.{ℕ, zero, suc, Option, Some, None, ◌-◌, List, ◌∷◌, [], ◌++◌, length, codes, decimal, replicate}
use Rattle.dcm_base.specs.declared.tag.Tag.{Tag}
use Rattle.dcm_base.specs.declared.length.Length.{Length}
use Rattle.dcm_base.specs.declared.length.Length.TheVariants.{Known, Undefined}
use Rattle.dcm_base.specs.Tables.Dictionary.{keyword_in}
use Rattle.dcm_base.specs.declared.dictionary.Dictionary.{Dictionary}

abbrev pub length_digits_of : Length → List ℕ
length_digits_of (Known n) = decimal n
length_digits_of Undefined = codes "u/l"

-- right in three places
abbrev pub length_field : Length → List ℕ
length_field declared = replicate (3 - length (length_digits_of declared)) 32 ++ length_digits_of declared

-- what comes between a display and the keyword
abbrev pub rest_start : Length → ℕ → List ℕ
rest_start declared count = codes " # " ++ length_field declared ++ codes ", " ++ decimal count ++ codes " "

-- a line after its display
abbrev pub line_rest : Dictionary → Tag → Length → ℕ → List ℕ
line_rest d tag declared count = codes " # " ++ length_field declared ++ codes ", " ++ decimal count ++ codes " "
    ++ keyword_in d tag ++ 10 ∷ []

-- the lines of level 16 that are written down whole: of an item that begins, of its end, and of the end of a sequence
abbrev pub item_text : Length → Option (List ℕ)
item_text Undefined = Some (codes "                                (fffe,e000) na (Item with undefined length)             # u/l, 1 Item\n")
item_text (Known zero) = Some (codes "                                (fffe,e000) na (Item with explicit length)              #   0, 1 Item\n")
item_text (Known (suc n)) = None

abbrev pub item_end_text : Length → List ℕ
item_end_text (Known n) = codes "                                (fffe,e00d) na (ItemDelimitationItem for re-encoding)   #   0, 0 ItemDelimitationItem\n"
item_end_text Undefined = codes "                                (fffe,e00d) na (ItemDelimitationItem)                   #   0, 0 ItemDelimitationItem\n"

abbrev pub sequence_end_text : Length → List ℕ
sequence_end_text (Known n) = codes "                                (fffe,e0dd) na (SequenceDelimitationItem for re-encod.) #   0, 0 SequenceDelimitationItem\n"
sequence_end_text Undefined = codes "                                (fffe,e0dd) na (SequenceDelimitationItem)               #   0, 0 SequenceDelimitationItem\n"
