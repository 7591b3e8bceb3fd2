-- What a function made of the words that name elements.
use Rattle.std.specs.Prelude.{◌≡◌, ℕ, List, length, take, Option, Some, None, Result, Ok, Err}
use Rattle.dcm_base.specs.declared.tag.Tag.{Tag}
use Rattle.dcm_words.specs.declared.naming.Naming.{Naming}
use Rattle.dcm_words.specs.declared.naming.NamingRefusal.{NamingRefusal}
use Rattle.dcm_words.specs.declared.usage.Usage.{Usage}
use Rattle.dcm_words.specs.declared.usage.Usage.TheVariants.{InElement}
use Rattle.dcm_words.specs.declared.tags.TheConstants.{MOST_NAMED}
use Rattle.dcm_words.specs.declared.tags.Tags.{Tags}
use Rattle.dcm_words.specs.Tags.{tags_of}
use Rattle.dcm_words.specs.Words.{tags_after}

-- the first tags are kept where each word names one, else the first refusal
abbrev pub KeptAs : Option NamingRefusal → List Tag → Result (List Tag) Usage → Type 0
KeptAs None tags (Ok all) = tags ≡ take MOST_NAMED all
KeptAs None tags (Err u) = ⊥
KeptAs (Some r) tags (Ok all) = ⊥
KeptAs (Some r) tags (Err u) = u ≡ InElement r.refusal r.number

-- the words so far come to this
abbrev pub NamingIs : Naming → List (List ℕ) → Type 0
NamingIs n words = (n.number ≡ length words) × KeptAs n.refused (tags_of n.tags) (tags_after 0 words)

-- what a function made of all of them
abbrev pub GivesTags : Result Tags Usage → Result (List Tag) Usage → Type 0
GivesTags (Ok tags) meant = meant ≡ Ok (tags_of tags)
GivesTags (Err u) meant = meant ≡ Err u
