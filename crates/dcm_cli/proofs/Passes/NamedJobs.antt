-- A dump of all elements, or of those that are named.
use Rattle.std.proofs.Common.{◌≡◌, List, [], ◌∷◌, Option, Bool, true, false, refl}
use Rattle.dcm_base.specs.declared.tag.Tag.{Tag}
use Rattle.dcm_base.specs.declared.mode.Mode.{Mode}
use Rattle.dcm_base.specs.declared.syntax.Syntax.{Syntax}
use Rattle.dcm_base.specs.declared.dictionary.Dictionary.{Dictionary}
use Rattle.dcm_words.specs.declared.job.Texts.{Texts}
use Rattle.dcm_words.specs.Words.{Job, Named, dump_as, dump_named, dump_of}

-- what holds of both
pub of_named : (P : Job → Type 0) (n : Named) (texts : Texts) (d : Dictionary) (mode : Mode) (bare : Option Syntax) → P (dump_as texts d mode bare) → P (dump_named texts d mode bare n) → P (dump_of n texts d mode bare)
of_named P n texts d mode bare all some = by_tags n.tags
  where
    by_tags : (tags : List Tag) → P (elim tags [ [] ↦ dump_as texts d mode bare | tag ∷ others ↦ dump_named texts d mode bare n ])
    by_tags [] = all
    by_tags (tag ∷ others) = some

-- which one it is
pub names_none : (P : Job → Type 0) (n : Named) (texts : Texts) (d : Dictionary) (mode : Mode) (bare : Option Syntax) → n.tags ≡ [] → P (dump_as texts d mode bare) → P (dump_of n texts d mode bare)
names_none P n texts d mode bare e all = by_tags n.tags e
  where
    by_tags : (tags : List Tag) → tags ≡ [] → P (elim tags [ [] ↦ dump_as texts d mode bare | tag ∷ others ↦ dump_named texts d mode bare n ])
    by_tags [] e = all
    by_tags (tag ∷ others) e = absurd (cc)

pub names_some : (P : Job → Type 0) (n : Named) (texts : Texts) (d : Dictionary) (mode : Mode) (bare : Option Syntax) → (n.tags ≡ [] → ⊥) → P (dump_named texts d mode bare n) → P (dump_of n texts d mode bare)
names_some P n texts d mode bare e some = by_tags n.tags e
  where
    by_tags : (tags : List Tag) → (tags ≡ [] → ⊥) → P (elim tags [ [] ↦ dump_as texts d mode bare | tag ∷ others ↦ dump_named texts d mode bare n ])
    by_tags [] e = absurd (e refl)
    by_tags (tag ∷ others) e = some
