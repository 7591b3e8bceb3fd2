-- The way into open sequences.
use Rattle.std.proofs.Common.{◌≡◌, ◌∙◌, refl, ap, sym, List, ℕ, [], ◌∷◌, ◌++◌, map, flat_map, Bool, true, false}
use Rattle.std.specs.Prelude.{reverse, ◌&&◌}
use Rattle.std.proofs.lemmas.List.{append-nil, reverse-reverse}
use Rattle.std.proofs.lemmas.Grind.{flat_map-append, reverse_onto}
use Rattle.dcm_named.specs.declared.filter.Outside.{Outside}
use Rattle.dcm_base.specs.declared.tag.Tag.{Tag}
use Rattle.dcm_named.specs.Filter.{way_if}
use Rattle.dcm_named.specs.Named.{way_text}
use Rattle.dcm_named.specs.Naming.{outside_text}

more_behind : (f : Outside → List ℕ) (o : Outside) (others : List Outside) → flat_map f (reverse (o ∷ others)) ≡ flat_map f (reverse others) ++ f o
more_behind f o others =
    ap (flat_map f) (reverse_onto others o []) ∙ flat_map-append f (reverse others) (o ∷ []) ∙ ap (λ (z : List ℕ). flat_map f (reverse others) ++ z) (append-nil (f o))

way_flat : (way : List Outside) → way_text (map (λ (o : Outside). o.tag) way) ≡ flat_map outside_text (reverse way)
way_flat [] = refl
way_flat (o ∷ others) =
    ap (λ (z : List ℕ). z ++ outside_text o) (way_flat others)
    ∙ sym (more_behind outside_text o others)

-- of a row whose outermost one stands first
pub way_of : (row : List Outside) → way_text (map (λ (o : Outside). o.tag) (reverse row)) ≡ flat_map outside_text row
way_of row = way_flat (reverse row) ∙ ap (flat_map outside_text) (reverse-reverse row)

-- where it is due
pub way_due : (begins ways : Bool) (way : List Tag) → begins ≡ true → ways ≡ true → way_if (begins && ways) way ≡ way_text way
way_due true true way e f = refl
way_due true false way e f = absurd (cc)
way_due false ways way e f = absurd (cc)
