-- The lines of the named elements of a meta group.
use Rattle.std.proofs.Common.{◌≡◌, ◌∙◌, ap, subst, ℕ, Bool, List, [], arith, Option, Result}
use Rattle.std.proofs.lemmas.List.{append-nil}
use Rattle.dcm_base.specs.declared.tag.Tag.{Tag}
use Rattle.dcm_base.specs.declared.mode.Mode.{Mode}
use Rattle.dcm_base.specs.declared.dictionary.Dictionary.{Dictionary}
use Rattle.dcm_base.specs.Tables.Syntax.{Little}
use Rattle.dcm_base.specs.Tree.Tree.{Trees}
use Rattle.dcm_base.specs.Bytes.Spelling.{Spells}
use Rattle.dcm_base.specs.File.MetaGroup.{AreMeta}
use Rattle.dcm_devices.specs.Device.{Puts}
use Rattle.dcm_base.specs.Steps.Steps.{outputs}
use Rattle.dcm_sinks.specs.DecodedSink.{DecodedState, decoded_start, decoded_step, decoded_writes, passed_over}
use Rattle.dcm_sinks.specs.DumpSink.{DumpState, dump_start, dump_step, dump_writes, as_before}
use Rattle.dcm_sinks.specs.InForce.{EMPTY}
use Rattle.dcm_sinks.proofs.DecodedDumps.DataSets as decoded
use Rattle.dcm_named.specs.Filter.{place_start}
use Rattle.dcm_named.specs.Laws.{asked, written}
use Rattle.dcm_named.specs.Meta.{meta_atoms}
use Rattle.dcm_named.specs.Named.{Texts, by_bytes, by_characters, named_set}
use Rattle.dcm_named.specs.NamedSink.{named_step, named_writes}
use Rattle.dcm_named.proofs.MetaAtoms.{meta_shallow, meta_shown}
use Rattle.dcm_named.proofs.NamedSets.{trees_named}
use Rattle.dcm_named.proofs.Plain as plain
use Rattle.dcm_named.proofs.Characters as characters

pub meta_written : (texts : Texts) (tags : List Tag) (ways : Bool) (d : Dictionary) (mode : Mode) (x : Trees) (bytes : List ℕ) → Spells Little x bytes → AreMeta x
    → written texts tags ways d mode (meta_atoms x) ≡ named_set (asked texts tags ways d mode) EMPTY [] x
meta_written by_bytes tags ways d mode x bytes s m =
    trees_named dump_step as_before dump_writes (plain.at d mode) (asked by_bytes tags ways d mode) (plain.meets d mode) (plain.writes d mode tags ways) x 0 [] [] EMPTY (meta_atoms x) [] (omega arith) (omega arith) (meta_shallow x bytes s m) (meta_shown x bytes s)
    ∙ append-nil (named_set (asked by_bytes tags ways d mode) EMPTY [] x)
meta_written by_characters tags ways d mode x bytes s m =
    characters.quietly (place_start tags ways mode) (decoded_start d mode) (meta_atoms x)
    ∙ trees_named characters.quiet characters.quiet_over decoded_writes (decoded.at d mode) (asked by_characters tags ways d mode) (characters.meets d mode) (characters.writes d mode tags ways) x 0 [] [] EMPTY (meta_atoms x) [] (omega arith) (omega arith) (meta_shallow x bytes s m) (meta_shown x bytes s)
    ∙ append-nil (named_set (asked by_characters tags ways d mode) EMPTY [] x)

-- and a sink that starts puts them
pub plain_put : {A E : Type 0} (tags : List Tag) (ways : Bool) (d : Dictionary) (mode : Mode) (x : Trees) (bytes : List ℕ) (first : DumpState) (held holds : Option (List ℕ)) (r : Result A E) → Spells Little x bytes → AreMeta x → first ≡ dump_start d mode
    → Puts held holds (outputs (named_step dump_step as_before) (named_writes dump_writes) (place_start tags ways mode, first) (meta_atoms x)) r → Puts held holds (named_set (asked by_bytes tags ways d mode) EMPTY [] x) r
plain_put tags ways d mode x bytes first held holds r s m e went =
    subst (λ (z : List ℕ). Puts held holds z r) (ap (λ (f : DumpState). outputs (named_step dump_step as_before) (named_writes dump_writes) (place_start tags ways mode, f) (meta_atoms x)) e ∙ meta_written by_bytes tags ways d mode x bytes s m) went

pub decoded_put : {A E : Type 0} (tags : List Tag) (ways : Bool) (d : Dictionary) (mode : Mode) (x : Trees) (bytes : List ℕ) (first : DecodedState) (held holds : Option (List ℕ)) (r : Result A E) → Spells Little x bytes → AreMeta x → first ≡ decoded_start d mode
    → Puts held holds (outputs (named_step decoded_step passed_over) (named_writes decoded_writes) (place_start tags ways mode, first) (meta_atoms x)) r → Puts held holds (named_set (asked by_characters tags ways d mode) EMPTY [] x) r
decoded_put tags ways d mode x bytes first held holds r s m e went =
    subst (λ (z : List ℕ). Puts held holds z r) (ap (λ (f : DecodedState). outputs (named_step decoded_step passed_over) (named_writes decoded_writes) (place_start tags ways mode, f) (meta_atoms x)) e ∙ meta_written by_characters tags ways d mode x bytes s m) went
