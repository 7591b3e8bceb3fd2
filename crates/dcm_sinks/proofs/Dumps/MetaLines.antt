-- The lines of a meta group's elements, one after another.
use Rattle.std.proofs.Common.{◌≡◌, ◌∙◌, ℕ, List, [], ◌∷◌, ◌++◌, length, map, Option, Result, Ok, Err, refl, ap, sym, subst, append_assoc}
use Rattle.std.specs.Prelude.{IsErr}
use Rattle.std.proofs.lemmas.List.{append-nil}
use Rattle.std.specs.Io.KnownBytes.{append_known}
use Rattle.dcm_lemmas.proofs.Options.{known_twice}
use Rattle.dcm_base.specs.declared.tag.Tag.{Tag}
use Rattle.dcm_base.specs.declared.vr.Vr.{Vr}
use Rattle.dcm_base.specs.declared.mode.Mode.{Mode}
use Rattle.dcm_base.specs.declared.form.Form.TheVariants.{Value as a_value}
use Rattle.dcm_base.specs.declared.length.Length.TheVariants.{Known}
use Rattle.dcm_base.specs.Tables.Syntax.{Little}
use Rattle.dcm_base.specs.Tree.Tree.{Trees, no_tree, leaf}
use Rattle.dcm_base.specs.Bytes.Spelling.{Spells, form, TreesAt}
use Rattle.dcm_base.specs.File.MetaGroup.{AreMeta}
use Rattle.dcm_base.specs.Steps.Atoms.{Atom, opens, value_byte, closes_leaf}
use Rattle.dcm_base.specs.Dump.Dump.{leaf_line, dump_set}
use Rattle.dcm_devices.specs.Device.{Puts, AppendsFront}
use Rattle.dcm_base.specs.Steps.Steps.{Goes}
use Rattle.dcm_devices.proofs.Writes.Puts.{front_longer, puts_behind, puts_err}
use Rattle.dcm_base.specs.declared.dictionary.Dictionary.{Dictionary}
use Rattle.dcm_head.specs.Rewriting.{FirstIs, NoneIs}
use Rattle.dcm_sinks.specs.DumpSink.{DumpState, dump_start, dump_step, dump_writes}
use Rattle.dcm_sinks.proofs.Dumps.ValueRuns.{dumps}
use Rattle.dcm_sinks.proofs.Dumps.DataSets.{leaf_dumps}

-- the atoms of an element make its line
pub leaf_line_of : (d : Dictionary) (mode : Mode) (tag : Tag) (vr : Vr) (value : List ℕ) (first : DumpState) (atoms : List Atom) → form Little vr (Known (length value)) ≡ a_value
    → first ≡ dump_start d mode → atoms ≡ opens tag vr (Known (length value)) Little ∷ (map value_byte value ++ closes_leaf ∷ []) → dumps first atoms ≡ leaf_line d mode 0 tag vr value
leaf_line_of d mode tag vr value first atoms f starts are =
    ap (λ (xs : List Atom). dumps first xs) are
    ∙ ap (λ (s : DumpState). dumps s (opens tag vr (Known (length value)) Little ∷ (map value_byte value ++ closes_leaf ∷ []))) starts
    ∙ leaf_dumps d mode [] tag vr value Little [] f
    ∙ append-nil (leaf_line d mode 0 tag vr value)

-- and a sink that takes them puts it
pub line_put : {T E : Type 0} (d : Dictionary) (mode : Mode) (tag : Tag) (vr : Vr) (value : List ℕ) (first last : DumpState) (old new : Option (List ℕ)) (atoms : List Atom) (r : Result T E) → form Little vr (Known (length value)) ≡ a_value
    → first ≡ dump_start d mode → atoms ≡ opens tag vr (Known (length value)) Little ∷ (map value_byte value ++ closes_leaf ∷ [])
    → Goes dump_step dump_writes first old last new atoms r → Puts old new (leaf_line d mode 0 tag vr value) r
line_put d mode tag vr value first last old new atoms (Ok x) f starts are went = went.1 ∙ ap (append_known old) (leaf_line_of d mode tag vr value first atoms f starts are)
line_put d mode tag vr value first last old new atoms (Err x) f starts are went = subst (AppendsFront old new) (leaf_line_of d mode tag vr value first atoms f starts are) went

-- these bytes are left of the spelling of all elements, and the lines of those before them are gone
pub record Left (d : Dictionary) (mode : Mode) (rest : List ℕ) (all : Trees) : Type 0 where
  pub elements : Trees
  pub spelled : Spells Little elements rest
  pub meta : AreMeta elements
  pub gone : List ℕ
  pub whole : gone ++ dump_set d mode 0 elements ≡ dump_set d mode 0 all

abbrev pub left_all : (d : Dictionary) (mode : Mode) (group : List ℕ) (all : Trees) → Spells Little all group → AreMeta all → Left d mode group all
left_all d mode group all s m = record { elements = all; spelled = s; meta = m; gone = []; whole = refl }

pub set_step : (d : Dictionary) (mode : Mode) (tag : Tag) (vr : Vr) (value : List ℕ) (rest : Trees) → dump_set d mode 0 (leaf tag vr value rest) ≡ leaf_line d mode 0 tag vr value ++ dump_set d mode 0 rest
unfolding dump_set
set_step d mode tag vr value rest = refl

set_none : (d : Dictionary) (mode : Mode) → dump_set d mode 0 no_tree ≡ []
unfolding dump_set
set_none d mode = refl

leaf_form : (tag : Tag) (vr : Vr) (value : List ℕ) (rest : Trees) (bytes after : List ℕ) → TreesAt Little (leaf tag vr value rest) bytes after → form Little vr (Known (length value)) ≡ a_value
unfolding TreesAt
leaf_form tag vr value rest bytes after t = t.1

-- the element that stands first has a value
pub first_form : (d : Dictionary) (mode : Mode) (rest : List ℕ) (all : Trees) (tag : Tag) (vr : Vr) (value after : List ℕ) → Left d mode rest all → FirstIs rest tag vr value after → form Little vr (Known (length value)) ≡ a_value
first_form d mode rest all tag vr value after l first =
    let one = first.2 l.elements l.spelled l.meta in
    leaf_form tag vr value one.0 rest [] (subst (λ (x : Trees). Spells Little x rest) one.1 l.spelled)

-- one element more is gone
abbrev pub left_more : (d : Dictionary) (mode : Mode) (rest : List ℕ) (all : Trees) (tag : Tag) (vr : Vr) (value after : List ℕ) → Left d mode rest all → FirstIs rest tag vr value after → Left d mode after all
left_more d mode rest all tag vr value after l first =
    let one = first.2 l.elements l.spelled l.meta in
    record {
      elements = one.0;
      spelled = one.2;
      meta = one.3;
      gone = l.gone ++ leaf_line d mode 0 tag vr value;
      whole =
          append_assoc l.gone (leaf_line d mode 0 tag vr value) (dump_set d mode 0 one.0)
          ∙ ap (λ (x : List ℕ). l.gone ++ x) (sym (set_step d mode tag vr value one.0))
          ∙ ap (λ (x : Trees). l.gone ++ dump_set d mode 0 x) (sym one.1)
          ∙ l.whole;
    }

-- with its line
pub gone_more : (old mid new : Option (List ℕ)) (gone line : List ℕ) → mid ≡ append_known old gone → new ≡ append_known mid line → new ≡ append_known old (gone ++ line)
gone_more old mid new gone line went one = one ∙ ap (λ known. append_known known line) went ∙ known_twice old gone line

-- all are gone
pub left_none : (d : Dictionary) (mode : Mode) (rest : List ℕ) (all : Trees) → (l : Left d mode rest all) → NoneIs rest → l.gone ≡ dump_set d mode 0 all
left_none d mode rest all l none =
    let empty = none l.elements l.spelled l.meta in
    sym (append-nil l.gone) ∙ ap (λ (x : List ℕ). l.gone ++ x) (sym (set_none d mode)) ∙ ap (λ (x : Trees). l.gone ++ dump_set d mode 0 x) (sym empty) ∙ l.whole

-- what went out before a failure is a beginning of all
pub failed_at : {T E : Type 0} (d : Dictionary) (mode : Mode) (old mid new : Option (List ℕ)) (rest : List ℕ) (all : Trees) (tag : Tag) (vr : Vr) (value after : List ℕ) (r : Result T E)
    → (l : Left d mode rest all) → FirstIs rest tag vr value after → mid ≡ append_known old l.gone → AppendsFront mid new (leaf_line d mode 0 tag vr value) → IsErr r
    → Puts old new (dump_set d mode 0 all) r
failed_at {T} {E} d mode old mid new rest all tag vr value after r l first went front failed =
    let one = first.2 l.elements l.spelled l.meta in
    let more : dump_set d mode 0 all ≡ l.gone ++ (leaf_line d mode 0 tag vr value ++ dump_set d mode 0 one.0) =
    sym l.whole ∙ ap (λ (x : Trees). l.gone ++ dump_set d mode 0 x) one.1 ∙ ap (λ (x : List ℕ). l.gone ++ x) (set_step d mode tag vr value one.0) in
    puts_err old new (dump_set d mode 0 all) r failed
    (subst (AppendsFront old new) (sym more) (puts_behind {T = ℕ} {E = ℕ} old mid new l.gone (leaf_line d mode 0 tag vr value ++ dump_set d mode 0 one.0) (Err 0) went (front_longer (dump_set d mode 0 one.0) front)))
