-- The dump sink of texts by characters before which the filter stands.
use Rattle.std.proofs.Common.{◌≡◌, ◌∙◌, refl, ap, sym, ℕ, ◌≤◌, length, List, [], ◌∷◌, ◌++◌, map, Bool, true, false, arith}
use Rattle.std.specs.Prelude.{fold, if◌then◌else◌}
use Rattle.dcm_base.specs.declared.tag.Tag.{Tag}
use Rattle.dcm_base.specs.declared.vr.Vr.{Vr}
use Rattle.dcm_base.specs.declared.mode.Mode.{Mode}
use Rattle.dcm_base.specs.declared.mode.Mode.TheVariants.{Short}
use Rattle.dcm_base.specs.declared.dictionary.Dictionary.{Dictionary}
use Rattle.dcm_base.specs.declared.length.Length.{Length}
use Rattle.dcm_base.specs.declared.length.Length.TheVariants.{Known}
use Rattle.dcm_base.specs.declared.form.Form.{Form}
use Rattle.dcm_base.specs.declared.form.Form.TheVariants.{Value as a_value, Sequence as a_sequence, FragmentList as a_fragment_list, Nothing as no_form}
use Rattle.dcm_base.specs.declared.syntax.Syntax.{Syntax}
use Rattle.dcm_base.specs.Bytes.Spelling.{form, read_as}
use Rattle.dcm_base.specs.Reading.Stop.{opens_list}
use Rattle.dcm_base.specs.Dump.Dump.{line_start, open_line}
use Rattle.dcm_base.specs.Tables.Representation.{letters}
use Rattle.dcm_base.specs.Tree.Value.{order}
use Rattle.dcm_base.specs.Steps.Atoms.{Atom, opens, value_byte, closes_leaf, opens_item, closes_item, closes_sequence, opens_fragment, ends}
use Rattle.dcm_base.specs.Steps.Steps.{outputs}
use Rattle.dcm_text.specs.declared.sets.Sets.{Sets}
use Rattle.dcm_value.specs.DecodedProgress.{started, feeds}
use Rattle.dcm_sinks.specs.declared.dump.lines.Owner.TheVariants.{Element}
use Rattle.dcm_sinks.specs.DumpSink.{dump_step, dump_writes}
use Rattle.dcm_sinks.specs.SettingValue.{ForceState, force_step, opens_setting, with_setting, setting_opened}
use Rattle.dcm_sinks.specs.TextDump.{TextState, is_text, text_opens, text_opens_writes, text_step, text_writes}
use Rattle.dcm_sinks.specs.DecodedDump.{is_decoded}
use Rattle.dcm_sinks.specs.DecodedSink.{DecodedState, decoded_step, decoded_writes, passed_over}
use Rattle.dcm_sinks.proofs.Dumps.DataSets.{deepens}
use Rattle.dcm_sinks.proofs.Dumps.ValueBytes.{between}
use Rattle.dcm_sinks.proofs.DecodedDumps.DataSets.{side, at, plain, plain_step, same_side, leaf_step, fragment_left, list_step, enters, reads_text, bytes_passed, trees_decoded, open_decoded}
use Rattle.dcm_sinks.proofs.DecodedDumps.Pairs.{decoded_dumps, bytes_shown}
use Rattle.dcm_sinks.proofs.DecodedDumps.PassedOver.{force_goes_on}
use Rattle.dcm_sinks.proofs.DecodedDumps.Settings.{force_at, leaf_force, bytes_force}
use Rattle.dcm_sinks.proofs.DecodedDumps.TextBytes.{out_of_text}
use Rattle.dcm_sinks.proofs.DecodedDumps.TextRuns.{in_order, stays}
use Rattle.dcm_sinks.specs.InForce.{sets_after}
use Rattle.dcm_named.specs.Filter.{Place, shows, next}
use Rattle.dcm_named.specs.Named.{Asked, by_characters, lines_of}
use Rattle.dcm_named.specs.NamedSink.{named_step, named_writes}
use Rattle.dcm_named.proofs.Walks.{Meets, leaf_atoms, fragment_atoms}
use Rattle.dcm_named.proofs.NamedSets.{Writes}
use Rattle.dcm_named.proofs.Plain.{list_between, silent as plain_silent}

abbrev pub asked : List Tag → Bool → Dictionary → Mode → Asked
asked tags ways d mode = record { tags = tags; ways = ways; texts = by_characters; dictionary = d; mode = mode }

-- a list is no text, and sets nothing
list_no_text : (f : Form) (vr : Vr) → opens_list f ≡ true → is_text false f vr ≡ false
list_no_text a_value vr e = absurd (cc)
list_no_text a_sequence vr e = refl
list_no_text a_fragment_list vr e = refl
list_no_text no_form vr e = refl

list_no_setting : (f : Form) (tag : Tag) (vr : Vr) → opens_list f ≡ true → opens_setting f tag vr ≡ false
list_no_setting a_value tag vr e = absurd (cc)
list_no_setting a_sequence tag vr e = refl
list_no_setting a_fragment_list tag vr e = refl
list_no_setting no_form tag vr e = refl

-- ---- what was named that is not known has no influence on lines

-- a step that does not keep it
abbrev pub quiet : DecodedState → Atom → DecodedState
quiet s a = plain (decoded_step s a)

abbrev pub quiet_over : DecodedState → Atom → DecodedState
quiet_over s a = plain (passed_over s a)

over_step : (s : DecodedState) (a : Atom) → plain (passed_over (plain s) a) ≡ plain (passed_over s a)
over_step s (opens tag vr declared y) = refl
over_step s (value_byte b) = refl
over_step s closes_leaf = refl
over_step s (opens_item declared) = refl
over_step s closes_item = refl
over_step s closes_sequence = refl
over_step s (opens_fragment size) = refl
over_step s ends = refl

fold_quiet : (s : DecodedState) (atoms : List Atom) → fold quiet (plain s) atoms ≡ plain (fold decoded_step s atoms)
fold_quiet s [] = refl
fold_quiet s (a ∷ atoms) = ap (λ (x : DecodedState). fold quiet x atoms) (plain_step s a) ∙ fold_quiet (decoded_step s a) atoms

fold_quiet_over : (s : DecodedState) (atoms : List Atom) → fold quiet_over (plain s) atoms ≡ plain (fold passed_over s atoms)
fold_quiet_over s [] = refl
fold_quiet_over s (a ∷ atoms) = ap (λ (x : DecodedState). fold quiet_over x atoms) (over_step s a) ∙ fold_quiet_over (passed_over s a) atoms

quiet_dumps : (s : DecodedState) (atoms : List Atom) → outputs quiet decoded_writes (plain s) atoms ≡ decoded_dumps s atoms
quiet_dumps s [] = refl
quiet_dumps s (a ∷ atoms) =
    ap (λ (xs : List ℕ). decoded_writes s a ++ xs) (ap (λ (x : DecodedState). outputs quiet decoded_writes x atoms) (plain_step s a) ∙ quiet_dumps (decoded_step s a) atoms)

either_step : (b : Bool) (s : DecodedState) (a : Atom) → plain (if b then decoded_step s a else passed_over s a) ≡ (if b then quiet (plain s) a else quiet_over (plain s) a)
either_step true s a = sym (plain_step s a)
either_step false s a = sym (over_step s a)

-- the filter writes the same of both
pub quietly : (p : Place) (s : DecodedState) (atoms : List Atom)
    → outputs (named_step decoded_step passed_over) (named_writes decoded_writes) (p, s) atoms ≡ outputs (named_step quiet quiet_over) (named_writes decoded_writes) (p, plain s) atoms
quietly p s [] = refl
quietly p s (a ∷ atoms) =
    ap (λ (xs : List ℕ). named_writes decoded_writes (p, s) a ++ xs)
    (quietly (next p a) (if shows p a then decoded_step s a else passed_over s a) atoms
    ∙ ap (λ (x : DecodedState). outputs (named_step quiet quiet_over) (named_writes decoded_writes) (next p a, x) atoms) (either_step (shows p a) s a))

module _ (d : Dictionary) (mode : Mode) where
  forced : (around : List Sets) (sets : Sets) (atoms : List Atom) (f : ForceState) → fold force_step (force_at sets around) atoms ≡ f
      → fold passed_over (at d mode [] around sets) atoms ≡ side (out_of_text (between d mode [])) f
  forced around sets atoms f e = sym (force_goes_on (at d mode [] around sets) atoms) ∙ ap (side (out_of_text (between d mode []))) e

  list_forced : (around : List Sets) (sets : Sets) (tag : Tag) (vr : Vr) (declared : Length) (s : Syntax) (f : Form) → form s (read_as s tag vr) declared ≡ f → opens_list f ≡ true
      → passed_over (at d mode [] around sets) (opens tag vr declared s) ≡ at d mode [] around sets
  list_forced around sets tag vr declared s f e is =
      ap (λ (x : Form). side (out_of_text (between d mode [])) (with_setting (force_at sets around) (setting_opened (opens_setting x tag vr)))) e
      ∙ ap (λ (t : Bool). side (out_of_text (between d mode [])) (with_setting (force_at sets around) (setting_opened t))) (list_no_setting f tag vr is)

  over_forced : (around : List Sets) (sets : Sets) (atoms : List Atom) (f : ForceState) → fold force_step (force_at sets around) atoms ≡ f
      → fold quiet_over (at d mode [] around sets) atoms ≡ plain (side (out_of_text (between d mode [])) f)
  over_forced around sets atoms f e = fold_quiet_over (at d mode [] around sets) atoms ∙ ap plain (forced around sets atoms f e)

  pub meets : Meets quiet quiet_over (at d mode)
  meets = record {
    leaf_left = λ ls around sets tag vr value s e. fold_quiet (at d mode ls around sets) (leaf_atoms tag vr value s) ∙ ap plain (leaf_step d mode ls around sets tag vr value s e);
    fragment_left = λ ls around sets v. fold_quiet (at d mode ls around sets) (fragment_atoms v) ∙ ap plain (fragment_left d mode ls around sets v);
    list_entered = λ ls around sets tag vr declared s f e is h.
        ap plain (list_step d mode ls around sets tag vr declared s f e (list_no_text f vr is) (list_no_setting f tag vr is) (list_between d mode ls tag vr declared f s is h));
    list_left = λ ls around sets declared. refl;
    item_entered = λ ls around sets declared h k. ap plain (same_side _ _ _ _ (deepens d mode ls declared h) (ap (λ (x : List Sets). force_at sets x) (enters d mode sets around k)));
    item_left = λ ls around outside sets declared. refl;
    leaf_over = λ around sets tag vr value s e. over_forced around sets (leaf_atoms tag vr value s) _ (leaf_force false sets around tag vr value s e);
    fragment_over = λ around sets v. over_forced around sets (fragment_atoms v) _ (bytes_force false sets around v);
    list_over = λ around sets tag vr declared s f e is. ap plain (list_forced around sets tag vr declared s f e is);
    list_ends = λ around sets. refl;
    item_over = λ around sets declared h. ap (λ (x : List Sets). side (out_of_text (between d mode [])) (force_at sets x)) (enters d mode sets around h);
    item_ends = λ around outside sets. refl;
  }

  -- in Short nothing goes out of a value before its end
  silent_case : (t : Bool) (around : List Sets) (sets : Sets) (tag : Tag) (vr : Vr) (size : ℕ) (value : List ℕ) (s : Syntax) → is_decoded vr ≡ t → mode ≡ Short → form s (read_as s tag vr) (Known size) ≡ a_value → length value ≤ size
      → decoded_dumps (at d mode [] around sets) (opens tag vr (Known size) s ∷ map value_byte (order s vr value)) ≡ []
  silent_case true around sets tag vr size value s is short e le =
      let a : Atom = opens tag vr (Known size) s in
      let st : TextState = out_of_text (between d mode []) in
      ap (λ (v : List ℕ). decoded_dumps (at d mode [] around sets) (a ∷ map value_byte v)) (in_order s vr value is)
      ∙ ap (λ (xs : List ℕ). decoded_writes (at d mode [] around sets) a ++ xs) (sym (bytes_shown (decoded_step (at d mode [] around sets) a) value))
      ∙ ap (λ (t : Bool). text_opens_writes t sets st tag vr (Known size) s ++ outputs (text_step sets) (text_writes sets) (text_opens t sets st tag vr (Known size) s) (map value_byte value)) (reads_text d mode [] tag vr (Known size) s true e is)
      ∙ stays sets st (Element tag vr) vr size value le
      ∙ ap (λ (m : Mode). open_line m (line_start 0 tag (letters vr)) (feeds (started vr sets size mode) value)) short
  silent_case false around sets tag vr size value s is short e le =
      let a : Atom = opens tag vr (Known size) s in
      let st : TextState = out_of_text (between d mode []) in
      let force : ForceState = force_step (force_at sets around) a in
      ap (λ (x : Bool). text_opens_writes x sets st tag vr (Known size) s ++ decoded_dumps (side (text_opens x sets st tag vr (Known size) s) force) (map value_byte (order s vr value))) (reads_text d mode [] tag vr (Known size) s false e is)
      ∙ ap (λ (xs : List ℕ). dump_writes (between d mode []) a ++ xs) (bytes_passed d mode (dump_step (between d mode []) a) force (order s vr value))
      ∙ plain_silent d mode [] tag vr size value s short e le

  pub writes : (tags : List Tag) (ways : Bool) → Writes quiet decoded_writes (asked tags ways d mode) (at d mode [])
  writes tags ways = record {
    lines = λ m around sets x atoms after ea h w.
        quiet_dumps (at d mode [] around sets) atoms
        ∙ trees_decoded d mode m [] around sets x atoms after (omega arith) ea h w
        ∙ ap (λ (z : List ℕ). lines_of (asked tags ways d mode) sets x ++ z) (sym (quiet_dumps (at d mode [] around (sets_after sets x)) after));
    open_lines = λ m around sets o closed atoms ea h w.
        quiet_dumps (at d mode [] around sets) atoms ∙ open_decoded d mode m [] around sets o closed atoms (omega arith) ea h w;
    silent = λ short around sets tag vr size value s e le.
        quiet_dumps (at d mode [] around sets) (opens tag vr (Known size) s ∷ map value_byte (order s vr value)) ∙ silent_case (is_decoded vr) around sets tag vr size value s refl short e le;
  }
