-- The dump sink before which the filter stands.
use Rattle.std.proofs.Common.{◌≡◌, ◌∙◌, refl, ap, sym, ℕ, ◌≤◌, ◌<◌, length, List, [], ◌∷◌, map, Bool, true, arith}
use Rattle.dcm_base.specs.declared.tag.Tag.{Tag}
use Rattle.dcm_base.specs.declared.vr.Vr.{Vr}
use Rattle.dcm_base.specs.declared.mode.Mode.{Mode}
use Rattle.dcm_base.specs.declared.mode.Mode.TheVariants.{Short}
use Rattle.dcm_base.specs.declared.dictionary.Dictionary.{Dictionary}
use Rattle.dcm_base.specs.declared.length.Length.{Length}
use Rattle.dcm_base.specs.declared.length.Length.TheVariants.{Known}
use Rattle.dcm_base.specs.declared.form.Form.{Form}
use Rattle.dcm_base.specs.declared.form.Form.TheVariants.{Value as a_value, Sequence as a_sequence, FragmentList as a_fragment_list, Nothing as no_form}
use Rattle.dcm_base.specs.declared.syntax.Syntax.{Syntax}
use Rattle.dcm_base.specs.Bytes.Spelling.{form, read_as}
use Rattle.dcm_base.specs.Reading.Stop.{opens_list}
use Rattle.dcm_base.specs.Dump.Dump.{line_start, open_line}
use Rattle.dcm_base.specs.Tables.Representation.{letters}
use Rattle.dcm_base.specs.Tree.Value.{order}
use Rattle.dcm_base.specs.Steps.Atoms.{opens, value_byte}
use Rattle.dcm_base.proofs.Conversions.Order.{length-order}
use Rattle.dcm_text.specs.declared.sets.Sets.{Sets}
use Rattle.dcm_value.specs.Progress.{started, feeds}
use Rattle.dcm_sinks.specs.declared.dump.lines.Owner.TheVariants.{Element}
use Rattle.dcm_sinks.specs.DumpSink.{DumpState, dump_step, dump_writes, dump_opens, deeper, as_before}
use Rattle.dcm_sinks.proofs.Dumps.DataSets.{opening, deepens, trees_dump, open_dump}
use Rattle.dcm_sinks.proofs.Dumps.PassedOver.{all_as_before}
use Rattle.dcm_sinks.proofs.Dumps.ValueBytes.{between}
use Rattle.dcm_sinks.proofs.Dumps.ValueRuns.{dumps, stays}
use Rattle.dcm_sinks.proofs.DecodedDumps.DataSets.{leaf_state, fragment_state}
use Rattle.dcm_named.specs.Named.{Asked, by_bytes}
use Rattle.dcm_named.proofs.Walks.{Meets, leaf_atoms, fragment_atoms}
use Rattle.dcm_named.proofs.NamedSets.{Writes}

abbrev pub asked : List Tag → Bool → Dictionary → Mode → Asked
asked tags ways d mode = record { tags = tags; ways = ways; texts = by_bytes; dictionary = d; mode = mode }

abbrev pub at : Dictionary → Mode → List Length → List Sets → Sets → DumpState
at d mode ls around sets = between d mode ls

pub list_deeper : (s : DumpState) (f : Form) (tag : Tag) (vr : Vr) (declared : Length) (syntax : Syntax) → opens_list f ≡ true → dump_opens f s tag vr declared syntax ≡ deeper s declared
list_deeper s a_value tag vr declared syntax e = absurd (cc)
list_deeper s a_sequence tag vr declared syntax e = refl
list_deeper s a_fragment_list tag vr declared syntax e = refl
list_deeper s no_form tag vr declared syntax e = absurd (cc)

module _ (d : Dictionary) (mode : Mode) where
  pub list_between : (ls : List Length) (tag : Tag) (vr : Vr) (declared : Length) (f : Form) (s : Syntax) → opens_list f ≡ true → length ls < 128 → dump_opens f (between d mode ls) tag vr declared s ≡ between d mode (declared ∷ ls)
  list_between ls tag vr declared f s is h = list_deeper (between d mode ls) f tag vr declared s is ∙ deepens d mode ls declared h

  pub meets : Meets dump_step as_before (at d mode)
  meets = record {
    leaf_left = λ ls around sets tag vr value s e. leaf_state d mode ls around sets tag vr value s e;
    fragment_left = λ ls around sets v. fragment_state d mode ls v;
    list_entered = λ ls around sets tag vr declared s f e is h. ap (λ (x : Form). dump_opens x (between d mode ls) tag vr declared s) e ∙ list_between ls tag vr declared f s is h;
    list_left = λ ls around sets declared. refl;
    item_entered = λ ls around sets declared h k. deepens d mode ls declared h;
    item_left = λ ls around outside sets declared. refl;
    leaf_over = λ around sets tag vr value s e. sym (all_as_before (between d mode []) (leaf_atoms tag vr value s));
    fragment_over = λ around sets v. sym (all_as_before (between d mode []) (fragment_atoms v));
    list_over = λ around sets tag vr declared s f e is. refl;
    list_ends = λ around sets. refl;
    item_over = λ around sets declared h. refl;
    item_ends = λ around outside sets. refl;
  }

  -- in Short nothing goes out of a value before its end
  pub silent : (ls : List Length) (tag : Tag) (vr : Vr) (size : ℕ) (value : List ℕ) (s : Syntax) → mode ≡ Short → form s (read_as s tag vr) (Known size) ≡ a_value → length value ≤ size
      → dumps (between d mode ls) (opens tag vr (Known size) s ∷ map value_byte (order s vr value)) ≡ []
  silent ls tag vr size value s short e le =
      let raw : List ℕ = order s vr value in
      opening d mode ls (form s (read_as s tag vr) (Known size)) a_value tag vr (Known size) s (map value_byte raw) e
      ∙ stays d mode ls (Element tag vr) vr s size raw (omega (arith, le, length-order s vr value))
      ∙ ap (λ (m : Mode). open_line m (line_start (length ls) tag (letters vr)) (feeds (started vr s size mode) raw)) short

  pub writes : (tags : List Tag) (ways : Bool) → Writes dump_step dump_writes (asked tags ways d mode) (at d mode [])
  writes tags ways = record {
    lines = λ m around sets x atoms after ea h w. trees_dump d mode m [] x atoms after (omega arith) h w;
    open_lines = λ m around sets o closed atoms ea h w. open_dump d mode m [] o closed atoms (omega arith) h w;
    silent = λ short around sets tag vr size value s e le. silent [] tag vr size value s short e le;
  }
