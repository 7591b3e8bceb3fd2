-- An element, whole or open, that a dump of texts takes byte by byte.
use Rattle.std.proofs.Common.{◌≡◌, ◌∙◌, ap, sym, refl, ℕ, ◌+◌, ◌<◌, ◌≤◌, List, [], ◌∷◌, ◌++◌, length, map, append_assoc, arith, Bool, true, false}
use Rattle.std.specs.Prelude.{fold}
use Rattle.std.specs.List.{list_all}
use Rattle.std.proofs.lemmas.List.{append-nil}
use Rattle.std.proofs.lemmas.List.Sums.{fold-append}
use Rattle.dcm_lemmas.proofs.Truth.{implied}
use Rattle.dcm_base.proofs.Conversions.OrderLaws.{turned_bytes}
use Rattle.dcm_base.proofs.Writes.Runs.{outputs-append}
use Rattle.dcm_base.specs.declared.tag.Tag.{Tag}
use Rattle.dcm_base.specs.declared.vr.Vr.{Vr}
use Rattle.dcm_base.specs.declared.vr.Vr.TheVariants.{AT, FD, FL, OB, OD, OF, OL, OV, OW, SL, SS, SV, UI, UL, UN, US, UV}
use Rattle.dcm_base.specs.declared.syntax.Syntax.{Syntax}
use Rattle.dcm_base.specs.declared.syntax.Syntax.TheVariants.{Implicit as implicit_in, Little as little_in, Big as big_in}
use Rattle.dcm_base.specs.declared.length.Length.{Length}
use Rattle.dcm_base.specs.declared.length.Length.TheVariants.{Known}
use Rattle.dcm_base.specs.declared.mode.Mode.{Mode}
use Rattle.dcm_base.specs.declared.mode.Mode.TheVariants.{Short, Full}
use Rattle.dcm_base.specs.declared.form.Form.{Form}
use Rattle.dcm_base.specs.declared.form.Form.TheVariants.{Value as a_value, Sequence as a_sequence, FragmentList as a_fragment_list, Nothing as no_form}
use Rattle.dcm_base.specs.Bytes.Spelling.{form, read_as}
use Rattle.dcm_base.specs.Dump.Dump.{line_start, open_line}
use Rattle.dcm_base.specs.Dump.ValueText.{text_of, count, unpadded}
use Rattle.dcm_base.specs.Steps.Atoms.{Atom, opens, value_byte, closes_leaf}
use Rattle.dcm_base.specs.Steps.Steps.{outputs}
use Rattle.dcm_base.specs.Tables.Representation.{letters, unit}
use Rattle.dcm_base.specs.Tree.Value.{order, turned}
use Rattle.dcm_head.specs.declared.head.Head.{Head}
use Rattle.dcm_sinks.proofs.Dumps.DataSets.{open_same}
use Rattle.dcm_stream.specs.Tokens.{whole_atoms, IsLeaf}
use Rattle.dcm_text.specs.declared.sets.Sets.{Sets}
use Rattle.dcm_value.specs.DecodedDisplay.{decoded_text_of, decoded_count, decoded_display, decoded_shortened, decoded_so_far}
use Rattle.dcm_value.specs.DecodedProgress.{DecodedProgress, started, opened, opening_writes, step, writes, feeds, finishes, multiplicity, sets_for}
use Rattle.dcm_value.specs.Plain.{is_ascii_byte}
use Rattle.dcm_value.specs.Whole.{text_in, count_in}
use Rattle.dcm_value.proofs.Displays.DecodedAsBefore.{decoded_as_before, text_plain}
use Rattle.dcm_value.proofs.Displays.DecodedWholes.{decoded_whole, decoded_counts, decoded_text_so_far}
use Rattle.dcm_value.proofs.Displays.TextSteps.{whole_text, whole_count}
use Rattle.dcm_sinks.specs.declared.dump.lines.Owner.{Owner}
use Rattle.dcm_sinks.specs.declared.dump.lines.Owner.TheVariants.{Element}
use Rattle.dcm_sinks.specs.DecodedDump.{is_decoded, text_line}
use Rattle.dcm_sinks.specs.DumpSink.{DumpState, no_value, dump_step, dump_writes, late_start, owner_start}
use Rattle.dcm_sinks.specs.Layout.{line_rest}
use Rattle.dcm_sinks.specs.TextDump.{TextState, text_step, text_writes, text_opens, text_opens_writes, opens_text, is_text, is_as_before, begin_text, begin_text_writes, text_rest}
use Rattle.dcm_sinks.proofs.Dumps.LineParts.{line_in_parts}
use Rattle.dcm_sinks.proofs.Dumps.WholeLines.{line_state, line_bytes}
use Rattle.dcm_sinks.proofs.DecodedDumps.Texts.{opened_seen, opened_size, opened_mode, fold_size, bytes_short, opening_short}
use Rattle.dcm_sinks.proofs.DecodedDumps.TextBytes.{in_text, out_of_text, takes_all, shows_all}

abbrev pub text_dumps : Sets → TextState → List Atom → List ℕ
text_dumps sets s atoms = outputs (text_step sets) (text_writes sets) s atoms

-- without a value that is open
abbrev pub closed_lines : DumpState → DumpState
closed_lines lines = record lines { value = no_value }

-- ---- texts are single bytes

one_unit : (vr : Vr) → is_decoded vr ≡ true → unit vr ≡ 1
one_unit UI e = refl
one_unit UN e = refl
one_unit OB e = refl
one_unit AT e = absurd cc
one_unit FD e = absurd cc
one_unit FL e = absurd cc
one_unit OD e = absurd cc
one_unit OF e = absurd cc
one_unit OL e = absurd cc
one_unit OV e = absurd cc
one_unit OW e = absurd cc
one_unit SL e = absurd cc
one_unit SS e = absurd cc
one_unit SV e = absurd cc
one_unit UL e = absurd cc
one_unit US e = absurd cc
one_unit UV e = absurd cc
one_unit vr e = refl

pub in_order : (s : Syntax) (vr : Vr) (value : List ℕ) → is_decoded vr ≡ true → order s vr value ≡ value
in_order (implicit_in d) vr value e = refl
in_order (little_in d) vr value e = refl
in_order (big_in d) vr value e = ap (λ (k : ℕ). turned k value) (one_unit vr e) ∙ turned_bytes value

-- ---- lines

line_parts : (mode : Mode) (start ow outs fin rest : List ℕ) → (mode ≡ Short → ow ≡ []) → (mode ≡ Short → outs ≡ [])
    → open_line mode start ow ++ (outs ++ (((late_start mode start ++ fin) ++ rest) ++ [])) ≡ start ++ (((ow ++ outs) ++ fin) ++ rest)
line_parts Short start ow outs fin rest f g =
    ap (λ (o : List ℕ). o ++ (((start ++ fin) ++ rest) ++ [])) (g refl)
    ∙ append-nil ((start ++ fin) ++ rest)
    ∙ append_assoc start fin rest
    ∙ sym (ap (λ (o : List ℕ). start ++ ((o ++ fin) ++ rest)) (ap (λ (o : List ℕ). o ++ outs) (f refl) ∙ g refl))
line_parts Full start ow outs fin rest f g =
    ap (λ (z : List ℕ). (start ++ ow) ++ (outs ++ z)) (append-nil (fin ++ rest)) ∙ four start ow outs fin rest
  where
    four : (a b c d e : List ℕ) → (a ++ b) ++ (c ++ (d ++ e)) ≡ a ++ (((b ++ c) ++ d) ++ e)
    four a b c d e = simp append_assoc

open_both : (mode : Mode) (start ow outs : List ℕ) → (mode ≡ Short → outs ≡ []) → open_line mode start ow ++ outs ≡ open_line mode start (ow ++ outs)
open_both Short start ow outs g = g refl
open_both Full start ow outs g = append_assoc start ow outs

-- ---- a text

module _ (sets : Sets) (s : TextState) (owner : Owner) (vr : Vr) (size : ℕ) (v : List ℕ) (fits : length v ≤ size) where
  abbrev fresh : DecodedProgress
  fresh = started vr sets size s.lines.mode

  abbrev first : DecodedProgress
  first = opened fresh

  abbrev last : DecodedProgress
  last = fold step first v

  abbrev start : List ℕ
  start = owner_start (length s.lines.lengths) owner

  abbrev begun : TextState
  begun = in_text (closed_lines s.lines) owner first

  room : first.seen + length v ≤ first.size
  room = omega (arith, opened_seen fresh, opened_size fresh, fits)

  pub keeps_size : (fold step (opened (started vr sets size s.lines.mode)) v).size ≡ size
  keeps_size = fold_size first v ∙ opened_size fresh

  short_opening : s.lines.mode ≡ Short → opening_writes fresh ≡ []
  short_opening e = opening_short fresh e

  short_bytes : s.lines.mode ≡ Short → outputs step writes first v ≡ []
  short_bytes e = bytes_short first v (opened_mode fresh ∙ e)

  -- one that closes
  pub leaves : fold (text_step sets) (begin_text s owner (started vr sets size s.lines.mode)) (map value_byte v ++ closes_leaf ∷ []) ≡ out_of_text (closed_lines s.lines)
  leaves =
      fold-append (text_step sets) begun (map value_byte v) (closes_leaf ∷ [])
      ∙ ap (λ (t : TextState). text_step sets t closes_leaf) (takes_all sets (closed_lines s.lines) owner first v room)

  pub closes : begin_text_writes s owner (started vr sets size s.lines.mode) ++ text_dumps sets (begin_text s owner (started vr sets size s.lines.mode)) (map value_byte v ++ closes_leaf ∷ [])
      ≡ owner_start (length s.lines.lengths) owner
      ++ ((feeds (started vr sets size s.lines.mode) v ++ finishes (fold step (opened (started vr sets size s.lines.mode)) v))
      ++ text_rest s.lines.dictionary owner (fold step (opened (started vr sets size s.lines.mode)) v))
  closes =
      ap (λ (xs : List ℕ). begin_text_writes s owner fresh ++ xs)
      (outputs-append (text_step sets) (text_writes sets) begun (map value_byte v) (closes_leaf ∷ [])
      ∙ ap (λ (xs : List ℕ). xs ++ text_dumps sets (fold (text_step sets) begun (map value_byte v)) (closes_leaf ∷ [])) (shows_all sets (closed_lines s.lines) owner first v room)
      ∙ ap (λ (t : TextState). outputs step writes first v ++ text_dumps sets t (closes_leaf ∷ [])) (takes_all sets (closed_lines s.lines) owner first v room))
      ∙ line_parts s.lines.mode start (opening_writes fresh) (outputs step writes first v) (finishes last) (text_rest s.lines.dictionary owner last) short_opening short_bytes

  -- one that stays open
  pub stays : begin_text_writes s owner (started vr sets size s.lines.mode) ++ text_dumps sets (begin_text s owner (started vr sets size s.lines.mode)) (map value_byte v)
      ≡ open_line s.lines.mode (owner_start (length s.lines.lengths) owner) (feeds (started vr sets size s.lines.mode) v)
  stays =
      ap (λ (xs : List ℕ). begin_text_writes s owner fresh ++ xs) (shows_all sets (closed_lines s.lines) owner first v room)
      ∙ open_both s.lines.mode start (opening_writes fresh) (outputs step writes first v) short_bytes

-- ---- the line of an element

module _ (sets : Sets) (s : TextState) (tag : Tag) (vr : Vr) (syntax : Syntax) (v : List ℕ) where
  abbrev rest : List Atom
  rest = map value_byte v ++ closes_leaf ∷ []

  abbrev element : Owner
  element = Element tag vr

  same_size : length v ≤ length v
  same_size = omega arith

  pub text_leaves : opens_text s tag vr (Known (length v)) syntax ≡ true
      → fold (text_step sets) s (opens tag vr (Known (length v)) syntax ∷ (map value_byte v ++ closes_leaf ∷ [])) ≡ out_of_text (closed_lines s.lines)
  text_leaves e =
      ap (λ (t : Bool). fold (text_step sets) (text_opens t sets s tag vr (Known (length v)) syntax) rest) e
      ∙ leaves sets s element vr (length v) v same_size

  pub text_shown : opens_text s tag vr (Known (length v)) syntax ≡ true
      → text_dumps sets s (opens tag vr (Known (length v)) syntax ∷ (map value_byte v ++ closes_leaf ∷ [])) ≡ text_line s.lines.dictionary s.lines.mode sets (length s.lines.lengths) tag vr v
  text_shown e =
      let d = s.lines.dictionary in
      let level : ℕ = length s.lines.lengths in
      let mode : Mode = s.lines.mode in
      let start : List ℕ = line_start level tag (letters vr) in
      let last : DecodedProgress = fold step (opened (started vr sets (length v) mode)) v in
      ap (λ (t : Bool). text_opens_writes t sets s tag vr (Known (length v)) syntax ++ text_dumps sets (text_opens t sets s tag vr (Known (length v)) syntax) rest) e
      ∙ closes sets s element vr (length v) v same_size
      ∙ ap (λ (z : List ℕ). start ++ (z ++ line_rest d tag (Known last.size) (multiplicity last))) (decoded_whole vr sets mode v)
      ∙ ap (λ (k : ℕ). start ++ (decoded_text_of mode vr sets v ++ line_rest d tag (Known k) (multiplicity last))) (keeps_size sets s element vr (length v) v same_size)
      ∙ ap (λ (k : ℕ). start ++ (decoded_text_of mode vr sets v ++ line_rest d tag (Known (length v)) k)) (decoded_counts vr sets mode v)
      ∙ sym (line_in_parts d level tag (letters vr) (decoded_shortened mode (decoded_display vr sets v)) (Known (length v)) (decoded_count vr sets v))

  pub open_shown : (size : ℕ) → length v < size → opens_text s tag vr (Known size) syntax ≡ true
      → text_dumps sets s (opens tag vr (Known size) syntax ∷ map value_byte v) ≡ open_line s.lines.mode (line_start (length s.lines.lengths) tag (letters vr)) (decoded_so_far vr sets size v)
  open_shown size less e =
      let mode : Mode = s.lines.mode in
      let start : List ℕ = line_start (length s.lines.lengths) tag (letters vr) in
      ap (λ (t : Bool). text_opens_writes t sets s tag vr (Known size) syntax ++ text_dumps sets (text_opens t sets s tag vr (Known size) syntax) (map value_byte v)) e
      ∙ stays sets s element vr size v (omega (arith, less))
      ∙ ap (open_line mode start) (decoded_text_so_far vr sets size mode v less)
      ∙ open_same mode start (decoded_so_far vr sets size v)

-- ---- an element that is no text

pub value_passes : (sets : Sets) (l : DumpState) (v : List ℕ) → fold (text_step sets) (out_of_text l) (map value_byte v ++ closes_leaf ∷ []) ≡ out_of_text (fold dump_step l (map value_byte v ++ closes_leaf ∷ []))
value_passes sets l [] = refl
value_passes sets l (b ∷ v) = value_passes sets (dump_step l (value_byte b)) v

pub value_passed : (sets : Sets) (l : DumpState) (v : List ℕ) → text_dumps sets (out_of_text l) (map value_byte v ++ closes_leaf ∷ []) ≡ outputs dump_step dump_writes l (map value_byte v ++ closes_leaf ∷ [])
value_passed sets l [] = refl
value_passed sets l (b ∷ v) = ap (λ (xs : List ℕ). dump_writes l (value_byte b) ++ xs) (value_passed sets (dump_step l (value_byte b)) v)

module _ (sets : Sets) (s : TextState) (tag : Tag) (vr : Vr) (declared : Length) (syntax : Syntax) (v : List ℕ) where
  abbrev opening : Atom
  opening = opens tag vr declared syntax

  pub passes_whole : opens_text s tag vr declared syntax ≡ false
      → fold (text_step sets) s (opens tag vr declared syntax ∷ (map value_byte v ++ closes_leaf ∷ [])) ≡ out_of_text (fold dump_step s.lines (opens tag vr declared syntax ∷ (map value_byte v ++ closes_leaf ∷ [])))
  passes_whole e =
      ap (λ (t : Bool). fold (text_step sets) (text_opens t sets s tag vr declared syntax) (map value_byte v ++ closes_leaf ∷ [])) e
      ∙ value_passes sets (dump_step s.lines opening) v

  pub passed_whole : opens_text s tag vr declared syntax ≡ false
      → text_dumps sets s (opens tag vr declared syntax ∷ (map value_byte v ++ closes_leaf ∷ [])) ≡ outputs dump_step dump_writes s.lines (opens tag vr declared syntax ∷ (map value_byte v ++ closes_leaf ∷ []))
  passed_whole e =
      ap (λ (t : Bool). text_opens_writes t sets s tag vr declared syntax ++ text_dumps sets (text_opens t sets s tag vr declared syntax) (map value_byte v ++ closes_leaf ∷ [])) e
      ∙ ap (λ (xs : List ℕ). dump_writes s.lines opening ++ xs) (value_passed sets (dump_step s.lines opening) v)

-- ---- a text that is whole

module _ (sets : Sets) (s : TextState) (head : Head) (syntax : Syntax) (v : List ℕ) (leaf : IsLeaf head syntax v) (text : opens_text s head.tag head.vr head.length syntax ≡ true) where
  abbrev whole : Length → List Atom
  whole l = opens head.tag head.vr l syntax ∷ (map value_byte v ++ closes_leaf ∷ [])

  opens_whole : opens_text s head.tag head.vr (Known (length v)) syntax ≡ true
  opens_whole = sym (ap (λ (l : Length). opens_text s head.tag head.vr l syntax) leaf.length_is) ∙ text

  pub whole_leaves : fold (text_step sets) s (whole_atoms head syntax v) ≡ out_of_text (closed_lines s.lines)
  whole_leaves =
      ap (λ (l : Length). fold (text_step sets) s (whole l)) leaf.length_is
      ∙ text_leaves sets s head.tag head.vr syntax v opens_whole

  pub whole_shown : text_dumps sets s (whole_atoms head syntax v)
      ≡ (line_start (length s.lines.lengths) head.tag (letters head.vr) ++ decoded_text_of s.lines.mode head.vr sets v)
      ++ line_rest s.lines.dictionary head.tag head.length (decoded_count head.vr sets v)
  whole_shown =
      let d = s.lines.dictionary in
      let mode : Mode = s.lines.mode in
      let level : ℕ = length s.lines.lengths in
      let vr : Vr = head.vr in
      let start : List ℕ = line_start level head.tag (letters vr) in
      ap (λ (l : Length). text_dumps sets s (whole l)) leaf.length_is
      ∙ text_shown sets s head.tag vr syntax v opens_whole
      ∙ line_in_parts d level head.tag (letters vr) (decoded_shortened mode (decoded_display vr sets v)) (Known (length v)) (decoded_count vr sets v)
      ∙ sym (ap (λ (l : Length). start ++ (decoded_text_of mode vr sets v ++ line_rest d head.tag l (decoded_count vr sets v))) leaf.length_is)
      ∙ sym (append_assoc start (decoded_text_of mode vr sets v) (line_rest d head.tag head.length (decoded_count vr sets v)))

  -- the line that is put together
  pub whole_line : (before line : List ℕ) (n : ℕ) → before ≡ line_start (length s.lines.lengths) head.tag (letters head.vr)
      → line ≡ before ++ decoded_text_of s.lines.mode head.vr sets v → n ≡ decoded_count head.vr sets v
      → line ++ line_rest s.lines.dictionary head.tag head.length n ≡ text_dumps sets s (whole_atoms head syntax v)
  whole_line before line n start shown many =
      let d = s.lines.dictionary in
      let text : List ℕ = decoded_text_of s.lines.mode head.vr sets v in
      ap (λ (z : List ℕ). z ++ line_rest d head.tag head.length n) (shown ∙ ap (λ (z : List ℕ). z ++ text) start)
      ∙ ap (λ (k : ℕ). (line_start (length s.lines.lengths) head.tag (letters head.vr) ++ text) ++ line_rest d head.tag head.length k) many
      ∙ sym whole_shown

-- a leaf of a text opens one
pub leaf_text : (s : TextState) (head : Head) (syntax : Syntax) (v : List ℕ) → IsLeaf head syntax v → is_decoded head.vr ≡ true
    → s.lines.is_lost ≡ false → opens_text s head.tag head.vr head.length syntax ≡ true
leaf_text s head syntax v leaf text live =
    ap (λ (t : Bool). is_text t (form syntax (read_as syntax head.tag head.vr) head.length) head.vr) live
    ∙ ap (λ (f : Form). is_text false f head.vr) leaf.form_is
    ∙ text

-- ---- one that is shown as before

lives : (lost : Bool) (f : Form) (vr : Vr) → is_text lost f vr ≡ true → lost ≡ false
lives true f vr e = absurd cc
lives false f vr e = refl

decodes : (lost : Bool) (f : Form) (vr : Vr) → is_text lost f vr ≡ true → is_decoded vr ≡ true
decodes true f vr e = absurd cc
decodes false a_value vr e = e
decodes false a_sequence vr e = absurd cc
decodes false a_fragment_list vr e = absurd cc
decodes false no_form vr e = absurd cc

module _ (sets : Sets) (s : TextState) (head : Head) (syntax : Syntax) (v : List ℕ) (leaf : IsLeaf head syntax v) (before : is_as_before head.vr v ≡ true) where
  abbrev lost : Bool
  lost = s.lines.is_lost

  abbrev shape : Form
  shape = form syntax (read_as syntax head.tag head.vr) head.length

  abbrev atoms : Length → List Atom
  atoms l = opens head.tag head.vr l syntax ∷ (map value_byte v ++ closes_leaf ∷ [])

  sized : opens_text s head.tag head.vr head.length syntax ≡ true → opens_text s head.tag head.vr (Known (length v)) syntax ≡ true
  sized e = sym (ap (λ (l : Length). opens_text s head.tag head.vr l syntax) leaf.length_is) ∙ e

  pub as_before_step : fold (text_step sets) s (whole_atoms head syntax v) ≡ out_of_text (fold dump_step s.lines (whole_atoms head syntax v))
  as_before_step = by_test (opens_text s head.tag head.vr head.length syntax) refl
    where
      by_test : (t : Bool) → opens_text s head.tag head.vr head.length syntax ≡ t → fold (text_step sets) s (whole_atoms head syntax v) ≡ out_of_text (fold dump_step s.lines (whole_atoms head syntax v))
      by_test false e = passes_whole sets s head.tag head.vr head.length syntax v e
      by_test true e =
          ap (λ (l : Length). fold (text_step sets) s (atoms l)) leaf.length_is
          ∙ text_leaves sets s head.tag head.vr syntax v (sized e)
          ∙ ap out_of_text (line_state s.lines head syntax v (lives lost shape head.vr e) leaf)

  pub as_before_shown : text_dumps sets s (whole_atoms head syntax v) ≡ outputs dump_step dump_writes s.lines (whole_atoms head syntax v)
  as_before_shown = by_test (opens_text s head.tag head.vr head.length syntax) refl
    where
      by_test : (t : Bool) → opens_text s head.tag head.vr head.length syntax ≡ t → text_dumps sets s (whole_atoms head syntax v) ≡ outputs dump_step dump_writes s.lines (whole_atoms head syntax v)
      by_test false e = passed_whole sets s head.tag head.vr head.length syntax v e
      by_test true e =
          let d = s.lines.dictionary in
          let mode : Mode = s.lines.mode in
          let level : ℕ = length s.lines.lengths in
          let vr : Vr = head.vr in
          let start : List ℕ = line_start level head.tag (letters vr) in
          let is : is_decoded vr ≡ true = decodes lost shape vr e in
          let same = decoded_as_before mode vr sets v is (text_plain (sets_for vr sets) (unpadded vr v) (implied (is_decoded vr) (list_all is_ascii_byte (unpadded vr v)) is before)) in
          let text : decoded_text_of mode vr sets v ≡ text_in mode vr syntax v = same.0 ∙ sym (whole_text vr syntax mode v ∙ ap (text_of mode vr) (in_order syntax vr v is)) in
          let many : decoded_count vr sets v ≡ count_in mode vr syntax v = same.1 ∙ sym (whole_count vr syntax mode v ∙ ap (count vr) (in_order syntax vr v is)) in
          ap (λ (l : Length). text_dumps sets s (atoms l)) leaf.length_is
          ∙ text_shown sets s head.tag vr syntax v (sized e)
          ∙ line_in_parts d level head.tag (letters vr) (decoded_shortened mode (decoded_display vr sets v)) (Known (length v)) (decoded_count vr sets v)
          ∙ ap (λ (z : List ℕ). start ++ (z ++ line_rest d head.tag (Known (length v)) (decoded_count vr sets v))) text
          ∙ ap (λ (n : ℕ). start ++ (text_in mode vr syntax v ++ line_rest d head.tag (Known (length v)) n)) many
          ∙ sym (ap (λ (l : Length). start ++ (text_in mode vr syntax v ++ line_rest d head.tag l (count_in mode vr syntax v))) leaf.length_is)
          ∙ sym (append_assoc start (text_in mode vr syntax v) (line_rest d head.tag head.length (count_in mode vr syntax v)))
          ∙ line_bytes s.lines head syntax v (lives lost shape vr e) leaf
