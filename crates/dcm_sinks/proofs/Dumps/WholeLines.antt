-- The line of an element with its whole value.
use Rattle.std.proofs.Common.{◌≡◌, ◌∙◌, ap, sym, refl, ℕ, ◌+◌, ◌≤◌, List, [], ◌∷◌, ◌++◌, length, map, Bool, false, cond, append_assoc, arith}
use Rattle.std.specs.Prelude.{fold}
use Rattle.std.proofs.lemmas.List.{append-nil}
use Rattle.std.proofs.lemmas.List.Sums.{fold-append}
use Rattle.dcm_base.specs.Dump.Dump.{line_start}
use Rattle.dcm_base.specs.Steps.Atoms.{Atom, opens, value_byte, closes_leaf}
use Rattle.dcm_base.specs.Steps.Steps.{outputs}
use Rattle.dcm_base.specs.Tables.Representation.{letters}
use Rattle.dcm_base.specs.declared.form.Form.{Form}
use Rattle.dcm_base.specs.declared.length.Length.{Length}
use Rattle.dcm_base.specs.declared.length.Length.TheVariants.{Known}
use Rattle.dcm_base.specs.declared.mode.Mode.{Mode}
use Rattle.dcm_base.specs.declared.mode.Mode.TheVariants.{Short}
use Rattle.dcm_base.specs.declared.syntax.Syntax.{Syntax}
use Rattle.dcm_base.specs.declared.vr.Vr.{Vr}
use Rattle.dcm_head.specs.declared.head.Head.{Head}
use Rattle.dcm_stream.specs.Tokens.{whole_atoms, IsLeaf}
use Rattle.dcm_stream.specs.Reading.{size_of}
use Rattle.dcm_value.specs.Display.{at_once}
use Rattle.dcm_value.specs.Progress.{Progress, started, opened, adds, step, writes, feeds, finishes, closing, closing_writes, end_writes, multiplicity}
use Rattle.dcm_value.specs.Laws.{after}
use Rattle.dcm_value.specs.Whole.{whole, text_in, count_in}
use Rattle.dcm_sinks.specs.declared.dump.lines.Owner.{Owner}
use Rattle.dcm_sinks.specs.declared.dump.lines.Owner.TheVariants.{Element}
use Rattle.dcm_sinks.specs.DumpSink.{DumpState, no_value, open_value, begin, begin_writes, owner_rest, dump_opens, dump_opens_writes, live_step, live_writes, dump_step, dump_writes}
use Rattle.dcm_sinks.specs.Layout.{line_rest}
use Rattle.dcm_sinks.proofs.Dumps.Brackets.{opened_mode, fold_mode}
use Rattle.dcm_sinks.proofs.Dumps.ValueBytes.{between, within, takes_all}
use Rattle.dcm_sinks.proofs.Dumps.ValueRuns.{closes, keeps_size}

-- ---- in short mode nothing goes out of a value

adds_none : (p : Progress) (bytes : List ℕ) → p.display.mode ≡ Short → outputs step writes p bytes ≡ []
unfolding writes
adds_none p [] e = refl
adds_none p (b ∷ bs) e =
    ap (λ (m : Mode). at_once m (adds p b) ++ outputs step writes (step p b) bs) e ∙ adds_none (step p b) bs (fold_mode p (b ∷ []) ∙ e)

pub feeds_none : (vr : Vr) (syntax : Syntax) (size : ℕ) (value : List ℕ) → feeds (started vr syntax size Short) value ≡ []
feeds_none vr syntax size value = adds_none (opened (started vr syntax size Short)) value (opened_mode (started vr syntax size Short))

pub whole_mode : (vr : Vr) (syntax : Syntax) (value : List ℕ) → (whole vr syntax value).display.mode ≡ Short
whole_mode vr syntax value = fold_mode (opened (started vr syntax (length value) Short)) value ∙ opened_mode (started vr syntax (length value) Short)

pub closing_none : (vr : Vr) (syntax : Syntax) (value : List ℕ) → closing_writes (whole vr syntax value) ≡ []
closing_none vr syntax value = ap (λ (m : Mode). at_once m (closing (whole vr syntax value))) (whole_mode vr syntax value)

finishes_short : (vr : Vr) (syntax : Syntax) (value : List ℕ) → finishes (whole vr syntax value) ≡ end_writes (whole vr syntax value)
unfolding finishes
finishes_short vr syntax value = ap (λ (z : List ℕ). z ++ end_writes (whole vr syntax value)) (closing_none vr syntax value)

-- so in short mode all of it comes in the end
pub short_text : (vr : Vr) (syntax : Syntax) (value : List ℕ) → end_writes (whole vr syntax value) ≡ text_in Short vr syntax value
short_text vr syntax value =
    sym (finishes_short vr syntax value)
    ∙ ap (λ (z : List ℕ). z ++ finishes (whole vr syntax value)) (sym (feeds_none vr syntax (length value) value))

-- ---- an element

module _ (s : DumpState) (head : Head) (syntax : Syntax) (value : List ℕ) (live : s.is_lost ≡ false) (leaf : IsLeaf head syntax value) where
  abbrev opening : Atom
  opening = opens head.tag head.vr head.length syntax

  abbrev owner : Owner
  owner = Element head.tag head.vr

  abbrev fresh : Progress
  fresh = started head.vr syntax (length value) s.mode

  abbrev none : DumpState
  none = between s.dictionary s.mode s.lengths

  abbrev rest : List Atom
  rest = map value_byte value ++ closes_leaf ∷ []

  abbrev begun : Bool → DumpState
  begun lost = record { dictionary = s.dictionary; mode = s.mode; lengths = s.lengths; value = open_value owner (opened fresh); is_lost = lost }

  first_state : dump_step s opening ≡ begin none owner fresh
  first_state =
      ap (λ (t : Bool). cond t s (live_step s opening)) live
      ∙ ap (λ (f : Form). dump_opens f s head.tag head.vr head.length syntax) leaf.form_is
      ∙ ap (λ (l : Length). begin s owner (started head.vr syntax (size_of l) s.mode)) leaf.length_is
      ∙ ap begun live

  first_bytes : dump_writes s opening ≡ begin_writes none owner fresh
  first_bytes =
      ap (λ (t : Bool). cond t [] (live_writes s opening)) live
      ∙ ap (λ (f : Form). dump_opens_writes f s head.tag head.vr head.length syntax) leaf.form_is
      ∙ ap (λ (l : Length). begin_writes s owner (started head.vr syntax (size_of l) s.mode)) leaf.length_is

  room : (opened fresh).seen + length value ≤ (opened fresh).size
  unfolding opened
  room = omega arith

  takes_rest : fold dump_step (within s.dictionary s.mode s.lengths owner (opened fresh)) rest ≡ none
  takes_rest =
      fold-append dump_step (within s.dictionary s.mode s.lengths owner (opened fresh)) (map value_byte value) (closes_leaf ∷ [])
      ∙ ap (λ (t : DumpState). dump_step t closes_leaf) (takes_all s.dictionary s.mode s.lengths owner (opened fresh) value room)

  abbrev ended : Bool → DumpState
  ended lost = record { dictionary = s.dictionary; mode = s.mode; lengths = s.lengths; value = no_value; is_lost = lost }

  -- what it leaves
  pub line_state : record s { value = no_value } ≡ fold dump_step s (whole_atoms head syntax value)
  line_state =
      ap ended live
      ∙ sym takes_rest
      ∙ ap (λ (t : DumpState). fold dump_step t rest) (sym first_state)

  -- and what it writes
  pub line_bytes : (line_start (length s.lengths) head.tag (letters head.vr) ++ text_in s.mode head.vr syntax value) ++ line_rest s.dictionary head.tag head.length (count_in s.mode head.vr syntax value)
      ≡ outputs dump_step dump_writes s (whole_atoms head syntax value)
  line_bytes =
      let last : Progress = after head.vr syntax (length value) s.mode value in
      let start : List ℕ = line_start (length s.lengths) head.tag (letters head.vr) in
      let text : List ℕ = text_in s.mode head.vr syntax value in
      let same : line_rest s.dictionary head.tag head.length (multiplicity last) ≡ owner_rest s.dictionary owner last =
      ap (λ (l : Length). line_rest s.dictionary head.tag l (multiplicity last)) leaf.length_is
      ∙ ap (λ (n : ℕ). line_rest s.dictionary head.tag (Known n) (multiplicity last)) (sym (keeps_size s.dictionary s.mode s.lengths owner head.vr syntax (length value) value (omega arith)))
      in
      let behind : List ℕ = owner_rest s.dictionary owner last in
      ap (λ (z : List ℕ). (start ++ text) ++ z) same
      ∙ append_assoc start text behind
      ∙ ap (λ (z : List ℕ). start ++ (text ++ z)) (sym (append-nil behind))
      ∙ sym (closes s.dictionary s.mode s.lengths owner head.vr syntax (length value) value (omega arith) [])
      ∙ ap (λ (z : List ℕ). z ++ outputs dump_step dump_writes (begin none owner fresh) rest) (sym first_bytes)
      ∙ ap (λ (t : DumpState). dump_writes s opening ++ outputs dump_step dump_writes t rest) (sym first_state)
