-- What dumps and a table leave of their output, over any system, grew by valid UTF-8.
use Rattle.std.proofs.Common.{◌≡◌, ◌∙◌, ap, sym, subst, ℕ, List, [], ◌++◌, append-nil, map, true, Option, Some, None, Result, Ok, Err}
use Rattle.std.specs.Prelude.{IsUtf8, unwrap_or}
use Rattle.std.specs.Io.KnownBytes.{append_known}
use Rattle.std.proofs.lemmas.Str.{IsUtf8-nil}
use Rattle.dcm_cli.proofs.Passes.Readers.{allows_nothing}
use Rattle.dcm_lemmas.proofs.Options.{known_nothing, known_twice}
use Rattle.dcm_base.specs.declared.dictionary.Dictionary.{Dictionary}
use Rattle.dcm_base.specs.declared.mode.Mode.{Mode}
use Rattle.dcm_base.specs.declared.syntax.Syntax.{Syntax}
use Rattle.dcm_base.specs.declared.tag.Tag.{Tag}
use Rattle.dcm_base.proofs.DumpsBack.Numbers.{Bytes-append}
use Rattle.dcm_base.proofs.DumpsBack.Texts.{Bytes, bytes_of}
use Rattle.dcm_devices.specs.declared.device.WriteFailed.{WriteFailed}
use Rattle.dcm_devices.specs.Device.{Gave, no_calls, and_call}
use Rattle.dcm_devices.specs.Writing.{Writer}
use Rattle.dcm_files.specs.declared.opened.Opened.{Opened}
use Rattle.dcm_files.specs.Devices.{MayDo}
use Rattle.dcm_names.specs.Names.{can_be_opened}
use Rattle.dcm_sinks.proofs.ReadBack.Sources.{a_byte}
use Rattle.dcm_table.specs.declared.column.Column.{Column}
use Rattle.dcm_words.specs.Words.{Job, dump_decoded}
use Rattle.dcm_cli.specs.declared.ending.Verdict.{Verdict}
use Rattle.dcm_cli.specs.Answer.{Sure}
use Rattle.dcm_cli.specs.Calls.{Reader}
use Rattle.dcm_cli.specs.Change.{Change}
use Rattle.dcm_cli.specs.InputCalls.{How, InputCalls, no_call, last_call}
use Rattle.dcm_cli.specs.Run.{Answered, AnsweredAll}
use Rattle.dcm_dumps.specs.Dumps.{DoesDump, Manner, Shown, ShowsFile, dumps_into, headed, is_output, next_heading, next_number, not_flushed, not_headed, not_written, nothing_shown, shown, unread}
use Rattle.dcm_dumps.specs.Words.{total_of}
use Rattle.dcm_tables.specs.Deciding.{row_unread, row_unwritten, row_written}
use Rattle.dcm_tables.specs.Table as tables
use Rattle.dcm_tables.specs.Table.{header_bytes, rows_into}
use Rattle.dcm_tables.specs.TableProgram.{column_of, form_of}
use Rattle.dcm_tables.proofs.RowBytes.{rows_valid}
use Rattle.dcm_text_laws.specs.Left.{DumpGrowsByUtf8, DumpsGrowByUtf8, GivesBytes, GrewByUtf8, HeaderIsUtf8, RowGrowsByUtf8, TableGrowsByUtf8}
use Rattle.dcm_text_laws.proofs.Dumps.{heading_utf8}
use Rattle.dcm_text_laws.proofs.Grown.{all_grow}
use Rattle.dcm_text_laws.proofs.Lines.{both}
use Rattle.dcm_text_laws.proofs.Names.{shown_utf8, text_bytes}
use Rattle.dcm_text_laws.proofs.Runs.{source_utf8, sure_utf8}
use Rattle.dcm_text_laws.proofs.Tables.{header_utf8, table_low}

-- ---- what grew

module _ {W : Type 0} (w : Writer W) where
  pub stays : (x : W) → GrewByUtf8 w x x
  stays x = ([], IsUtf8-nil, sym (known_nothing (w.contents x)))

  pub same : (x y : W) → y ≡ x → GrewByUtf8 w x y
  same x y is = subst (λ (z : W). GrewByUtf8 w x z) (sym is) (stays x)

  pub and_then : (x y z : W) → GrewByUtf8 w x y → GrewByUtf8 w y z → GrewByUtf8 w x z
  and_then x y z (a, f, e) (b, g, h) = (a ++ b, both f g, h ∙ ap (λ (known : Option (List ℕ)). append_known known b) e ∙ known_twice (w.contents x) a b)

-- ---- what was given

module _ {R : Type 0} (r : Reader R) (gives : GivesBytes r) where
  all_given : (old : R) (bytes : List ℕ) (new : R) → Gave r.gets old bytes new → Bytes bytes
  all_given old bytes new (no_calls none is) = subst Bytes (sym none) tt
  all_given old bytes new (and_call before piece mid calls last some is) =
      subst Bytes (sym is) (Bytes-append before piece (all_given old before mid calls) (bytes_of piece (gives mid new piece last)))

  one_given : (call : Option (List ℕ)) (mid after : R) → r.gets mid call after → Bytes (unwrap_or call [])
  one_given None mid after calls = tt
  one_given (Some piece) mid after calls = bytes_of piece (gives mid after piece calls)

  pub given_bytes : (Needed : List ℕ → Type 0) (before : R) (given : List ℕ) (how : How) (after : R) → InputCalls r.gets Needed before given how after → Bytes given
  given_bytes Needed before given how after (no_call none is same) = subst Bytes (sym none) tt
  given_bytes Needed before given how after (last_call front mid call calls needed last is how_is) =
      subst Bytes (sym is) (Bytes-append front (unwrap_or call []) (all_given before front mid calls) (one_given call mid after last))

-- ---- dumps

no_other : (x : ℕ) (e : WriteFailed) → (let r : Result ℕ WriteFailed = Ok x in r ≡ Err e) → ⊥
no_other x e h = cc

module _ {I W : Type 0} (r : Reader I) (w : Writer W) (gives : GivesBytes r) (d : Dictionary) (mode : Mode) (bare : Option Syntax) where
  answered_utf8 : (job : Job) (given : List ℕ) (how : How) (text : List ℕ) (verdict : Verdict) → job ≡ dump_decoded d mode bare → Bytes given → AnsweredAll job given how text verdict → IsUtf8 text
  answered_utf8 job given how text verdict is_job are all =
      let a : Answered job given text verdict = subst (λ (bytes : List ℕ). Answered job bytes text verdict) (append-nil given) (all [] (allows_nothing how)) in
      let y : Answered (dump_decoded d mode bare) given text verdict = subst (λ (j : Job). Answered j given text verdict) is_job a in
      subst IsUtf8 (sym y.out_is) (source_utf8 d mode bare given y.source are y.reads)

  sure_text : (job : Job) (given text : List ℕ) → job ≡ dump_decoded d mode bare → Bytes given → Sure job given text → IsUtf8 text
  sure_text job given text is_job are sure =
      sure_utf8 d mode bare given text (λ i. a_byte given i are) (subst (λ (j : Job). Sure j given text) is_job sure)

  file_grows : (job : Job) (heading name : List ℕ) (errors : Change) (from to : W) (before : I) (status : ℕ) (after : I) → job ≡ dump_decoded d mode bare → IsUtf8 heading
      → ShowsFile r w job heading name errors from to before (Ok status) after → GrewByUtf8 w from to
  file_grows job heading name errors from to before status after is_job h (shown given how text verdict remarks reads all remarked fine out failed flushed lines is) =
      (heading ++ text, both h (answered_utf8 job given how text verdict is_job (given_bytes r gives _ before given how after reads.calls) all), out)
  file_grows job heading name errors from to before status after is_job h (unread given how text remarks reads sure remarked failed out fine flushed lines is) =
      (heading ++ text, both h (sure_text job given text is_job (given_bytes r gives _ before given how after reads.calls) sure), out)
  file_grows job heading name errors from to before status after is_job h (not_headed failure out failed same lines is) = absurd (no_other status failure is)
  file_grows job heading name errors from to before status after is_job h (not_written given how failure reads all failed lines is) = absurd (no_other status failure is)
  file_grows job heading name errors from to before status after is_job h (not_flushed given how text failure reads all out failed room lines is) = absurd (no_other status failure is)

  pub dump_grows : (m : Manner) (name : List ℕ) (errors : Change) (from to : Shown W) (before : Opened I) (status : ℕ) (after : I) → m.job ≡ dump_decoded d mode bare → IsUtf8 name → can_be_opened name ≡ true
      → DoesDump r w m name errors from to before (Ok status) after → GrewByUtf8 w from.out to.out
  dump_grows m name errors from to before status after is_job named short (is_output cause clashes line out at is) = same w from.out to.out (ap (λ (x : Shown W). x.out) out)
  dump_grows m name errors from to before status after is_job named short (headed no_clash shows number first) =
      file_grows m.job (next_heading m from name) name errors from.out to.out before.device status after is_job
      (heading_utf8 from.is_first (next_number from.number) m.total name (shown_utf8 name named short)) shows

pub one_grows : {I W : Type 0} (r : Reader I) (w : Writer W) → DumpGrowsByUtf8 r w
one_grows r w m d mode bare name errors from to before status after gives is_job named short does =
    dump_grows r w gives d mode bare m name errors from to before status after is_job named short does

pub all_dumps_grow : {S I O W : Type 0} (may : MayDo S I O) (r : Reader I) (w : Writer W) → DumpsGrowByUtf8 may r w
all_dumps_grow {S} {I} {O} {W} may r w asked d mode bare output errors from to before status after gives is_job (last, is, all) =
    let m : Manner = record { job = asked.job; output = output; total = total_of asked.names } in
    subst (λ (x : W). GrewByUtf8 w from x) is
    (all_grow may r (dumps_into r w m) (λ (x y : Shown W). GrewByUtf8 w x.out y.out) (λ x. stays w x.out) (λ x y z. and_then w x.out y.out z.out)
    (λ name errors from to before status after named short does. dump_grows r w gives d mode bare m name errors from to before status after is_job named short does)
    (λ x y passes. same w x.out y.out (ap (λ (z : Shown W). z.out) passes))
    asked.names errors (nothing_shown from) last before status after all)

-- ---- tables

pub row_grows : {I W : Type 0} (r : Reader I) (w : Writer W) → RowGrowsByUtf8 r w
row_grows r w columns form name errors from to before status after gives valid named (row_written cells end decides grows failed lines is) =
    let are = given_bytes r gives _ before decides.given decides.how after decides.reads.calls in
    let row = decides.comes [] (allows_nothing decides.how) in
    (grows.text, rows_valid columns form name (decides.given ++ []) cells end grows.text valid named (λ i. a_byte (decides.given ++ []) i (subst Bytes (sym (append-nil decides.given)) are)) row grows.spelled, grows.grown)
row_grows r w columns form name errors from to before status after gives valid named (row_unwritten cells end failure decides grows failed lines is) = absurd (no_other status failure is)
row_grows r w columns form name errors from to before status after gives valid named (row_unread cells count decides out lines is) = same w from to out

pub header_is_utf8 : HeaderIsUtf8
header_is_utf8 words t meant = header_utf8 t.has_header t.columns (table_low words t meant)

pub table_grows : {S I O W : Type 0} (may : MayDo S I O) (r : Reader I) (w : Writer W) → TableGrowsByUtf8 may r w
table_grows {S} {I} {O} {W} may r w words t errors from to before status after gives meant valid (tables.headed mid out failed all) =
    let columns : List Tag = map (λ (c : Column). c.tag) (map column_of t.columns) in
    and_then w from mid to (header_bytes t.has_header (map column_of t.columns), header_is_utf8 words t meant, out)
    (all_grow may r (rows_into r w columns (form_of t.texts)) (GrewByUtf8 w) (stays w) (and_then w)
    (λ name errors from to before status after named short does. row_grows r w columns (form_of t.texts) name errors from to before.device status after gives valid (text_bytes name named) does)
    (same w) t.names errors mid to before status after all)
table_grows {S} {I} {O} {W} may r w words t errors from to before status after gives meant valid (tables.not_headed failure out failed lines at is) = absurd (no_other status failure is)
