-- The dump of a data set alone, in the words of the definitions.
use Rattle.std.proofs.Common.{◌≡◌, ◌∙◌, ap, sym, subst, ℕ, List, [], ◌++◌, Option, Some, refl, arith, Err}
use Rattle.std.specs.Prelude.{Result, Ok, is_err, true, false}
use Rattle.std.specs.Io.KnownBytes.{append_known}
use Rattle.dcm_lemmas.proofs.Options.{known_twice}
use Rattle.dcm_base.specs.declared.mode.Mode.{Mode}
use Rattle.dcm_base.specs.declared.syntax.Syntax.{Syntax}
use Rattle.dcm_devices.specs.Device.{AppendsFront, Puts}
use Rattle.dcm_base.specs.Reading.Bars.{no_bar}
use Rattle.dcm_base.specs.Dump.Dump.{dump_front}
use Rattle.dcm_base.specs.Tree.Front.{Front}
use Rattle.dcm_base.specs.Reading.Reads.{Reads}
use Rattle.dcm_base.specs.Dump.Header.{set_header}
use Rattle.dcm_base.specs.Reading.Stop.{Stop, is_undecided}
use Rattle.dcm_words.specs.declared.job.Texts.{Texts}
use Rattle.dcm_named.specs.Named.{named_front}
use Rattle.dcm_words.specs.Words.{Job, dump, dump_decoded, dump_named, Named}
use Rattle.dcm_devices.proofs.Writes.Puts.{front_longer, puts_behind}
use Rattle.dcm_base.specs.Tables.Syntax.{read_by}
use Rattle.dcm_base.specs.declared.dictionary.Dictionary.{Dictionary}
use Rattle.dcm_stream.specs.Reading.{start_of}
use Rattle.dcm_sinks.specs.DecodedDump.{decoded_front}
use Rattle.dcm_sinks.specs.DecodedHeader.{decoded_alone_header}
use Rattle.dcm_sinks.specs.InForce.{EMPTY}
use Rattle.dcm_cli.specs.declared.ending.Ending.{Ending}
use Rattle.dcm_cli.specs.declared.ending.Ending.TheVariants.{Unread, Output}
use Rattle.dcm_cli.specs.Pass.{Ends}
use Rattle.dcm_cli.specs.Answer.{asked_of, alone, going_on, Sure}
use Rattle.dcm_head.specs.SyntaxUids.{uid_of_syntax}
use Rattle.dcm_cli.specs.Run.{Answered, Worked, answered, could_not_read, could_not_write, verdict_of_stop}
use Rattle.dcm_cli.proofs.Passes.Makers.{Maker, dumper, decoder, namer}
use Rattle.dcm_cli.proofs.Passes.Sets.{SetMade, set_read, set_unread, set_unwritten, Last, set_made, all_read, told_nothing, dump_tells_nothing, decoded_tells_nothing, named_tells_nothing}

-- a job that dumps a data set alone in a syntax: what is written before its lines, and how they are made
pub record AloneMaker (job : Job) (s : Syntax) : Type 1 where
  pub header : List ℕ
  pub text : Front → List ℕ
  pub maker : Maker no_bar text
  pub answered_as : (file : List ℕ) (f : Front) (stop : Stop) → Reads no_bar s 0 file f stop → Answered job file (header ++ text f) (verdict_of_stop stop)
  pub sure_as : (read : List ℕ) (f : Front) (stop : Stop) → Reads no_bar s 0 read f stop → is_undecided (Some stop) ≡ true → Sure job read (header ++ text (going_on f))

-- the dump
abbrev pub alone_dumper : (d : Dictionary) (mode : Mode) (bare : Syntax) → AloneMaker (dump d mode (Some bare)) (read_by d bare)
alone_dumper d mode bare = record {
  header = set_header (uid_of_syntax (read_by d bare));
  text = dump_front d mode 0;
  maker = dumper d mode;
  answered_as = λ file f stop reads. record { source = alone (read_by d bare) f stop; reads = record { set = f; stop = stop; reads = reads; source_is = refl }; out_is = refl; verdict_is = told_nothing (dump d mode (Some bare)) (dump_tells_nothing d mode (Some bare)) f stop };
  sure_as = λ read f stop reads undecided. record { set = f; stop = stop; reads = reads; open_end = undecided; out_is = refl };
}

-- the dump by characters
abbrev pub alone_decoder : (d : Dictionary) (mode : Mode) (bare : Syntax) → AloneMaker (dump_decoded d mode (Some bare)) (read_by d bare)
alone_decoder d mode bare = record {
  header = decoded_alone_header (uid_of_syntax (read_by d bare));
  text = decoded_front d mode EMPTY 0;
  maker = decoder d mode;
  answered_as = λ file f stop reads. record { source = alone (read_by d bare) f stop; reads = record { set = f; stop = stop; reads = reads; source_is = refl }; out_is = refl; verdict_is = told_nothing (dump_decoded d mode (Some bare)) (decoded_tells_nothing d mode (Some bare)) f stop };
  sure_as = λ read f stop reads undecided. record { set = f; stop = stop; reads = reads; open_end = undecided; out_is = refl };
}

-- the dump of named elements
abbrev pub alone_namer : (texts : Texts) (d : Dictionary) (mode : Mode) (n : Named) (bare : Syntax) → AloneMaker (dump_named texts d mode (Some bare) n) (read_by d bare)
alone_namer texts d mode n bare = record {
  header = [];
  text = named_front (asked_of texts d mode n) EMPTY [];
  maker = namer texts d mode n;
  answered_as = λ file f stop reads. record { source = alone (read_by d bare) f stop; reads = record { set = f; stop = stop; reads = reads; source_is = refl }; out_is = refl; verdict_is = told_nothing (dump_named texts d mode (Some bare) n) (named_tells_nothing texts d mode (Some bare) n) f stop };
  sure_as = λ read f stop reads undecided. record { set = f; stop = stop; reads = reads; open_end = undecided; out_is = refl };
}

module _ (job : Job) (s : Syntax) (k : AloneMaker job s) (file : List ℕ) (left held : Option (List ℕ)) where
  pub alone_unheaded : (holds : Option (List ℕ)) → AppendsFront held holds k.header → Worked job file left held holds Output
  alone_unheaded holds beginning =
      let a = all_read k.maker s 0 (omega arith) file in
      could_not_write (k.header ++ k.text a.0) (verdict_of_stop a.1) (k.answered_as file a.0 a.1 a.2) refl (front_longer (k.text a.0) beginning)

  pub alone_worked : (read rest : List ℕ) (mid : Option (List ℕ)) (t : k.maker.State) (holds : Option (List ℕ)) (ending : Ending) → file ≡ read ++ rest → left ≡ Some rest → mid ≡ append_known held k.header
      → Ends k.maker.bars k.maker.step k.maker.writes (start_of s 0) k.maker.first mid left t holds read ending → Worked job file left held holds ending
  alone_worked read rest mid t holds ending parts at went ends =
      of_set (set_made k.maker s 0 (omega arith) mid t left holds read rest ending at ends)
    where
      behind : (text : List ℕ) → holds ≡ append_known mid text → holds ≡ append_known held (k.header ++ text)
      behind text e = e ∙ ap (λ (known : Option (List ℕ)). append_known known text) went ∙ known_twice held k.header text

      of_set : SetMade no_bar k.text (Last k.maker s 0 (omega arith)) s 0 read rest mid t holds ending → Worked job file left held holds ending
      of_set (set_read f stop reads last is e) =
          answered (k.header ++ k.text f) (verdict_of_stop stop) (k.answered_as file f stop (subst (λ (bs : List ℕ). Reads no_bar s 0 bs f stop) (sym parts) reads)) is (behind (k.text f) e)
      of_set (set_unread f stop reads undecided left is e) =
          could_not_read read rest (k.header ++ k.text (going_on f)) parts at (k.sure_as read f stop reads undecided) (is ∙ ap Unread (omega arith)) (behind (k.text (going_on f)) e)
      of_set (set_unwritten f stop reads is e) =
          could_not_write (k.header ++ k.text f) (verdict_of_stop stop) (k.answered_as file f stop (subst (λ (bs : List ℕ). Reads no_bar s 0 bs f stop) (sym parts) reads)) is
          (puts_behind {T = Unit {0}} {E = Unit {0}} held mid holds k.header (k.text f) (Err tt) went e)

-- what a call that fails, and one that does not, has written
pub put_failed : {T E : Type 0} (held holds : Option (List ℕ)) (bytes : List ℕ) (r : Result T E) → is_err r ≡ true → Puts held holds bytes r → AppendsFront held holds bytes
put_failed held holds bytes (Ok x) e h = cc
put_failed held holds bytes (Err x) e h = h

pub put_whole : {T E : Type 0} (held holds : Option (List ℕ)) (bytes : List ℕ) (r : Result T E) → is_err r ≡ false → Puts held holds bytes r → holds ≡ append_known held bytes
put_whole held holds bytes (Ok x) e h = h
put_whole held holds bytes (Err x) e h = cc
