-- What comes of the bytes of a file is one text, and what comes after a heading.
use Rattle.std.proofs.Common.{◌≡◌, ◌∙◌, ap, sym, ℕ, List, ◌∷◌, ◌++◌, append_assoc, Option, Some, None}
use Rattle.std.specs.Io.KnownBytes.{append_known}
use Rattle.dcm_cli.proofs.Runs.OneAnswer.{alone_once}
use Rattle.dcm_lemmas.proofs.Options.{known_twice}
use Rattle.dcm_base.specs.declared.dictionary.Dictionary.{Dictionary}
use Rattle.dcm_base.specs.declared.mode.Mode.{Mode}
use Rattle.dcm_base.specs.declared.syntax.Syntax.{Syntax}
use Rattle.dcm_base.specs.Tables.Syntax.{read_by}
use Rattle.dcm_devices.specs.Device.{AppendsFront}
use Rattle.dcm_words.specs.declared.job.Texts.{Texts}
use Rattle.dcm_words.specs.Words.{Job, Named, dump, dump_decoded, dump_named, convert, build as building, modify, deidentify}
use Rattle.dcm_cli.specs.declared.ending.Verdict.{Verdict}
use Rattle.dcm_cli.specs.Answer.{Source, output_of}
use Rattle.dcm_cli.specs.Run.{Answered, ReadEnds, verdict_of_source}
use Rattle.dcm_cli.proofs.Runs.OneSource.{one_source}

-- by one source
alike : (job : Job) (input a b : List ℕ) (v u : Verdict) (x : ReadEnds job input a v) (y : ReadEnds job input b u) → x.source ≡ y.source → (a ≡ b) × (v ≡ u)
alike job input a b v u x y same = (
  x.out_is ∙ ap (λ (s : Source). output_of job s) same ∙ sym y.out_is,
  x.verdict_is ∙ ap (λ (s : Source). verdict_of_source job s) same ∙ sym y.verdict_is,
)

dumped_once : (d : Dictionary) (mode : Mode) (bare : Option Syntax) (input a b : List ℕ) (v u : Verdict) → Answered (dump d mode bare) input a v → Answered (dump d mode bare) input b u → (a ≡ b) × (v ≡ u)
dumped_once d mode None input a b v u x y = alike (dump d mode None) input a b v u x y (one_source (dump d mode None) input x.source y.source x.reads y.reads)
dumped_once d mode (Some s) input a b v u x y = alike (dump d mode (Some s)) input a b v u x y (alone_once (read_by d s) input x.source y.source x.reads y.reads)

decoded_once : (d : Dictionary) (mode : Mode) (bare : Option Syntax) (input a b : List ℕ) (v u : Verdict) → Answered (dump_decoded d mode bare) input a v → Answered (dump_decoded d mode bare) input b u → (a ≡ b) × (v ≡ u)
decoded_once d mode None input a b v u x y = alike (dump_decoded d mode None) input a b v u x y (one_source (dump_decoded d mode None) input x.source y.source x.reads y.reads)
decoded_once d mode (Some s) input a b v u x y = alike (dump_decoded d mode (Some s)) input a b v u x y (alone_once (read_by d s) input x.source y.source x.reads y.reads)

named_once : (texts : Texts) (d : Dictionary) (mode : Mode) (bare : Option Syntax) (named : Named) (input a b : List ℕ) (v u : Verdict) → Answered (dump_named texts d mode bare named) input a v → Answered (dump_named texts d mode bare named) input b u → (a ≡ b) × (v ≡ u)
named_once texts d mode None named input a b v u x y = alike (dump_named texts d mode None named) input a b v u x y (one_source (dump_named texts d mode None named) input x.source y.source x.reads y.reads)
named_once texts d mode (Some s) named input a b v u x y = alike (dump_named texts d mode (Some s) named) input a b v u x y (alone_once (read_by d s) input x.source y.source x.reads y.reads)

-- a file has one output and one verdict
pub one_text : (job : Job) (input a b : List ℕ) (v u : Verdict) → Answered job input a v → Answered job input b u → (a ≡ b) × (v ≡ u)
one_text (dump d mode bare) input a b v u x y = dumped_once d mode bare input a b v u x y
one_text (dump_decoded d mode bare) input a b v u x y = decoded_once d mode bare input a b v u x y
one_text (dump_named texts d mode bare named) input a b v u x y = named_once texts d mode bare named input a b v u x y
one_text (convert d target) input a b v u x y = alike (convert d target) input a b v u x y (one_source (convert d target) input x.source y.source x.reads y.reads)
one_text (building limit) input a b v u x y = (x.out_is ∙ sym y.out_is, x.verdict_is ∙ sym y.verdict_is)
one_text (modify d edits) input a b v u x y = alike (modify d edits) input a b v u x y (one_source (modify d edits) input x.source y.source x.reads y.reads)
one_text (deidentify options reports key) input a b v u x y =
    alike (deidentify options reports key) input a b v u x y (one_source (deidentify options reports key) input x.source y.source x.reads y.reads)

-- a beginning of what comes after a heading
pub front_after : (held mid after : Option (List ℕ)) (heading text : List ℕ) → mid ≡ append_known held heading → AppendsFront mid after text → AppendsFront held after (heading ++ text)
front_after held mid after heading text head a = record {
  front = heading ++ a.front;
  next = a.next;
  rest = a.rest;
  whole = ap (λ (t : List ℕ). heading ++ t) a.whole ∙ sym (append_assoc heading a.front (a.next ∷ a.rest));
  grown = a.grown ∙ ap (λ (k : Option (List ℕ)). append_known k a.front) head ∙ known_twice held heading a.front;
}

-- all of it
pub all_after : (held mid after : Option (List ℕ)) (heading text : List ℕ) → mid ≡ append_known held heading → after ≡ append_known mid text → after ≡ append_known held (heading ++ text)
all_after held mid after heading text head went = went ∙ ap (λ (k : Option (List ℕ)). append_known k text) head ∙ known_twice held heading text
