-- The line of a text, in parts, and states as the program holds them.
use Rattle.std.proofs.Common.{◌≡◌, ◌∙◌, ap, sym, ℕ, List, ◌++◌, length, map, append_assoc, OnOk, Option, Some, None, Result, Ok, Err}
use Rattle.std.specs.Prelude.{fold}
use Rattle.dcm_base.specs.declared.mode.Mode.{Mode}
use Rattle.dcm_base.specs.Steps.Atoms.{value_byte}
use Rattle.dcm_base.specs.Steps.Steps.{outputs}
use Rattle.dcm_sinks.proofs.Dumps.ValueLines.{around}
use Rattle.dcm_text.specs.declared.sets.Sets.{Sets}
use Rattle.dcm_value.specs.Display.{at_once}
use Rattle.dcm_value.specs.DecodedProgress.{DecodedProgress, closing, closing_writes, end_writes, finishes}
use Rattle.dcm_sinks.specs.declared.dump.lines.Owner.{Owner}
use Rattle.dcm_sinks.specs.DumpSink.{DumpState, dump_step, dump_writes, late_start, owner_start}
use Rattle.dcm_sinks.specs.TextDump.{TextState, OpenText, open_text, no_text, text_step, text_writes, close_writes, text_rest}
use Rattle.dcm_sinks.specs.TextLines.{text_of}
use Rattle.dcm_sinks.proofs.DecodedDumps.TextBytes.{out_of_text, passes_bytes, shows_passed}

-- ---- the program's state

pub is_open : (value : Option Owner) (owner : Owner) (p : DecodedProgress) → Some owner ≡ value → text_of value p ≡ open_text owner p
is_open value owner p same = ap (λ (o : Option Owner). text_of o p) (sym same)

pub is_none : (value : Option Owner) (p : DecodedProgress) → value ≡ None → text_of value p ≡ no_text
is_none value p is = ap (λ (o : Option Owner). text_of o p) is

abbrev pub with_text : DumpState → OpenText → TextState
with_text lines text = record { lines = lines; text = text }

pub then_ok : {T E : Type 0} {A B : Type 0} (r : Result T E) → OnOk r A → (A → B) → OnOk r B
then_ok (Ok x) a f = f a
then_ok (Err x) a f = tt

-- ---- bytes that pass

pub took_passed : (sets : Sets) (lines new : DumpState) (before after : Option Owner) (p q : DecodedProgress) (bytes : List ℕ) → before ≡ None → after ≡ None
    → new ≡ fold dump_step lines (map value_byte bytes)
    → with_text new (text_of after q) ≡ fold (text_step sets) (with_text lines (text_of before p)) (map value_byte bytes)
took_passed sets lines new before after p q bytes b a e =
    ap (with_text new) (is_none after q a)
    ∙ ap out_of_text e
    ∙ sym (passes_bytes sets lines bytes)
    ∙ ap (λ (t : OpenText). fold (text_step sets) (with_text lines t) (map value_byte bytes)) (sym (is_none before p b))

pub showed_passed : (sets : Sets) (lines : DumpState) (before : Option Owner) (p : DecodedProgress) (bytes : List ℕ) → before ≡ None
    → outputs dump_step dump_writes lines (map value_byte bytes) ≡ outputs (text_step sets) (text_writes sets) (with_text lines (text_of before p)) (map value_byte bytes)
showed_passed sets lines before p bytes b =
    sym (shows_passed sets lines bytes)
    ∙ ap (λ (t : OpenText). outputs (text_step sets) (text_writes sets) (with_text lines t) (map value_byte bytes)) (sym (is_none before p b))

-- ---- lines

pub closes_in_parts : (lines : DumpState) (text : OpenText) (owner : Owner) (p : DecodedProgress) → p.display.mode ≡ lines.mode → text ≡ open_text owner p
    → close_writes lines text ≡ closing_writes p ++ ((late_start lines.mode (owner_start (length lines.lengths) owner) ++ end_writes p) ++ text_rest lines.dictionary owner p)
unfolding finishes
closes_in_parts lines text owner p same is =
    let start : List ℕ = owner_start (length lines.lengths) owner in
    let rest : List ℕ = text_rest lines.dictionary owner p in
    ap (close_writes lines) is
    ∙ append_assoc (late_start lines.mode start) (finishes p) rest
    ∙ ap (λ (m : Mode). late_start lines.mode start ++ ((at_once m (closing p) ++ end_writes p) ++ rest)) same
    ∙ around lines.mode start (closing p) (end_writes p) rest
    ∙ ap (λ (m : Mode). at_once m (closing p) ++ ((late_start lines.mode start ++ end_writes p) ++ rest)) (sym same)
