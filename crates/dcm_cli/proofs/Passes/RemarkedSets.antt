-- What is remarked of an input whose texts are shown by characters.
use Rattle.std.proofs.Common.{◌∷◌, ◌≡◌, ◌∙◌, ap, sym, subst, refl, ℕ, List, [], Bool, true, false, Option, Some, arith}
use Rattle.std.specs.Prelude.{fold, if◌then◌else◌}
use Rattle.dcm_base.specs.declared.dictionary.Dictionary.{Dictionary}
use Rattle.dcm_base.specs.declared.mode.Mode.{Mode}
use Rattle.dcm_base.specs.declared.syntax.Syntax.{Syntax}
use Rattle.dcm_base.specs.Reading.Bars.{no_bar}
use Rattle.dcm_base.specs.Reading.Reads.{Reads}
use Rattle.dcm_base.specs.Steps.Atoms.{Atom, front_atoms}
use Rattle.dcm_base.specs.Tables.Syntax.{read_by}
use Rattle.dcm_base.specs.Tree.Front.{Front, front}
use Rattle.dcm_sinks.specs.DecodedSink.{DecodedState, decoded_start, decoded_step, passed_over}
use Rattle.dcm_sinks.specs.SettingValue.{ForceState, force_step}
use Rattle.dcm_sinks.specs.Unknown.{has_unknown}
use Rattle.dcm_sinks.proofs.DecodedDumps.Reads.{unknown_so_far, unknown_whole}
use Rattle.dcm_stream.specs.Reading.{start_of}
use Rattle.dcm_named.specs.Filter.{Place, next, place_start, shows}
use Rattle.dcm_named.specs.NamedSink.{named_step}
use Rattle.dcm_words.specs.declared.job.Texts.TheVariants.{Characters}
use Rattle.dcm_words.specs.Words.{Named, dump_decoded, dump_named}
use Rattle.dcm_cli.specs.declared.ending.Ending.{Ending}
use Rattle.dcm_cli.specs.Answer.{alone, going_on}
use Rattle.dcm_cli.specs.InputCalls.{How, Allows}
use Rattle.dcm_cli.specs.Pass.{Ends}
use Rattle.dcm_cli.specs.Remarks.{unknown_remarked}
use Rattle.dcm_cli.specs.Run.{RemarkedAs}
use Rattle.dcm_cli.proofs.Passes.Makers.{decoder, named_by_characters}
use Rattle.dcm_cli.proofs.Passes.Remarked.{Tells, made_remarked}

-- an end of a data set names nothing
unknown_going : (f : Front) → has_unknown f ≡ has_unknown (going_on f)
unfolding has_unknown
unknown_going (front whole open_tree reached closed) = refl

-- ---- the sink of a dump knows whether a value named what is not known

module _ (d : Dictionary) (mode : Mode) where
  pub decoded_told : (bare : Option Syntax) (s : Syntax) (start : ℕ) (t : DecodedState) → Tells (dump_decoded d mode bare) (decoder d mode) s start t (λ (ending : Ending). unknown_remarked t.force.unknown)
  decoded_told bare s start t = record {
    last = λ le bytes f stop reads last. ap unknown_remarked (ap (λ (x : DecodedState). x.force.unknown) last ∙ unknown_whole d mode s start bytes f stop le reads);
    so_far = λ le bytes f stop count reads left. ap unknown_remarked
        (ap (λ (x : DecodedState). x.force.unknown) left.last
        ∙ unknown_so_far d mode s start bytes left.read stop le left.not_closed (subst (λ (g : Front). Reads no_bar s start bytes g stop) left.is reads)
        ∙ ap has_unknown (sym left.is) ∙ unknown_going f);
  }

  -- and with a filter before it
  either_force : (b : Bool) (s : DecodedState) (a : Atom) → (if b then decoded_step s a else passed_over s a).force ≡ (decoded_step s a).force
  either_force true s a = refl
  either_force false s a = refl

  filtered_force : (p : Place) (x y : DecodedState) → x.force ≡ y.force → (atoms : List Atom) → (fold (named_step decoded_step passed_over) (p, x) atoms).1.force ≡ (fold decoded_step y atoms).force
  filtered_force p x y same [] = same
  filtered_force p x y same (a ∷ atoms) =
      filtered_force (next p a) (if shows p a then decoded_step x a else passed_over x a) (decoded_step y a)
      (either_force (shows p a) x a ∙ ap (λ (f : ForceState). force_step f a) same) atoms

  module _ (n : Named) where
    filtered : (s : Syntax) (f : Front) → (fold (named_step decoded_step passed_over) (place_start n.tags n.ways mode, decoded_start d mode) (front_atoms s f)).1.force.unknown ≡ (fold decoded_step (decoded_start d mode) (front_atoms s f)).force.unknown
    filtered s f = ap (λ (x : ForceState). x.unknown) (filtered_force (place_start n.tags n.ways mode) (decoded_start d mode) (decoded_start d mode) refl (front_atoms s f))

    pub named_told : (bare : Option Syntax) (s : Syntax) (start : ℕ) (t : Place × DecodedState) → Tells (dump_named Characters d mode bare n) (named_by_characters d mode n) s start t (λ (ending : Ending). unknown_remarked t.1.force.unknown)
    named_told bare s start t = record {
      last = λ le bytes f stop reads last. ap unknown_remarked (ap (λ (x : Place × DecodedState). x.1.force.unknown) last ∙ filtered s f ∙ unknown_whole d mode s start bytes f stop le reads);
      so_far = λ le bytes f stop count reads left. ap unknown_remarked
          (ap (λ (x : Place × DecodedState). x.1.force.unknown) left.last ∙ filtered s left.read
          ∙ unknown_so_far d mode s start bytes left.read stop le left.not_closed (subst (λ (g : Front). Reads no_bar s start bytes g stop) left.is reads)
          ∙ ap has_unknown (sym left.is) ∙ unknown_going f);
    }

-- ---- a data set alone

module _ (d : Dictionary) (mode : Mode) (bare : Syntax) (more : List ℕ) (how : How) (held holds : Option (List ℕ)) (ending : Ending) where
  pub alone_decoded_remarked : (t : DecodedState)
      → ((rest : List ℕ) → Allows how rest → Ends (decoder d mode).bars (decoder d mode).step (decoder d mode).writes (start_of (read_by d bare) 0) (decoder d mode).first held (Some rest) t holds more ending)
      → RemarkedAs (dump_decoded d mode (Some bare)) more how ending (unknown_remarked t.force.unknown)
  alone_decoded_remarked t ends =
      made_remarked (dump_decoded d mode (Some bare)) (decoder d mode) (read_by d bare) 0 (omega arith) t (λ (ending : Ending). unknown_remarked t.force.unknown) (decoded_told d mode (Some bare) (read_by d bare) 0 t) more more how held holds
      (λ rest ok f stop reads told is. record { source = alone (read_by d bare) f stop; reads = record { set = f; stop = stop; reads = reads; source_is = refl }; remarks_are = is }) ending
      (λ n e f stop reads undecided told is. record { set = f; stop = stop; reads = reads; open_end = undecided; remarks_are = is }) ends

  pub alone_named_remarked : (n : Named) (t : Place × DecodedState)
      → ((rest : List ℕ) → Allows how rest → Ends (named_by_characters d mode n).bars (named_by_characters d mode n).step (named_by_characters d mode n).writes (start_of (read_by d bare) 0) (named_by_characters d mode n).first held (Some rest) t holds more ending)
      → RemarkedAs (dump_named Characters d mode (Some bare) n) more how ending (unknown_remarked t.1.force.unknown)
  alone_named_remarked n t ends =
      made_remarked (dump_named Characters d mode (Some bare) n) (named_by_characters d mode n) (read_by d bare) 0 (omega arith) t (λ (ending : Ending). unknown_remarked t.1.force.unknown) (named_told d mode n (Some bare) (read_by d bare) 0 t) more more how held holds
      (λ rest ok f stop reads told is. record { source = alone (read_by d bare) f stop; reads = record { set = f; stop = stop; reads = reads; source_is = refl }; remarks_are = is }) ending
      (λ k e f stop reads undecided told is. record { set = f; stop = stop; reads = reads; open_end = undecided; remarks_are = is }) ends
