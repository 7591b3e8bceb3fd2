-- What a dump shows of the bytes of an open value, of which some may be behind its end.
use Rattle.std.proofs.Common.{◌≡◌, ◌∙◌, ap, sym, ℕ, ◌+◌, ◌≤◌, List, [], length, map, take, drop, false, arith}
use Rattle.std.specs.Prelude.{fold, min}
use Rattle.std.proofs.lemmas.List.{length-take-le}
use Rattle.dcm_lemmas.proofs.Lists.{taken_and_dropped}
use Rattle.dcm_base.specs.declared.mode.Mode.{Mode}
use Rattle.dcm_base.specs.declared.length.Length.{Length}
use Rattle.dcm_base.specs.Steps.Atoms.{value_byte}
use Rattle.dcm_base.specs.Steps.Steps.{outputs}
use Rattle.dcm_base.specs.declared.dictionary.Dictionary.{Dictionary}
use Rattle.dcm_value.specs.Display.{emit}
use Rattle.dcm_value.specs.Progress.{Progress, step, opened, feeds, is_unopened}
use Rattle.dcm_sinks.specs.declared.dump.lines.Owner.{Owner}
use Rattle.dcm_sinks.specs.DumpSink.{DumpState, dump_step, dump_writes}
use Rattle.dcm_sinks.proofs.Dumps.ValueBytes.{within, behind, takes_own, shows_own}
use Rattle.dcm_sinks.proofs.Dumps.Brackets.{opened_same, feeds_same}
use Rattle.dcm_sinks.proofs.Dumps.ValueLines.{filled_full}

pub fitting : (n missing seen size : ℕ) (bytes own : List ℕ) → n ≡ min (length bytes) missing → missing + seen ≡ size → own ≡ take n bytes → seen + length own ≤ size
fitting n missing seen size bytes own e m o =
    let short : length own ≡ n = ap length o ∙ length-take-le n bytes (omega arith) in
    omega arith

module _ (d : Dictionary) (mode : Mode) (lengths : List Length) (owner : Owner) (p : Progress) (n missing : ℕ) (bytes own others : List ℕ)
    (least : n ≡ min (length bytes) missing) (left : missing + p.seen ≡ p.size) (front : own ≡ take n bytes) (back : others ≡ drop n bytes)
    (begun : is_unopened p ≡ false) (settled : p.display ≡ emit p.display []) (s : DumpState) (now : s ≡ within d mode lengths owner p) where
  pub takes_bytes : fold dump_step s (map value_byte bytes) ≡ behind d mode lengths owner (fold step (opened p) own) others
  takes_bytes =
      ap (λ t. fold dump_step t (map value_byte bytes)) now
      ∙ ap (λ zs. fold dump_step (within d mode lengths owner p) (map value_byte zs)) (sym (taken_and_dropped n bytes own others front back))
      ∙ takes_own d mode lengths owner p own others (fitting n missing p.seen p.size bytes own least left front) (filled_full n missing p.seen p.size bytes own others least left front back)
      ∙ ap (λ q. behind d mode lengths owner (fold step q own) others) (sym (opened_same p begun settled))

  pub shows_bytes : outputs dump_step dump_writes s (map value_byte bytes) ≡ feeds p own
  shows_bytes =
      ap (λ t. outputs dump_step dump_writes t (map value_byte bytes)) now
      ∙ ap (λ zs. outputs dump_step dump_writes (within d mode lengths owner p) (map value_byte zs)) (sym (taken_and_dropped n bytes own others front back))
      ∙ shows_own d mode lengths owner p own others (fitting n missing p.seen p.size bytes own least left front) (filled_full n missing p.seen p.size bytes own others least left front back)
      ∙ sym (feeds_same p own begun settled)
