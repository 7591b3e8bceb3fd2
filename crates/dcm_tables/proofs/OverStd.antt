-- What passes the devices of the system.
use Rattle.std.proofs.Common.{◌≡◌, ◌∙◌, ap, sym, subst, ℕ, List, [], ◌++◌, append_assoc, Option, None, Some, unwrap_or}
use Rattle.std.proofs.lemmas.List.{append-nil}
use Rattle.dcm_devices.specs.Device.{Gave, no_calls, and_call, Notes}
use Rattle.dcm_devices.specs.declared.std_device.Std.{Std}
use Rattle.dcm_cli.specs.Change.{change_of}
use Rattle.dcm_cli.specs.InputCalls.{How, InputCalls, no_call, last_call, IsUndecided, ReadsInput}
use Rattle.dcm_cli.specs.Run.{Ran}
use Rattle.dcm_tables.specs.OverStd.{std_reader, std_writer, GivesWhatPassed, RunsByBytes}

module _ {T : Type 0} (tells : T → Option (List ℕ)) (old : Std T) where
  -- all calls so far
  gave : (bytes : List ℕ) (new : Std T) → Gave (std_reader tells).gets old bytes new → new.passed.bytes ≡ old.passed.bytes ++ bytes
  gave bytes new (no_calls none same) = ap (λ (s : Std T). s.passed.bytes) same ∙ sym (append-nil old.passed.bytes) ∙ ap (λ (b : List ℕ). old.passed.bytes ++ b) (sym none)
  gave bytes new (and_call before piece mid calls call some all) =
      call.0 ∙ ap (λ (b : List ℕ). b ++ piece) (gave before mid calls) ∙ append_assoc old.passed.bytes before piece ∙ ap (λ (b : List ℕ). old.passed.bytes ++ b) (sym all)

  -- and one more, which may give none or fail
  one_more : (call : Option (List ℕ)) (mid new : Std T) → Notes mid.passed.bytes new.passed.bytes call → new.passed.bytes ≡ mid.passed.bytes ++ unwrap_or call []
  one_more (Some piece) mid new e = e
  one_more None mid new e = e ∙ sym (append-nil mid.passed.bytes)

  calls_noted : (Needed : List ℕ → Type 0) (given : List ℕ) (how : How) (new : Std T) → InputCalls (std_reader tells).gets Needed old given how new → new.passed.bytes ≡ old.passed.bytes ++ given
  calls_noted Needed given how new (no_call none part same) = ap (λ (s : Std T). s.passed.bytes) same ∙ sym (append-nil old.passed.bytes) ∙ ap (λ (b : List ℕ). old.passed.bytes ++ b) (sym none)
  calls_noted Needed given how new (last_call front mid call calls needed last all how_is) =
      one_more call mid new last.0 ∙ ap (λ (b : List ℕ). b ++ unwrap_or call []) (gave front mid calls)
      ∙ append_assoc old.passed.bytes front (unwrap_or call []) ∙ ap (λ (b : List ℕ). old.passed.bytes ++ b) (sym all)

pub given_passed : (T : Type 0) (tells : T → Option (List ℕ)) → GivesWhatPassed T tells
given_passed T tells before after given is_new calls = sym (gave tells before given after calls ∙ ap (λ (b : List ℕ). b ++ given) is_new.unused)

pub runs_by_bytes : (T U : Type 0) (tells : T → Option (List ℕ)) → RunsByBytes T U tells
runs_by_bytes T U tells job errors before after out_before out_after status is_new out_is_new runs =
    let all : after.passed.bytes ≡ runs.given =
    calls_noted tells before _ runs.given runs.how after runs.reads.calls ∙ ap (λ (b : List ℕ). b ++ runs.given) is_new.unused in (
      runs.how,
      subst (λ (bytes : List ℕ). ReadsInput (std_reader tells) (IsUndecided job) before bytes runs.how after) (sym all) runs.reads,
      subst (λ (bytes : List ℕ). Ran job bytes runs.how after.failed (change_of std_writer out_before out_after) errors status) (sym all)
          (runs.ran is_new.sound out_is_new.sound),
    )
