use Rattle.std.proofs.Common.{rules, refl, ap, sym, ◌∙◌, List, ℕ, [], length}
use Rattle.std.proofs.lemmas.List.{append-nil}
use Rattle.std.specs.Io.KnownBytes.{append_known}
use Rattle.dcm_lemmas.proofs.Options.{known_twice}
use Rattle.dcm_devices.proofs.Writes.PartsOut.{part_failed, parts_put}
use Rattle.dcm_value.specs.Progress as progress
use Rattle.dcm_sinks.specs.DumpSink as spec
use Rattle.dcm_sinks.proofs.Dumps.Brackets.{begun_opened, opened_mode}
use Rattle.dcm_sinks.proofs.Dumps.ValueLines.{begins_in_parts}
use Rattle.dcm_sinks.proofs.dump.lines.Lines.begin.Goals as goal

pub returns-in_err-put_early_start-clause-wrote : goal.returns-in_err-put_early_start-clause-wrote
returns-in_err-put_early_start-clause-wrote g c =
    let p : progress.Progress = progress.started c.args.vr c.args.syntax c.args.size c.args.self.now.mode in
    let start : List ℕ = spec.early_start c.args.self.now.mode (spec.owner_start (length c.args.self.now.lengths) c.args.owner) in
    record {
      bytes = part_failed _ _ start _ (progress.opening_writes p) _ c.from_residual.result c.from_residual.ensures.0
          refl
          (begins_in_parts c.args.self.now.mode (spec.owner_start (length c.args.self.now.lengths) c.args.owner) (progress.opening p))
          (rw c.depth.ensures.depth at c.in_err-put_early_start.ensures.bytes);
      failed = search rules;
    }

pub returns-in_err-open-clause-wrote : goal.returns-in_err-open-clause-wrote
returns-in_err-open-clause-wrote g c =
    let p : progress.Progress = progress.started c.args.vr c.args.syntax c.args.size c.args.self.now.mode in
    let start : List ℕ = spec.early_start c.args.self.now.mode (spec.owner_start (length c.args.self.now.lengths) c.args.owner) in
    record {
      bytes = parts_put _ _ _ start _ (progress.opening_writes p) _ _ c.from_residual-in_err-open.result refl refl
          (begins_in_parts c.args.self.now.mode (spec.owner_start (length c.args.self.now.lengths) c.args.owner) (progress.opening p))
          (rw c.depth.ensures.depth at c.in_ok-put_early_start.ensures.bytes)
          (part_failed _ _ (progress.opening_writes p) _ [] _ c.from_residual-in_err-open.result c.from_residual-in_err-open.ensures.0 (ap progress.opening_writes c.new-self.ensures) (sym (append-nil (progress.opening_writes p))) c.in_err-open.ensures.wrote.bytes);
      failed = search rules;
    }

pub invariant_of-self-2 : goal.invariant_of-self-2
invariant_of-self-2 g c =
    let p : progress.Progress = progress.started c.args.vr c.args.syntax c.args.size c.args.self.now.mode in
    let opened = c.in_ok-open.ensures.state ∙ ap progress.opened c.new-self.ensures in
    record {
      begun = λ owner is. ap progress.is_unopened opened ∙ begun_opened p;
      same = λ owner is. ap (λ q. q.display.mode) opened ∙ opened_mode p;
    }

pub returns-clause-wrote : goal.returns-clause-wrote
returns-clause-wrote g c =
    let p : progress.Progress = progress.started c.args.vr c.args.syntax c.args.size c.args.self.now.mode in
    let start : List ℕ = spec.early_start c.args.self.now.mode (spec.owner_start (length c.args.self.now.lengths) c.args.owner) in
    let level = c.depth.ensures.depth in
    record {
      bytes = c.in_ok-open.ensures.wrote.bytes
          ∙ ap (λ q. append_known (g.W.DeviceOut.contents c.put_early_start.new.out) (progress.opening_writes q)) c.new-self.ensures
          ∙ ap (λ known. append_known known (progress.opening_writes p)) (rw level at c.in_ok-put_early_start.ensures.bytes)
          ∙ known_twice (g.W.DeviceOut.contents c.args.out.now) start (progress.opening_writes p)
          ∙ ap (append_known (g.W.DeviceOut.contents c.args.out.now)) (sym (begins_in_parts c.args.self.now.mode (spec.owner_start (length c.args.self.now.lengths) c.args.owner) (progress.opening p)));
      failed = search rules;
    }
