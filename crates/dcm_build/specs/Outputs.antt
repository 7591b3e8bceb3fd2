-- What a call in the building of a file does to its output, by the members of the writer.
use Rattle.std.specs.Prelude.{◌≡◌, ℕ, false, List, None, Result}
use Rattle.dcm_devices.specs.Device.{Puts}
pub use Rattle.dcm_devices.specs.Writing.{Writer}
use Rattle.dcm_base.specs.Steps.Atoms.{Atom}
use Rattle.dcm_base.specs.Steps.Steps.{Goes, outputs}
use Rattle.dcm_base.specs.Lines.Build.{first_fault}
use Rattle.dcm_sinks.specs.declared.encode.encoder.Encoder.{Encoder}
use Rattle.dcm_sinks.specs.Encoder as encoders
pub use Rattle.dcm_sinks.specs.Encoder.{Encoded}
use Rattle.dcm_sinks.specs.EncodeSink.{encode_step, encode_writes}
use Rattle.dcm_base.specs.Steps.Halts.{TellsFailed, TellsHalt, well}
use Rattle.dcm_build.specs.Halts.{BuildHalt, LineHalt}
use Rattle.dcm_build.specs.declared.file.NewFile.{NewFile}
use Rattle.dcm_build.specs.declared.line_reader.LineReader.{LineReader}
use Rattle.dcm_build.specs.Builder.{Feeds, Progress, Reaches, building, is_halted}
use Rattle.dcm_build.specs.Building.{BuildState, build_start, build_step, build_writes, end_checks, end_writes}
use Rattle.dcm_build.specs.Building.{ended_meta}
use Rattle.dcm_build.specs.NewFile.{Comes, Ends, LineAt, seen, state}

-- what was built came to this, wherever its lines are
abbrev pub Becomes : (old new : NewFile) → (BuildState → BuildState) → Type 0
Becomes old new step = (at : LineAt) → state new at None ≡ step (state old at None)

-- the bytes that an encoder writes of atoms
abbrev pub encoded : Encoder → List Atom → List ℕ
encoded encoder atoms = outputs encode_step encode_writes (encoders.state encoder) atoms

-- by this step what was built came to another state and these bytes went out, wherever its lines are, or a line was
-- refused; and the writer has failed exactly where the output did
pub record Took {W T : Type 0} (w : Writer W) (held holds : W) (old new : NewFile) (step : BuildState → BuildState)
    (writes : BuildState → List ℕ) (r : Result T LineHalt) : Type 0 where
  pub comes : (at : LineAt)
      → Comes (w.contents held) (w.contents holds) (state new at None) (step (state old at None))
      (writes (state old at None)) r
  pub failed : TellsHalt (w.has_failed held) (w.has_failed holds) r

-- the input ended here, with a fault or without; and the writer has failed exactly where the output did
pub record Ended {W T : Type 0} (w : Writer W) (held holds : W) (old new : NewFile) (r : Result T LineHalt) : Type 0
  where
    pub ends : (at : LineAt)
        → Ends (w.contents held) (w.contents holds) (state new at None) (ended_meta (state old at None))
        (first_fault (end_checks (seen old))) (end_writes (seen old)) r
    pub failed : TellsHalt (w.has_failed held) (w.has_failed holds) r

-- nothing was built, wherever its lines are
abbrev pub IsNew : NewFile → Type 0
IsNew f = (at : LineAt) → state f at None ≡ record (build_start at.limit) {
  line = at.line;
  offset = at.offset;
  number = at.number;
}

-- what was built came to this state, and these bytes went out, or a beginning of them where the output failed; and
-- the writer has failed exactly where the output did
pub record Reached {W T : Type 0} (w : Writer W) (held holds : W) (old new : LineReader)
    (step : BuildState → BuildState) (writes : BuildState → List ℕ) (r : Result T BuildHalt) : Type 0 where
  pub reaches : Reaches (w.contents held) (w.contents holds) (building new) (step (building old None))
      (writes (building old None)) r
  pub failed : TellsHalt (w.has_failed held) (w.has_failed holds) r

-- these bytes were read, or a beginning of what they write went out; and the writer has failed exactly where the output
-- did
pub record Fed {W T : Type 0} (w : Writer W) (held holds : W) (old new : LineReader) (bytes : List ℕ)
    (r : Result T BuildHalt) : Type 0 where
  pub feeds : Feeds (building old None) (w.contents held) (building new) (w.contents holds) bytes r
  pub failed : TellsHalt (w.has_failed held) (w.has_failed holds) r

-- where it had not halted before, the output failed exactly where the builder says so
abbrev pub Fails : {W : Type 0} → Writer W → (held holds : W) → (old new : Progress) → Type 0
Fails w held holds old new = is_halted old ≡ false
    → TellsFailed (w.has_failed held) (w.has_failed holds) new.failed

-- where the output was well, a builder read these bytes
pub record Went {W : Type 0} (w : Writer W) (held holds : W) (old new : Progress) (bytes : List ℕ) : Type 0 where
  pub goes : old.failed ≡ false → Goes build_step build_writes old.state (w.contents held) new.state (w.contents holds)
      bytes (well new.failed)
  pub failed : Fails w held holds old new

-- where the output was well, a builder wrote these bytes, or a beginning of them where the output failed
pub record Finished {W : Type 0} (w : Writer W) (held holds : W) (old new : Progress) (writes : BuildState → List ℕ)
    : Type 0 where
  pub bytes : old.failed ≡ false
      → Puts (w.contents held) (w.contents holds) (writes old.state) (well new.failed)
  pub failed : Fails w held holds old new
