-- What is done with a file by another form of its job, of its path or of its fate.
use Rattle.std.proofs.Common.{◌≡◌, refl, subst, sym, ℕ, List, [], ◌∷◌, Option, None, Bool, Result}
use Rattle.std.specs.declared.io.Error.{Error}
use Rattle.dcm_devices.specs.Writing.{Writer}
use Rattle.dcm_files.specs.declared.opened.FileKind.{FileKind}
use Rattle.dcm_files.specs.Devices.{MayDo}
use Rattle.dcm_cli.specs.Calls.{FinishesOn, Reports}
use Rattle.dcm_cli.specs.declared.ending.Ended.{Ended}
use Rattle.dcm_cli.specs.First.{ReadsFirst}
use Rattle.dcm_cli.specs.InputCalls.{Reader}
use Rattle.dcm_cli.specs.declared.ending.Ending.{Ending}
use Rattle.dcm_cli.specs.declared.ending.Remarks.{Remarks}
use Rattle.dcm_cli.specs.declared.first.FirstEnd.{FirstEnd}
use Rattle.dcm_instance.specs.ReadInstance.{ReadsInstance}
use Rattle.dcm_instance.specs.Same.{Compares}
use Rattle.dcm_instance.specs.Uids.{Uids}
use Rattle.dcm_instance.specs.declared.names.NoInstance.{NoInstance}
use Rattle.dcm_walk.specs.Visits.{Named}
use Rattle.dcm_base.specs.declared.dictionary.Dictionary.{Dictionary}
use Rattle.dcm_base.specs.declared.mode.Mode.{Mode}
use Rattle.dcm_base.specs.declared.syntax.Syntax.{Syntax}
use Rattle.dcm_words.specs.declared.job.Texts.{Texts}
use Rattle.dcm_words.specs.declared.job.Texts.TheVariants.{Bytes, Characters}
use Rattle.dcm_words.specs.Plans.{job_of}
use Rattle.dcm_base.specs.declared.tag.Tag.{Tag}
use Rattle.dcm_words.specs.Tags.{tags_of}
use Rattle.dcm_words.specs.Words.{Job, dump_as, dump_of}
use Rattle.dcm_words.specs.declared.job.Deidentify.{Deidentify}
use Rattle.dcm_words.specs.declared.job.Job.{Job as AnyJob}
use Rattle.dcm_words.specs.declared.job.Job.TheVariants as jobs
use Rattle.dcm_trees.specs.declared.fate.Fate.{Fate}
use Rattle.dcm_trees.specs.declared.file.Done.{Done}
use Rattle.dcm_trees.specs.declared.progress.Stop.{Stop as RunStop}
use Rattle.dcm_trees.specs.File.{DoesReady}
use Rattle.dcm_trees.specs.Instance.{DoesByInstance, PlacesPart, NamesPart}
use Rattle.dcm_trees.specs.Lines.{ended_lines}
use Rattle.dcm_trees.specs.Part.{FillsOn, after_closing}
use Rattle.dcm_trees.specs.Manner.{Manner}
use Rattle.dcm_tree_words.specs.Trees.{Tree}
use Rattle.dcm_trees.specs.Program.{Deidentifies, RunsAs, RunsTask}
use Rattle.dcm_trees.specs.Task.{Task, same}
use Rattle.dcm_trees.specs.World.{World}

pub ready_by : {S I O F E : Type 0} {w : World S I O F E} {m : Manner} {n : Named} {mode : ℕ} {path : List ℕ} {from : E} {before : S} {r : Result Fate RunStop} {to : E} {after : S} (job other : Job)
    → job ≡ other → DoesReady w job m n mode path from before r to after → DoesReady w other m n mode path from before r to after
ready_by {S} {I} {O} {F} {E} {w} {m} {n} {mode} {path} {from} {before} {r} {to} {after} job other is does =
    subst (λ (j : Job). DoesReady w j m n mode path from before r to after) is does

pub instance_by : {S I O F E : Type 0} {w : World S I O F E} {m : Manner} {n : Named} {mode : ℕ} {from : E} {before : S} {r : Result Done RunStop} {to : E} {after : S} (job other : Job)
    → job ≡ other → DoesByInstance w job m n mode from before r to after → DoesByInstance w other m n mode from before r to after
instance_by {S} {I} {O} {F} {E} {w} {m} {n} {mode} {from} {before} {r} {to} {after} job other is does =
    subst (λ (j : Job). DoesByInstance w j m n mode from before r to after) is does

pub places_at : {S I O F E : Type 0} {w : World S I O F E} {m : Manner} {name : List ℕ} {fate : Fate} {from : E} {before : S} {became : Fate} {to : E} {after : S} (path other : List ℕ)
    → path ≡ other → PlacesPart w m name path fate from before became to after → PlacesPart w m name other fate from before became to after
places_at {S} {I} {O} {F} {E} {w} {m} {name} {fate} {from} {before} {became} {to} {after} path other is places =
    subst (λ (p : List ℕ). PlacesPart w m name p fate from before became to after) is places

pub names_with : {S I O F E : Type 0} {w : World S I O F E} {m : Manner} {name : List ℕ} {from : E} {before : S} {done : Done} {to : E} {after : S} (fate other : Fate)
    → fate ≡ other → NamesPart w m name fate from before done to after → NamesPart w m name other from before done to after
names_with {S} {I} {O} {F} {E} {w} {m} {name} {from} {before} {done} {to} {after} fate other is names =
    subst (λ (f : Fate). NamesPart w m name f from before done to after) is names

pub task_by : {S I O F E : Type 0} {w : World S I O F E} {t : Tree} {key : Option FileKind} {from : E} {before : S} {status : ℕ} {to : E} {after : S} (task other : Task)
    → task ≡ other → RunsTask w t task key from before status to after → RunsTask w t other key from before status to after
task_by {S} {I} {O} {F} {E} {w} {t} {key} {from} {before} {status} {to} {after} task other is runs =
    subst (λ (k : Task). RunsTask w t k key from before status to after) is runs

-- what is done where the job is a dump
dumped_run : {S I O F E : Type 0} {w : World S I O F E} {t : Tree} {from : E} {before : S} {status : ℕ} {to : E} {after : S} (texts : Texts) (d : Dictionary) (mode : Mode) (bare : Option Syntax)
    → RunsTask w t (same t.plan.job) None from before status to after → RunsAs w t (dump_as texts d mode bare) from before status to after
dumped_run Bytes d mode bare runs = runs
dumped_run Characters d mode bare runs = runs

-- the same of elements that are named
named_run : {S I O F E : Type 0} {w : World S I O F E} {t : Tree} {from : E} {before : S} {status : ℕ} {to : E} {after : S} (tags : List Tag) (ways : Bool) (texts : Texts) (d : Dictionary) (mode : Mode) (bare : Option Syntax)
    → RunsTask w t (same t.plan.job) None from before status to after → RunsAs w t (dump_of (record { tags = tags; ways = ways }) texts d mode bare) from before status to after
named_run [] ways texts d mode bare runs = dumped_run texts d mode bare runs
named_run (tag ∷ tags) ways texts d mode bare runs = runs

-- what is done where the job is not the taking out of identity, and where it is
pub other_run : {A S I O F E : Type 0} {w : World S I O F E} {t : Tree} {from : E} {before : S} {status : ℕ} {to : E} {after : S} (j : AnyJob A) → ((d : Deidentify) → j ≡ jobs.Deidentify d → ⊥)
    → RunsTask w t (same t.plan.job) None from before status to after → RunsAs w t (job_of j) from before status to after
other_run (jobs.Dump d) other runs = named_run (tags_of d.named.tags) d.named.ways d.texts d.dictionary d.mode d.bare runs
other_run (jobs.Convert d) other runs = runs
other_run (jobs.Build d) other runs = runs
other_run (jobs.Modify d) other runs = runs
other_run (jobs.Deidentify d) other runs = absurd (other d refl)

pub identity_run : {A S I O F E : Type 0} {w : World S I O F E} {t : Tree} {from : E} {before : S} {status : ℕ} {to : E} {after : S} (j : AnyJob A) (d : Deidentify) → j ≡ jobs.Deidentify d
    → Deidentifies w t d.options d.reports from before status to after → RunsAs w t (job_of j) from before status to after
identity_run {A} {S} {I} {O} {F} {E} {w} {t} {from} {before} {status} {to} {after} j d is runs =
    subst (λ (x : AnyJob A). RunsAs w t (job_of x) from before status to after) (sym is) runs

-- ---- readers by other forms of them

pub first_of : {R : Type 0} {r : Reader R} {left : R} {key : List ℕ} {end : FirstEnd} (input device : R)
    → input ≡ device → ReadsFirst r input left key end → ReadsFirst r device left key end
first_of {R} {r} {left} {key} {end} input device is reads = subst (λ (i : R). ReadsFirst r i left key end) is reads

pub instance_of : {R : Type 0} {r : Reader R} {left : R} {answer : Result Uids NoInstance} (input device : R)
    → input ≡ device → ReadsInstance r input left answer → ReadsInstance r device left answer
instance_of {R} {r} {left} {answer} input device is reads = subst (λ (i : R). ReadsInstance r i left answer) is reads

pub compares_of : {A B : Type 0} {a : Reader A} {b : Reader B} {first_left : A} {second_left : B} {same : Bool} (first one : A) (second other : B)
    → first ≡ one → second ≡ other → Compares a b first first_left second second_left same → Compares a b one first_left other second_left same
compares_of {A} {B} {a} {b} {first_left} {second_left} {same} first one second other is are compares =
    subst (λ (x : A). Compares a b x first_left other second_left same) is (subst (λ (y : B). Compares a b first first_left y second_left same) are compares)

-- what was told of what is remarked of a file
pub told_as : {E : Type 0} (e : Writer E) (name : List ℕ) (ending : Ending) (one other : Remarks) (from to : E) → one ≡ other → Reports e from to (ended_lines name ending other) → Reports e from to (ended_lines name ending one)
told_as e name ending one other from to is h = subst (λ (r : Remarks). Reports e from to (ended_lines name ending r)) (sym is) h

-- a job was done from a file into the part
pub fills_of : {S I O : Type 0} {may : MayDo S I O} {r : Reader I} {w : Writer O} {job : Job} {input one back left : I} {output other device written : O} {before after : S} {ended : Ended} {ending : Ending} (closed : S) (closing : Result (Unit {0}) Error)
    → one ≡ input → other ≡ output → FinishesOn r w job one left other written ended → device ≡ written → may.closes before device closing closed → back ≡ left → may.releases closed back after → ending ≡ after_closing ended.ending closing
    → FillsOn may r w job input output before (record { remarks = ended.remarks; ending = ending }) after
fills_of {S} {I} {O} {may} {r} {w} {job} {input} {one} {back} {left} {output} {other} {device} {written} {before} {after} {ended} {ending} closed closing first second done gives closes returns releases is =
    let on : FinishesOn r w job input left output written ended =
    subst (λ (x : I). FinishesOn r w job x left output written ended) first (subst (λ (y : O). FinishesOn r w job one left y written ended) second done) in
    record {
      fills = record {
        left = left;
        written = written;
        closed = closed;
        ended = ended.ending;
        closing = closing;
        finished = on.finishes;
        remarks = ended.remarks;
        remarked = on.remarked;
        closes = subst (λ (x : O). may.closes before x closing closed) gives closes;
        releases = subst (λ (x : I). may.releases closed x after) returns releases;
        ending_is = is;
      };
      remarks_are = refl;
    }
