-- A run by other forms of its part's name and of its list.
use Rattle.std.proofs.Common.{Global, ◌≡◌, ◌∙◌, sym, subst, ℕ, List, Bool, Result, Err}
use Rattle.dcm_devices.specs.Writing.{Writer}
use Rattle.dcm_files.specs.Devices.{MayDo}
use Rattle.dcm_files.specs.Folders.{FoldersDo}
use Rattle.dcm_files.specs.declared.opened.FileKind.{FileKind}
use Rattle.dcm_trees.specs.declared.beginning.Begun.{Begun}
use Rattle.dcm_trees.specs.declared.beginning.Refusal.{Refusal}
use Rattle.dcm_trees.specs.declared.beginning.Spared.{Spared}
use Rattle.dcm_trees.specs.declared.run.TreeRun.{TreeRun}
use Rattle.dcm_trees.specs.Beginning.{ClearsWay, ChecksUse, Begins}
use Rattle.dcm_walk.specs.declared.list.ListEnd.{ListEnd}
use Rattle.dcm_walk.specs.declared.visitor.Stopped.{Stopped}
use Rattle.dcm_trees.specs.declared.progress.Shared.{Shared}
use Rattle.dcm_trees.specs.declared.progress.Work.{Work}
use Rattle.dcm_trees.specs.Run.{Shares, EndsRun}
use Rattle.dcm_trees.specs.Work.{Progress, progress, nothing_done}
use Rattle.dcm_words.specs.declared.usage.Usage.{Usage}
use Rattle.dcm_words.specs.declared.usage.Usage.TheVariants.{AtWord, Whole, InEdit, InElement, TooManyElements, Memory}
use Rattle.dcm_tree_words.specs.Plans.{GivesTreeUnlessMemory}
use Rattle.dcm_tree_words.specs.declared.said.TreeOptions.{TreeOptions}
use Rattle.dcm_walk.specs.declared.folder.FolderNumber.{FolderNumber}
use Rattle.dcm_tree_words.specs.Trees.{Source, meant_tree}
use Rattle.dcm_cli.specs.Calls.{Reports}
use Rattle.dcm_cli.specs.ErrorLines.{usage_line, usage_status}
use Rattle.dcm_trees.specs.Program.{ObeysTree, refused, no_memory}
use Rattle.dcm_trees.specs.Tree.{DoesNames, DoesTree, BeginsWork}
use Rattle.dcm_trees.specs.World.{World}

pub clears_as : {S I O F E : Type 0} {may : MayDo S I O} {d : FoldersDo S O F} {e : Writer E} {path other name : List ℕ} {spared : Spared} {from : E} {before : S} {r : Result (Unit {0}) Refusal} {to : E} {after : S}
    → path ≡ other → ClearsWay may d e path name spared from before r to after → ClearsWay may d e other name spared from before r to after
clears_as {S} {I} {O} {F} {E} {may} {d} {e} {path} {other} {name} {spared} {from} {before} {r} {to} {after} is clears =
    subst (λ (p : List ℕ). ClearsWay may d e p name spared from before r to after) is clears

pub checks_as : {S I O F : Type 0} {may : MayDo S I O} {d : FoldersDo S O F} {input : List ℕ} {is_list : Bool} {output : List ℕ} {number : FolderNumber} {part path other : List ℕ} {options : TreeOptions} {before : S} {r : Result (Unit {0}) Refusal} {after : S}
    → path ≡ other → ChecksUse may d input is_list output number part path options before r after → ChecksUse may d input is_list output number part other options before r after
checks_as {S} {I} {O} {F} {may} {d} {input} {is_list} {output} {number} {part} {path} {other} {options} {before} {r} {after} is checks =
    subst (λ (p : List ℕ). ChecksUse may d input is_list output number part p options before r after) is checks

pub begins_as : {S I O F E : Type 0} {may : MayDo S I O} {d : FoldersDo S O F} {e : Writer E} {input : List ℕ} {is_list : Bool} {output : List ℕ} {options : TreeOptions} {from : E} {before : S} {r : Result Begun Refusal} {to : E} {after : S} {part name other : List ℕ} {spared also : Spared}
    → part ≡ name → name ≡ other → spared ≡ also → Begins may d e input is_list output part options spared from before r to after → Begins may d e input is_list output other options also from before r to after
begins_as {S} {I} {O} {F} {E} {may} {d} {e} {input} {is_list} {output} {options} {from} {before} {r} {to} {after} {part} {name} {other} {spared} {also} is named spares begins =
    subst (λ (x : Spared). Begins may d e input is_list output other options x from before r to after) spares (subst (λ (p : List ℕ). Begins may d e input is_list output p options spared from before r to after) (is ∙ named) begins)

pub names_of : {S I O F W E : Type 0} {w : World S I O F E} {m : Writer W} {run : TreeRun} {list : List ℕ} {kind : FileKind} {input device : I} {manifest : W} {from : E} {before : S} {status : ℕ} {left : W} {to : E} {after : S} {read : I}
    → input ≡ device → DoesNames w m run list kind input manifest from before status left to after read → DoesNames w m run list kind device manifest from before status left to after read
names_of {S} {I} {O} {F} {W} {E} {w} {m} {run} {list} {kind} {input} {device} {manifest} {from} {before} {status} {left} {to} {after} {read} is does =
    subst (λ (i : I). DoesNames w m run list kind i manifest from before status left to after read) is does

pub begins_work : {W : Type 0} {run : TreeRun} {begun : Begun} {manifest : W} {start : Work W} {shared : Shared} {part : List ℕ}
    → progress start ≡ nothing_done manifest → start.shared ≡ shared → part ≡ begun.part.items → Shares run part shared → BeginsWork run begun manifest start
begins_work {W} {run} {begun} {manifest} {start} {shared} {part} nothing is named shares = record {
  nothing = nothing;
  shares = subst (λ (s : Shared). Shares run begun.part.items s) (sym is) (subst (λ (p : List ℕ). Shares run p shared) named shares);
}

pub ends_as : {W E : Type 0} {e : Writer E} {last : Progress W} {shows : Bool} {walked listing : Result ListEnd Stopped} {list other part name named : List ℕ} {from : E} {status : ℕ} {to : E}
    → walked ≡ listing → list ≡ other → part ≡ name → name ≡ named → EndsRun e last shows walked list part from status to → EndsRun e last shows listing other named from status to
ends_as {W} {E} {e} {last} {shows} {walked} {listing} {list} {other} {part} {name} {named} {from} {status} {to} is listed partly called ends =
    subst (λ (r : Result ListEnd Stopped). EndsRun e last shows r other named from status to) is
    (subst (λ (l : List ℕ). EndsRun e last shows walked l named from status to) listed
    (subst (λ (p : List ℕ). EndsRun e last shows walked list p from status to) (partly ∙ called) ends))

-- a run by another form of its manifest
pub tree_of : {S I O F W E : Type 0} {w : World S I O F E} {m : Writer W} {run : TreeRun} {source : Source} {manifest device : W} {from : E} {before : S} {status : ℕ} {left : W} {to : E} {after : S}
    → manifest ≡ device → DoesTree w m run source manifest from before status left to after → DoesTree w m run source device from before status left to after
tree_of {S} {I} {O} {F} {W} {E} {w} {m} {run} {source} {manifest} {device} {from} {before} {status} {left} {to} {after} is does =
    subst (λ (d : W). DoesTree w m run source d from before status left to after) is does

-- words that are refused, or for which there is no memory
pub refused_of : {S I O F E : Type 0} {w : World S I O F E} {words : List (List ℕ)} {from : E} {before : S} {status : ℕ} {to : E} {after : S} (u : Usage)
    → GivesTreeUnlessMemory {A = Global} (Err u) (meant_tree words) → Reports w.errors from to (usage_line u) → status ≡ usage_status u → after ≡ before → ObeysTree w words from before status to after
refused_of Memory meant told is same = no_memory told is same
refused_of (AtWord fault n) meant told is same = refused (AtWord fault n) meant told is same
refused_of (Whole fault) meant told is same = refused (Whole fault) meant told is same
refused_of (InEdit fault n) meant told is same = refused (InEdit fault n) meant told is same
refused_of (InElement fault n) meant told is same = refused (InElement fault n) meant told is same
refused_of TooManyElements meant told is same = refused TooManyElements meant told is same
