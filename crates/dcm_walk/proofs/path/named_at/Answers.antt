use Rattle.std.proofs.Common.{◌≡◌, ◌∙◌, ap, List, ℕ, drop, take, arith}
use Rattle.dcm_names.proofs.Kept.{first_bytes}
use Rattle.dcm_walk.specs.Folder.{named_at}
use Rattle.dcm_walk.specs.Visits.{Named}
use Rattle.dcm_walk.proofs.path.named_at.Goals as goal

abbrev by_name : (path name : List ℕ) → Named
by_name path name = record { name = name; relative = name; path = path }

of_parts : (base : ℕ) (name within path items : List ℕ) → name ≡ take 4096 within → within ≡ drop base path
    → path ≡ items → record { name = name; relative = name; path = path } ≡ named_at base items
of_parts base name within path items first is at =
    let whole : name ≡ take 4096 (drop base path) = first ∙ ap (take 4096) is in
    ap (by_name path) whole ∙ ap (named_at base) at

pub returns : goal.returns
returns c =
    let within : List ℕ = c.split_at.result.1.now in
    of_parts c.args.base c.split_at-2.result.0.now within c.as_slice-path.result.now c.args.path.now.items
    (c.split_at-2.ensures.front ∙ first_bytes 4096 within c.min.result (omega (arith, c.min.ensures)))
    c.split_at.ensures.back c.as_slice-path.ensures.value
