-- The folders on the way to a path, and the paths in the folder of the outputs.
use Rattle.std.proofs.Common.{◌≡◌, ◌∙◌, sym, ap, ℕ, ◌+◌, ◌-◌, ◌<◌, ◌≤◌, List, [], ◌∷◌, ◌++◌, length, take, drop, Some, arith, append_assoc, length-append}
use Rattle.std.specs.Prelude.{◌≢◌, codes, slice_index}
use Rattle.std.proofs.lemmas.List.{append_cancel_left, take-append-drop, drop_more, get_or-drop, length-take, length-drop}
use Rattle.std.proofs.lemmas.Bool.{eqb-true}
use Rattle.std.proofs.Math.Seq.{take-append-add}
use Rattle.dcm_walk.specs.List.{IsSlash}
use Rattle.dcm_walk.specs.Names.{below}
use Rattle.dcm_tree_laws.proofs.Near.{IsNear, near}

-- a slash is behind this folder
behind_slash : (path : List ℕ) (n b : ℕ) → n < length path → slice_index path n ≡ b → b ≡ 47 → path ≡ take n path ++ (47 ∷ drop (n + 1) path)
behind_slash path n b inside is slash =
    sym (take-append-drop n path) ∙ ap (λ (rest : List ℕ). take n path ++ rest) (drop_more path n _ inside ∙ ap (λ (c : ℕ). c ∷ drop (n + 1) path) (is ∙ slash))

as_below : (folder rest : List ℕ) → folder ++ (47 ∷ rest) ≡ below folder rest
as_below folder rest = sym (append_assoc folder (codes "/") rest)

pub on_its_way : (path : List ℕ) (at size : ℕ) → IsSlash (drop at path) (Some size) → path ≡ below (take (at + size) path) (drop (at + size + 1) path)
on_its_way path at size slash =
    let inside : at + size < length path = omega (arith, slash.0, length-drop at path) in
    behind_slash path (at + size) (slice_index (drop at path) size) inside (sym (get_or-drop at path size _)) (eqb-true (slice_index (drop at path) size) 47 slash.1)
    ∙ as_below (take (at + size) path) (drop (at + size + 1) path)

pub not_empty : (path : List ℕ) (at size : ℕ) → 0 < at → IsSlash (drop at path) (Some size) → take (at + size) path ≢ []
not_empty path at size some slash empty =
    let none : length (take (at + size) path) ≡ 0 = ap length empty in
    omega (arith, some, slash.0, length-drop at path, length-take (at + size) path, none)

-- the folders on the way to an output are of the folder of the outputs
pub within_output : (output relative : List ℕ) (m k : ℕ) → m ≡ length (output ++ codes "/") + k → take m (below output relative) ≡ below output (take k relative)
within_output output relative m k is = ap (λ (n : ℕ). take n (below output relative)) is ∙ take-append-add (output ++ codes "/") relative k

pub way_is_of_output : (output relative path : List ℕ) (m : ℕ) → path ≡ below output relative → length output + 1 ≤ m → IsNear output (take m path)
way_is_of_output output relative path m is behind =
    let k : m ≡ length (output ++ codes "/") + (m - (length output + 1)) = omega (arith, behind, length-append output (codes "/")) in
    near (take (m - (length output + 1)) relative) (ap (take m) is ∙ within_output output relative m (m - (length output + 1)) k)

-- a folder on the way to an output is one of its name
pub way_cut : (output relative folder rest : List ℕ) → below output relative ≡ below (below output folder) rest → relative ≡ below folder rest
way_cut output relative folder rest is =
    append_cancel_left (output ++ codes "/") relative (below folder rest)
    (is ∙ ap (λ (x : List ℕ). x ++ rest) (append_assoc (output ++ codes "/") folder (codes "/")) ∙ append_assoc (output ++ codes "/") (folder ++ codes "/") rest)

-- a folder on the way to an output, up to a slash of its path
pub record WayFolder (output relative folder_path : List ℕ) : Type 0 where
  pub folder : List ℕ
  pub behind : List ℕ
  pub cut : relative ≡ below folder behind
  pub is : folder_path ≡ below output folder

pub way_folder : (output relative path : List ℕ) → path ≡ below output relative → (at size : ℕ) → length output + 1 ≤ at → IsSlash (drop at path) (Some size) → WayFolder output relative (take (at + size) path)
way_folder output relative path is at size least slash =
    let rest : List ℕ = drop (at + size + 1) path in
    let folder : List ℕ = take (at + size - (length output + 1)) relative in
    let taken : take (at + size) path ≡ below output folder = ap (take (at + size)) is ∙ within_output output relative (at + size) (at + size - (length output + 1)) (omega (arith, least, length-append output (codes "/"))) in
    record {
      folder = folder;
      behind = rest;
      cut = way_cut output relative folder rest (sym is ∙ on_its_way path at size slash ∙ ap (λ (p : List ℕ). below p rest) taken);
      is = taken;
    }
