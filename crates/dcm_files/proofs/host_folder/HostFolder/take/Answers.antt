use Rattle.std.proofs.Common.{rules, ◌≡◌, ◌∙◌, ap, List, ℕ, take, drop}
use Rattle.std.specs.Prelude.{IsOk}
use Rattle.dcm_files.specs.HostFolder.{name_size}
use Rattle.dcm_files.proofs.Listings.{added, taken}
use Rattle.dcm_files.proofs.host_folder.HostFolder.take.Goals as goal

pub returns : goal.returns
returns g c =
    let f = c.self.inside in
    let left : c.split_at-2.result.1.now ≡ drop f.at (take f.filled f.held) = c.split_at-2.ensures.back ∙ ap (λ (b : List ℕ). drop f.at b) c.split_at.ensures.front in
    let size : c.name_size-length.result ≡ name_size (drop f.at (take f.filled f.held)) = c.name_size-length.ensures.size ∙ ap (λ (b : List ℕ). name_size b) left in
    let name : c.split_at-3.result.0.now ≡ take c.name_size-length.result (drop f.at (take f.filled f.held)) = c.split_at-3.ensures.front ∙ ap (λ (b : List ℕ). take c.name_size-length.result b) left in
    let fits : IsOk c.try_extend_from_slice.result = c.try_extend_from_slice.ensures.variant.1 (search rules) in
    taken f.names f.held f.at f.filled c.name_size-length.result c.min-self-inside.result c.args.self.now c.try_extend_from_slice.new.self.items c.self.view_is (search rules) size c.min-self-inside.ensures
    (added _ _ _ _ fits c.try_extend_from_slice.ensures.ok c.clear.ensures ∙ name)
