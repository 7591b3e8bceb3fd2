use Rattle.std.proofs.Common.{◌≡◌, take}
use Rattle.std.specs.Prelude.{flat_map}
use Rattle.dcm_names.proofs.named_lines.compose.Given as goal

-- the line has the parts so far
abbrev pub invariant-loop-part : goal.invariant-loop-part
invariant-loop-part l = l.line.items ≡ flat_map (λ part. part.now) (take l.part-index l.parts)
