use Rattle.std.proofs.Common.{◌≡◌, take, fold}
use Rattle.dcm_trees.specs.Share.{hash_byte}
use Rattle.dcm_trees.proofs.share.hash.Given as goal

abbrev pub invariant-loop-byte : goal.invariant-loop-byte
invariant-loop-byte l = l.hash ≡ fold hash_byte 2166136261 (take l.byte-index l.bytes)
