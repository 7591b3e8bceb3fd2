use Rattle.std.proofs.Common.{arith}
use Rattle.dcm_base.specs.declared.length.Length.{Length}
use Rattle.dcm_base.specs.declared.length.Length.TheVariants.{Known, Undefined}
use Rattle.dcm_base.specs.Tables.Number.{HasLength}
use Rattle.dcm_base.proofs.DumpsBack.Texts.{bytes_of}
use Rattle.dcm_base_laws.proofs.DumpsBack.LineMeanings.{IsSmall}
use Rattle.dcm_base_laws.proofs.DumpsBack.Steps.{leaf_reads, fragment_reads, sequence_reads, fragments_read, item_reads, item_end_reads, sequence_end_reads}
use Rattle.dcm_base_laws.proofs.laws.line_reads_back.Goals as goal

is_small : (size : Length) → HasLength size → IsSmall size
is_small (Known n) h = omega (arith, h)
is_small Undefined h = tt

pub returns-clause-leaf : goal.returns-clause-leaf
returns-clause-leaf c = λ d level tag vr v is other plain bytes few units long. leaf_reads d level tag vr v is other plain (bytes_of v bytes) few units long

pub returns-clause-fragment : goal.returns-clause-fragment
returns-clause-fragment c = λ d level v bytes few long. fragment_reads d level v (bytes_of v bytes) few long

pub returns-clause-sequence : goal.returns-clause-sequence
returns-clause-sequence c = λ d level tag vr size has. sequence_reads d level tag vr size (is_small size has)

pub returns-clause-fragments : goal.returns-clause-fragments
returns-clause-fragments c = fragments_read

pub returns-clause-item : goal.returns-clause-item
returns-clause-item c = λ d level size has. item_reads d level size (is_small size has)

pub returns-clause-item_end : goal.returns-clause-item_end
returns-clause-item_end c = item_end_reads

pub returns-clause-sequence_end : goal.returns-clause-sequence_end
returns-clause-sequence_end c = sequence_end_reads
