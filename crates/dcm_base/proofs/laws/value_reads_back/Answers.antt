use Rattle.dcm_base.proofs.DumpsBack.Texts.{bytes_of}
use Rattle.dcm_base.proofs.DumpsBack.Values.{value_back}
use Rattle.dcm_base.proofs.laws.value_reads_back.Goals as goal

pub returns : goal.returns
returns c = λ vr v plain bytes units long. value_back vr v plain (bytes_of v bytes) units long
