use Rattle.dcm_value.proofs.Displays.DecodedUtf8.{decoded_text_is_utf8, decoded_so_far_is_utf8}
use Rattle.dcm_value.proofs.laws.decoded_is_utf8.Goals as goal

pub returns : goal.returns
returns c = record { whole = decoded_text_is_utf8; so_far = decoded_so_far_is_utf8 }
