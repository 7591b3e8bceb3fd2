use Rattle.std.proofs.Common.{refl}
use Rattle.dcm_text.specs.Sets.{sets_of, terms}
use Rattle.dcm_text.proofs.Displays.{utf8_dump, utf8_cell}
use Rattle.dcm_text.proofs.Utf8.{chars_decoded}
use Rattle.dcm_text.proofs.laws.utf8_as_it_is.Goals as goal

pub returns : goal.returns
unfolding sets_of terms
returns c = record {
  named = record { start = refl; alone = refl };
  characters = chars_decoded;
  dumped = utf8_dump;
  cell = utf8_cell;
}
