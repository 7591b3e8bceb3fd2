use Rattle.dcm_base.proofs.Dictionaries.Entries.{all_fit}
use Rattle.dcm_base.proofs.dictionary.standard_tag.Goals as goal

-- the keywords of the table lie within the text
pub called_in-requires : goal.called_in-requires
called_in-requires c = all_fit _ _ c.keywords.ensures c.entries.ensures
