use Rattle.dcm_uid.proofs.Pseudonyms.{messages_apart, no_message_is_a_uid}
use Rattle.dcm_uid.proofs.laws.messages_differ.Goals as goal

pub returns-clause-apart : goal.returns-clause-apart
returns-clause-apart c = messages_apart

pub returns-clause-no_uids : goal.returns-clause-no_uids
returns-clause-no_uids c = no_message_is_a_uid
