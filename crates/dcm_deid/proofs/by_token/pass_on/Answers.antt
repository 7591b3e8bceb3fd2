use Rattle.dcm_stream.specs.declared.token.Token.TheVariants as tokens
use Rattle.dcm_deid.proofs.Taking.{goes_on_by, passed_by}
use Rattle.dcm_deid.proofs.by_token.pass_on.Goals as goal

pub returns-in-Open-clause-took : goal.returns-in-Open-clause-took
returns-in-Open-clause-took g c = passed_by g.S.Sink c.args.sink.now c.pass_on_head.new.sink c.args.options.now c.args.key.now.bytes.now c.args.place.now c.args.token (tokens.Open c.in-Open.head c.in-Open.syntax) c.pass_on_head.result c.in-Open.is (c.pass_on_head.ensures.took c.args.key.now.bytes.now)

pub returns-in-Open-clause-state : goal.returns-in-Open-clause-state
returns-in-Open-clause-state g c = goes_on_by c.pass_on_head.result c.args.options.now c.args.place.now c.pass_on_head.new.place c.args.token (tokens.Open c.in-Open.head c.in-Open.syntax) c.in-Open.is c.pass_on_head.ensures.state

pub returns-in-Bytes-clause-took : goal.returns-in-Bytes-clause-took
returns-in-Bytes-clause-took g c = passed_by g.S.Sink c.args.sink.now c.pass_on_bytes.new.sink c.args.options.now c.args.key.now.bytes.now c.args.place.now c.args.token (tokens.Bytes c.in-Bytes.bytes) c.pass_on_bytes.result c.in-Bytes.is (c.pass_on_bytes.ensures.took c.args.key.now.bytes.now)

pub returns-in-Bytes-clause-state : goal.returns-in-Bytes-clause-state
returns-in-Bytes-clause-state g c = goes_on_by c.pass_on_bytes.result c.args.options.now c.args.place.now c.pass_on_bytes.new.place c.args.token (tokens.Bytes c.in-Bytes.bytes) c.in-Bytes.is c.pass_on_bytes.ensures.state

pub returns-in-CloseLeaf-clause-state : goal.returns-in-CloseLeaf-clause-state
returns-in-CloseLeaf-clause-state g c = goes_on_by c.pass_on_value_end.result c.args.options.now c.args.place.now c.pass_on_value_end.new.place c.args.token tokens.CloseLeaf c.in-CloseLeaf.is c.pass_on_value_end.ensures.state

pub returns-in-OpenItem-clause-took : goal.returns-in-OpenItem-clause-took
returns-in-OpenItem-clause-took g c = passed_by g.S.Sink c.args.sink.now c.pass_on_item.new.sink c.args.options.now c.args.key.now.bytes.now c.args.place.now c.args.token (tokens.OpenItem c.in-OpenItem.length) c.pass_on_item.result c.in-OpenItem.is (c.pass_on_item.ensures.took c.args.key.now.bytes.now)

pub returns-in-OpenItem-clause-state : goal.returns-in-OpenItem-clause-state
returns-in-OpenItem-clause-state g c = goes_on_by c.pass_on_item.result c.args.options.now c.args.place.now c.pass_on_item.new.place c.args.token (tokens.OpenItem c.in-OpenItem.length) c.in-OpenItem.is c.pass_on_item.ensures.state

pub returns-in-CloseItem-clause-took : goal.returns-in-CloseItem-clause-took
returns-in-CloseItem-clause-took g c = passed_by g.S.Sink c.args.sink.now c.pass_on_item_end.new.sink c.args.options.now c.args.key.now.bytes.now c.args.place.now c.args.token tokens.CloseItem c.pass_on_item_end.result c.in-CloseItem.is (c.pass_on_item_end.ensures.took c.args.key.now.bytes.now)

pub returns-in-CloseItem-clause-state : goal.returns-in-CloseItem-clause-state
returns-in-CloseItem-clause-state g c = goes_on_by c.pass_on_item_end.result c.args.options.now c.args.place.now c.pass_on_item_end.new.place c.args.token tokens.CloseItem c.in-CloseItem.is c.pass_on_item_end.ensures.state

pub returns-in-CloseSeq-clause-took : goal.returns-in-CloseSeq-clause-took
returns-in-CloseSeq-clause-took g c = passed_by g.S.Sink c.args.sink.now c.pass_on_sequence_end.new.sink c.args.options.now c.args.key.now.bytes.now c.args.place.now c.args.token tokens.CloseSeq c.pass_on_sequence_end.result c.in-CloseSeq.is (c.pass_on_sequence_end.ensures.took c.args.key.now.bytes.now)

pub returns-in-CloseSeq-clause-state : goal.returns-in-CloseSeq-clause-state
returns-in-CloseSeq-clause-state g c = goes_on_by c.pass_on_sequence_end.result c.args.options.now c.args.place.now c.pass_on_sequence_end.new.place c.args.token tokens.CloseSeq c.in-CloseSeq.is c.pass_on_sequence_end.ensures.state

pub returns-in-OpenFragment-clause-took : goal.returns-in-OpenFragment-clause-took
returns-in-OpenFragment-clause-took g c = passed_by g.S.Sink c.args.sink.now c.pass_on_fragment.new.sink c.args.options.now c.args.key.now.bytes.now c.args.place.now c.args.token (tokens.OpenFragment c.in-OpenFragment.size) c.pass_on_fragment.result c.in-OpenFragment.is (c.pass_on_fragment.ensures.took c.args.key.now.bytes.now)

pub returns-in-OpenFragment-clause-state : goal.returns-in-OpenFragment-clause-state
returns-in-OpenFragment-clause-state g c = goes_on_by c.pass_on_fragment.result c.args.options.now c.args.place.now c.pass_on_fragment.new.place c.args.token (tokens.OpenFragment c.in-OpenFragment.size) c.in-OpenFragment.is c.pass_on_fragment.ensures.state

pub returns-in-End-clause-took : goal.returns-in-End-clause-took
returns-in-End-clause-took g c = passed_by g.S.Sink c.args.sink.now c.pass_on_end.new.sink c.args.options.now c.args.key.now.bytes.now c.args.place.now c.args.token tokens.End c.pass_on_end.result c.in-End.is (c.pass_on_end.ensures.took c.args.key.now.bytes.now)

pub returns-in-End-clause-state : goal.returns-in-End-clause-state
returns-in-End-clause-state g c = goes_on_by c.pass_on_end.result c.args.options.now c.args.place.now c.pass_on_end.new.place c.args.token tokens.End c.in-End.is c.pass_on_end.ensures.state
