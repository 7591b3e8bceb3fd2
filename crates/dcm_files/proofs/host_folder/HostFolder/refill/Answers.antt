use Rattle.std.proofs.Common.{rules}
use Rattle.dcm_files.proofs.Listings.{refill_needless, refill_failed}
use Rattle.dcm_files.proofs.host_folder.HostFolder.refill.Goals as goal

pub returns-then-self : goal.returns-then-self
returns-then-self g c =
    let f = c.self.inside in
    refill_needless g.D.Read.remaining g.D.StdReader.may_read f.names f.held f.at f.filled c.args.self.now c.self.view_is (search rules) (search rules)

pub returns-in_err-size : goal.returns-in_err-size
returns-in_err-size g c =
    let f = c.self.inside in
    refill_failed g.D.Read.remaining g.D.StdReader.may_read f.names c.read_some.new.self f.held c.read_some.new.buf f.at f.filled c.args.self.now c.from_residual.result c.in_err-size.field-0.0
    c.self.view_is (search rules) (search rules) (search rules) (search rules) c.in_err-size.ensures.bytes c.in_err-size.ensures.answer
