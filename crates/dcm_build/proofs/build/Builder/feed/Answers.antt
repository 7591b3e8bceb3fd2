use Rattle.std.proofs.Common.{◌∙◌, ap, not, [], ◌≡◌, None}
use Rattle.dcm_build.proofs.Files.Calls.{none_of, gone_by, gone_nowhere, gone_still, tells_by, tells_begin}
use Rattle.dcm_build.proofs.build.Builder.feed.Goals as goal
use Rattle.dcm_build.proofs.build.Builder.feed.Goals.{then-is_none, else-is_none}

pub returns-clause-went : goal.returns-clause-went
returns-clause-went g c =
    let before = c.self.inside.reader in
    let halt = c.self.inside.halt in
    let p = c.args.self.now in
    elim c.if-is_none.branch [
      | then-is_none w ↦
          let none : halt ≡ None = none_of halt (c.is_none.ensures ∙ ap not w.if-is_none.true) in
          rw (w.self-inside-is, w.out-is) (record {
            goes = λ fine. gone_by p (g.W.DeviceOut.contents c.args.out.now) before w.read_all.new.self (g.W.DeviceOut.contents w.read_all.new.out) c.args.piece.now halt w.err-self-inside.result w.read_all.result c.self.view_is none w.err-self-inside.ensures.value
                w.read_all.ensures.fed.feeds;
            failed = λ h. tells_by _ _ w.err-self-inside.result w.read_all.result w.err-self-inside.ensures.value w.read_all.ensures.fed.failed;
          })
      | else-is_none w ↦
          let some = c.is_none.ensures ∙ ap not w.if-is_none.false in
          rw (w.self-inside-is, w.out-is) (record {
            goes = λ fine. gone_still p.state (g.W.DeviceOut.contents c.args.out.now) before (g.W.DeviceOut.contents c.args.out.now) [] c.args.piece.now halt some (gone_nowhere before halt p (g.W.DeviceOut.contents c.args.out.now) c.self.view_is fine);
            failed = λ h. tells_begin (g.W.Device.has_failed c.args.out.now) before halt p c.self.view_is h;
          })
    ]
