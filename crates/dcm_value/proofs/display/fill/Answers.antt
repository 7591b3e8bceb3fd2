use Rattle.std.proofs.Common.{arith, rules, ◌≡◌, ◌++◌, take, length, min}
use Rattle.dcm_value.proofs.Displays.Facts.{fills, fills_one}
use Rattle.dcm_value.proofs.display.fill.Goals as goal

pub returns-in-len1 : goal.returns-in-len1
returns-in-len1 c =
    let pushed = c.try_push in
    fills_one c.args.front.now.items c.args.bytes.now pushed.new.self.items pushed.result (search rules) pushed.ensures.ok
    (search rules) (search rules) pushed.ensures.full

pub returns : goal.returns
returns c =
    let xs = c.args.front.now.items in
    let ys = c.args.bytes.now in
    let all : xs ++ take (min c.remaining_capacity.result (length ys)) ys ≡ take 66 (xs ++ ys) = fills 66 c.remaining_capacity.result xs ys (omega arith) in
    rw (← all) (search rules)
