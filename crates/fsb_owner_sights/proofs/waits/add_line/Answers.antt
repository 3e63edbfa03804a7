use Rattle.std.proofs.Common.{◌≡◌, false, arith}
use Rattle.fsb_owner_sights.proofs.WaitLists.{added}
use Rattle.fsb_owner_sights.proofs.waits.add_line.Goals as goal

pub returns-in_ok-push-clause-shown : goal.returns-in_ok-push-clause-shown
returns-in_ok-push-clause-shown c =
    λ v k n e s.
    let none : c.is_listed.result ≡ false = grind arith in
    added v c.args.clock c.args.waits.now.items c.as_slice.result.now c.push.new.self.items c.waiting.result c.args.line
    c.is_listed.result c.as_slice.ensures.value c.is_listed.ensures none c.waiting.ensures.line c.in_ok-push.ensures.items
    (c.waiting.ensures.ready v n e) (c.waiting.ensures.drops v k n e) s
