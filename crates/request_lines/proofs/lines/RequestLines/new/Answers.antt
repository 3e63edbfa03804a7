use Rattle.std.proofs.Common.{refl, sym, ap, subst, arith}
use Rattle.fsb_laws.specs.Orderly.{Orderly}
use Rattle.fsb_laws.proofs.Interface.{orderly-empty}
use Rattle.fsb_owner_feed.specs.Table.{Stands as TableStands}
use Rattle.request_lines.proofs.Sounds.{found-first, sound-first}
use Rattle.request_lines.proofs.lines.RequestLines.new.Goals as goal

pub returns : goal.returns
returns c =
    let m = c.args.marks in
    let none = c.new-2.ensures.fed in
    record {
      formed = refl;
      found = found-first m;
      checker = λ e. c.new.ensures;
      table = subst (λ v. TableStands c.new-2.result v) (sym (sound-first m)) c.new-2.ensures.stands;
      orderly = subst Orderly (sym (sound-first m)) orderly-empty;
      few = omega (arith, none);
    }
