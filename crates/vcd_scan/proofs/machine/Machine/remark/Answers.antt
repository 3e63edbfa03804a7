use Rattle.std.proofs.Common.{◌≡◌, ◌++◌, [], ◌∷◌, if◌then◌else◌, sym, ap, ◌∙◌}
use Rattle.vcd_way.specs.Declarations.{with_word}
use Rattle.vcd_way.specs.Steps.{AtValues, InRemark, moves_to}
use Rattle.vcd_scan.specs.Erased.{heard_in, words_heard, heard_with, section_from, remarks_from, erased}
use Rattle.vcd_scan.specs.Told.{state_told}
use Rattle.vcd_scan.proofs.Erasing.{heard-again, heard-more, limit-again}
use Rattle.vcd_scan.proofs.machine.Machine.remark.Goals as goal

pub returns-else-is_end-clause-state : goal.returns-else-is_end-clause-state
returns-else-is_end-clause-state c =
    let old = c.args.self.now in
    let s = state_told old in
    let heard = c.args.heard in
    let word = c.args.word.now in
    let section = section_from c.args.from heard in
    let more : c.with.result ≡ heard_in (words_heard heard ++ word ∷ []) =
    c.with.ensures ∙ sym (heard-more (words_heard heard) word ∙ ap (λ h. heard_with h word) (heard-again heard)) in
    (λ i. record s {
      spot = InRemark (section_from c.args.from (more i));
      remarks = remarks_from (sym (limit-again old.limit) i);
    })
    ∙ ap (λ b. erased (if b then moves_to (record s { remarks = s.remarks ++ section ∷ [] }) AtValues
    else moves_to s (InRemark (with_word section word))).state) (sym (sym c.is_end.ensures ∙ c.if-is_end.false))
