use Rattle.std.proofs.Common.{◌≡◌, ◌||◌, true, take, sym, ap, ◌∙◌}
use Rattle.std.proofs.lemmas.List.{take_all}
use Rattle.std.specs.List.{list_any}
use Rattle.fsb_memory.specs.Controller.{is_in_line}
use Rattle.fsb_timely.specs.Kept.{is_named_in}
use Rattle.fsb_bench_view.specs.FirstBench.{is_named_line}
use Rattle.fsb_bus.specs.ListedLines.{is_listed}
use Rattle.fsb_bus.proofs.NamedLines.{or_true, scripts-more}
use Rattle.fsb_bus.proofs.made.memory_of.Goals as goal

pub loop-script-init : goal.loop-script-init
loop-script-init c line = ap (λ lines. is_listed lines line) c.new-lines.ensures.items

pub loop-script-preserved : goal.loop-script-preserved
loop-script-preserved c line =
    let l = c.loop-script in
    let scripts = c.as_slice-script-items.result.now in
    c.in_ok-name_items.ensures line
    ∙ ap (λ b. b || list_any (is_named_in line) c.as_slice.result.now) (l.invariant line)
    ∙ ap (λ items. is_named_line (take l.script-index scripts) line || list_any (is_named_in line) items)
    c.as_slice.ensures
    ∙ sym (scripts-more line scripts l.script-index c.script-item.result c.loop-script-test.true c.script-item.is)

pub returns-clause-named : goal.returns-clause-named
returns-clause-named c line named =
    let scripts = c.as_slice-script-items.result.now in
    let listed : is_listed c.deref.result.now line ≡ true =
    ap (λ lines. is_listed lines line) c.deref.ensures.value
    ∙ c.loop-script.invariant line
    ∙ ap (λ s. is_named_line s line) (take_all c.loop-script.script-index scripts c.loop-script-test.false
    ∙ c.as_slice-script-items.ensures)
    ∙ named in
    c.in_ok-memory.ensures.named line
    ∙ ap (λ b. list_any (is_in_line line) c.as_slice-2.result.now || b) listed
    ∙ or_true (list_any (is_in_line line) c.as_slice-2.result.now)
