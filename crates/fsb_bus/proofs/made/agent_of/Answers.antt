use Rattle.std.proofs.Common.{◌≡◌, true, sym, ap, ◌∙◌, subst}
use Rattle.fsb_access.specs.ScriptOrder.{script_of}
use Rattle.fsb_script.specs.Bounds.{is_lawful_script}
use Rattle.fsb_plan_size.proofs.Interface.{lawful_script_of}
use Rattle.fsb_bus.proofs.made.agent_of.Goals as goal

pub new-requires-clause-script : goal.new-requires-clause-script
new-requires-clause-script c =
    let plan = c.args.plan.now in
    subst (λ items. is_lawful_script plan.cache items ≡ true)
    (sym (c.in_ok-script.ensures ∙ ap (λ scripts. script_of scripts c.args.number) c.as_slice.ensures))
    (lawful_script_of plan.cache plan.scripts c.args.number plan.lawful_scripts)
