use Rattle.std.proofs.Common.{arith, ◌≡◌, ◌≤◌, length, ◌+◌, take, true, subst, sym, ap, ◌∙◌}
use Rattle.std.specs.List.{list_all}
use Rattle.fsb_script.specs.Bounds.{is_lawful_script}
use Rattle.fsb_plan_size.specs.AccessCount.{access_count}
use Rattle.fsb_plan_size.proofs.PlanFacts.{script_at, few_items, lawful_items, all_few, count_next}
use Rattle.fsb_plan_size.proofs.count.access_count.Goals as goal

lawful : (c : goal.After-as_slice) → is_lawful_script c.args.plan.now.cache c.as_slice.result.now ≡ true
lawful c = script_at _ c.as_slice-script-items.result.now _ c.script-item.result _ c.loop-script-test.true
    c.as_slice.ensures c.script-item.is
    (subst (λ scripts. list_all (is_lawful_script c.args.plan.now.cache) scripts ≡ true)
    (sym c.as_slice-script-items.ensures) c.args.plan.now.lawful_scripts)

pub script_accesses-count-requires-clause-few : goal.script_accesses-count-requires-clause-few
script_accesses-count-requires-clause-few c = few_items _ _ (lawful c)

pub script_accesses-count-requires-clause-small : goal.script_accesses-count-requires-clause-small
script_accesses-count-requires-clause-small c =
    all_few c.args.plan.now.cache c.as_slice.result.now (lawful_items _ _ (lawful c))

pub overflow_add-count : goal.overflow_add-count
overflow_add-count c =
    let few : length c.as_slice.result.now ≤ 4096 = few_items _ _ (lawful c.before) in
    let scripts : length c.as_slice-script-items.result.now ≤ 4 =
    subst (λ scripts. length scripts ≤ 4) (sym c.as_slice-script-items.ensures) c.args.plan.now.few_agents in
    omega (arith, c.loop-script.invariant.1, c.script_accesses-count.ensures.few)

pub loop-script-preserved : goal.loop-script-preserved
loop-script-preserved c =
    let few : length c.as_slice.result.now ≤ 4096 = few_items _ _ (lawful c.before) in (
      ap (λ n. n + c.script_accesses-count.result) c.loop-script.invariant.0
          ∙ ap (λ n. access_count (take c.loop-script.script-index c.as_slice-script-items.result.now) + n)
          c.script_accesses-count.ensures.value
          ∙ sym (count_next c.as_slice-script-items.result.now _ c.script-item.result c.as_slice.result.now
          c.loop-script-test.true c.as_slice.ensures c.script-item.is),
      omega (arith, c.loop-script.invariant.1, c.script_accesses-count.ensures.few),
    )
