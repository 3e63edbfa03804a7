-- The lemmas of this crate that others draw on; no other name of its proofs is used outside.

-- A lawful script has few items, each of them lawful, and each script of a lawful plan is.
pub use Rattle.fsb_plan_size.proofs.PlanFacts.{all_at, few_items, lawful_items, lawful_script_of, script_at}
