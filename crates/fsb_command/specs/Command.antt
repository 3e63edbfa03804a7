-- A command, as the code has it, beside the form that it is.
use Rattle.std.specs.Prelude.{◌≡◌, Option, None, Some, option_map, MatchOption}
use Rattle.fsb_trigger.specs.Hunt.{steps_in}
use Rattle.fsb_command.specs.declared.command.Command.{Command}
use Rattle.fsb_command.specs.declared.command.Command.TheVariants.{Run, Look, Gen}
use Rattle.fsb_command.specs.declared.command.Task.{Task}
use Rattle.fsb_command.specs.declared.command.Task.TheVariants.{Check, Audit, Show, Find, Wave}
use Rattle.fsb_command.specs.Form.{Asked, to_check, to_audit, to_show, to_find, to_wave}
use Rattle.fsb_command.specs.Form.{Form, run, ask, gen}

-- what a task asks of a dump
abbrev pub task_meant : Task → Asked
task_meant Check = to_check
task_meant Audit = to_audit
task_meant Show = to_show
task_meant (Find trigger) = to_find (steps_in trigger)
task_meant (Wave range) = to_wave range.from range.to

-- the form that a command is
abbrev pub form_meant : Command → Form
form_meant (Run bench dump) = run bench.now (option_map (λ name. name.now) dump)
form_meant (Look dump task) = ask dump.now (task_meant task)
form_meant (Gen seed agents items) = gen seed agents items

-- the command is that form; there is none where there is no form
abbrev pub IsCommand : Option Form → Option Command → Type 0
IsCommand form command = MatchOption command (form ≡ None) (λ c. form ≡ Some (form_meant c))
