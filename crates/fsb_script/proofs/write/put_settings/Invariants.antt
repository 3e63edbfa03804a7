-- The text so far and that of what is left are the whole.
use Rattle.std.proofs.Common.{◌≡◌, ◌++◌, drop}
use Rattle.fsb_script.specs.Text.{settings_text}
use Rattle.fsb_script.proofs.write.put_settings.Given as goal

abbrev pub invariant-loop-setting : goal.invariant-loop-setting
invariant-loop-setting l = l.text.items ++ settings_text
    (drop l.setting-index l.settings) ≡ l.initial.text.items ++ settings_text l.settings
