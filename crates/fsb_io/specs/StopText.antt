-- Why a source was not read to its end, in words.
use Rattle.std.specs.Prelude.{ℕ, List, codes}
use Rattle.fsb_io.specs.declared.read.ReadStop.{ReadStop}
use Rattle.fsb_io.specs.declared.read.ReadStop.TheVariants.{ReadFault, TooLong, Memory}

-- the text of each cause
abbrev pub stop_text : ReadStop → List ℕ
stop_text ReadFault = codes "a source failed"
stop_text TooLong = codes "too many bytes came"
stop_text Memory = codes "out of memory"
