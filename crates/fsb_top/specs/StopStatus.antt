-- The status of a call that was stopped, and of a run that was played.
use Rattle.fsb_play.specs.declared.playing.Played.{Played}
use Rattle.fsb_play.specs.declared.playing.Played.TheVariants as plays
use Rattle.fsb_show.specs.declared.stop.ShowStop.{ShowStop}
use Rattle.fsb_show.specs.declared.stop.ShowStop.TheVariants as shows
use Rattle.fsb_watch.specs.declared.stop.DumpStop.{DumpStop}
use Rattle.fsb_watch.specs.declared.stop.DumpStop.TheVariants as dumps
use Rattle.fsb_top.specs.declared.read.Refusal.{Refusal}
use Rattle.fsb_top.specs.declared.read.Refusal.TheVariants as refusals
use Rattle.fsb_top.specs.declared.status.Status.{Status}
use Rattle.fsb_top.specs.declared.status.Status.TheVariants.{Done, BadBench, BadDump, ReadFault}
use Rattle.fsb_top.specs.declared.status.Status.TheVariants.{WriteFault, DumpFault, OutOfMemory}
use Rattle.fsb_top.specs.declared.status.Status.TheVariants.{TooLong}

-- of a bench file that was not read, or is none
abbrev pub refusal_status : Refusal → Status
refusal_status (refusals.Bad fault) = BadBench fault
refusal_status refusals.ReadFault = ReadFault
refusal_status refusals.TooLong = TooLong
refusal_status refusals.Memory = OutOfMemory

-- of a dump that was not read in pieces to its end, or is none
abbrev pub dump_status : DumpStop → Status
dump_status (dumps.Bad fault) = BadDump fault
dump_status dumps.ReadFault = ReadFault
dump_status dumps.TooLong = TooLong
dump_status dumps.Memory = OutOfMemory

-- of a dump that is not shown
abbrev pub show_status : ShowStop → Status
show_status (shows.Bad fault) = BadDump fault
show_status shows.ReadFault = ReadFault
show_status shows.TooLong = TooLong
show_status shows.Memory = OutOfMemory

-- of a bench that was played
abbrev pub played_status : Played → Status
played_status plays.Done = Done
played_status plays.WriteFault = WriteFault
played_status plays.DumpFault = DumpFault
