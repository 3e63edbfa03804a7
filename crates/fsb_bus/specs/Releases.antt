-- What may be a release, as the lock is told of it.
use Rattle.fsb_bench_view.specs.BusLocking.{MayRelease}
use Rattle.fsb_bus.specs.declared.locking.Released.{Released}

-- what may be a release
abbrev pub releases_of : Released → MayRelease
releases_of may = record { entries = may.entries.now; retried = may.retried; cancelled = may.cancelled }
