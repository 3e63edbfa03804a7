-- The text of the summary of a generated run.
use Rattle.std.specs.Prelude.{ℕ, ◌+◌, List, ◌++◌, length, codes}
use Rattle.std.specs.Fmt.{decimal}
use Rattle.fsb_access.specs.declared.log.Done.{Done}
use Rattle.fsb_trace.specs.At.{Trace}
use Rattle.fsb_report.specs.LogText.{end_line_text}
use Rattle.fsb_report.specs.RequestCounts.{request_counts}
use Rattle.fsb_report.specs.declared.counts.RequestCounts.{RequestCounts}

-- what the run was made from: `gen seed=<seed> agents=<agents> items=<items>`
unfoldable pub gen_line_text : ℕ → ℕ → ℕ → List ℕ
gen_line_text seed agents items =
    codes "gen seed=" ++ decimal seed ++ codes " agents=" ++ decimal agents
    ++ codes " items=" ++ decimal items ++ codes "\n"

-- the sum of the four counts; so it has no upgrades, and a generated run, whose profile is 1, makes none
unfoldable pub request_total : RequestCounts → ℕ
request_total counts = counts.reads + counts.invalidates + counts.writebacks + counts.replies

-- the four counts: ` reads=<reads> invalidates=<invalidates> writebacks=<writebacks> replies=<replies>`
unfoldable pub counts_text : RequestCounts → List ℕ
counts_text counts =
    codes " reads=" ++ decimal counts.reads ++ codes " invalidates=" ++ decimal counts.invalidates
    ++ codes " writebacks=" ++ decimal counts.writebacks ++ codes " replies=" ++ decimal counts.replies

-- the requests on the bus: `bus requests=<total>`, and the four counts
unfoldable pub bus_line_text : RequestCounts → List ℕ
bus_line_text counts = codes "bus requests=" ++ decimal (request_total counts) ++ counts_text counts ++ codes "\n"

-- the summary of a generated run, with the counts of its clocks and accesses, its trace and its log: the second line is
-- the last one of the log
unfoldable pub summary_text : ℕ → ℕ → ℕ → ℕ → ℕ → Trace → List Done → List ℕ
summary_text seed agents items clocks of w log =
    gen_line_text seed agents items ++ end_line_text clocks (length log) of ++ bus_line_text (request_counts w)
