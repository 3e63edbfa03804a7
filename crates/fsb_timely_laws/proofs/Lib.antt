pub mod Words
mod Tests
mod Agreed
mod Flights
mod Numbers
mod CutRuns
mod Pairs
mod SameUpTo
mod LogParts
mod StartParts
mod SnoopParts
mod TransferParts
mod DataParts
mod Whole
mod DisorderedRun
mod WholeOrder
