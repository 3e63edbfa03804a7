-- The lines of the bus that a reason speaks of.
use Rattle.std.specs.Prelude.{Bool, if◌then◌else◌, Option, Some, None}
use Rattle.fsb_encode.specs.declared.decoding.DecodeFault.{DecodeFault}
use Rattle.fsb_encode.specs.declared.decoding.DecodeFault.TheVariants.{BadCode, BadLen, BadField}
use Rattle.fsb_signal.specs.declared.lines.Lines.{Lines}
use Rattle.fsb_signal.specs.declared.lines.TheConstants.Lines.{LOCK, BNR, ADS, AERR, HIT, HITM, DEFER, TRDY, DBSY, DRDY, AP0, AP1, RP}
use Rattle.fsb_reasons.specs.declared.reason.Reason.{Reason}
use Rattle.fsb_reasons.specs.declared.reason.Reason.TheVariants.{UnknownLines, AtStart, TooSoon, UnknownBits, Unlawful, QueueFull, Blocked, NotArbitrated, Locked, NoneAsks, NoId, ReplyByOther, IdOfOther, Dropped, Held, LockAlone, ErrorAlone, SnoopsOver, SnoopEarly, SnoopBetween, WriteBackSnooped, ReplySnooped, NothingToAnswer, ResponseEarly, CodeForNone, CodeUnsettled, CodeWrong, ReadyForNone, ReadyUnsettled, ReadyUnwanted, ReadyEarly, ReadyTwice, ResponseUnready, DataForNone, BusyMissing, BusyForNone, UnknownData, ReplyUnawaited, IdTaken, TooMany, AddressParity, RequestParity}
use Rattle.fsb_reasons.specs.declared.reason.SnoopLines.{SnoopLines}
use Rattle.fsb_reasons.specs.declared.reason.Wait.{Wait}
use Rattle.fsb_reasons.specs.declared.reason.Wait.TheVariants.{NoSnoopEnd, SnoopEnd, NotClear}
use Rattle.fsb_trace.specs.declared.who.Who.{Who}
use Rattle.fsb_trace.specs.Winner.{request_line_of}
use Rattle.reason_lines.specs.declared.named.NamedLines.{NamedLines}
use Rattle.reason_lines.specs.Named.{no_lines, with_address, with_arbitration, with_asked, with_data, with_line, with_request, with_response, with_snoop}

-- with a control line, if so
unfoldable pub with_if : Bool → Lines → NamedLines → NamedLines
with_if is_so line n = if is_so then with_line line n else n

-- with those of HIT#, HITM# and DEFER# that are asserted
abbrev pub with_asserted : SnoopLines → NamedLines → NamedLines
with_asserted l n = with_if l.defer DEFER (with_if l.hitm HITM (with_if l.hit HIT n))

-- with the lines that show what a request waits for: its snoop end is HIT# and HITM#; the end of the one before is a response,
-- or the last of its data, at DRDY#
unfoldable pub with_wait : Wait → NamedLines → NamedLines
with_wait NoSnoopEnd n = with_snoop n
with_wait (SnoopEnd clock) n = with_snoop n
with_wait (NotClear clock) n = with_line DRDY (with_response n)

-- with the words in which a request is not lawful: its kind stands in REQ#
unfoldable pub with_fault : DecodeFault → NamedLines → NamedLines
with_fault (BadCode code) n = with_request n
with_fault (BadLen len) n = with_request n
with_fault BadField n = with_address (with_request n)

-- with the line by which the agent asks that had the bus, if one had it
unfoldable pub with_holder : Option Who → NamedLines → NamedLines
with_holder None n = n
with_holder (Some who) n = with_line (request_line_of who) n

-- ADS# alone, which shows where requests begin
abbrev pub ads_alone : NamedLines
ads_alone = with_line ADS no_lines

-- the lines that a reason speaks of
unfoldable pub lines_of : Reason → NamedLines
lines_of (UnknownLines lines) = with_line lines ads_alone
lines_of AtStart = ads_alone
lines_of (TooSoon before earliest) = ads_alone
lines_of (UnknownBits clock) = with_address (with_request ads_alone)
lines_of (Unlawful fault) = with_fault fault ads_alone
lines_of (QueueFull in_flight oldest) = ads_alone
lines_of (Blocked clock) = with_line BNR ads_alone
lines_of NotArbitrated = ads_alone
lines_of (Locked holder) = with_holder holder (with_line LOCK ads_alone)
lines_of (NoneAsks clock) = with_asked ads_alone
lines_of NoId = with_address (with_request ads_alone)
lines_of (ReplyByOther winner) = with_request (with_arbitration ads_alone)
lines_of (IdOfOther did winner) = with_address (with_arbitration ads_alone)
lines_of (Dropped who) = with_line (request_line_of who) ads_alone
lines_of (Held who) = with_line (request_line_of who) ads_alone
lines_of LockAlone = with_line LOCK ads_alone
lines_of (ErrorAlone last) = with_line AERR ads_alone
lines_of (SnoopsOver lines) = with_asserted lines ads_alone
lines_of (SnoopEarly lines request start) = with_asserted lines (with_snoop ads_alone)
lines_of (SnoopBetween lines request start) = with_asserted lines (with_snoop ads_alone)
lines_of (WriteBackSnooped lines request) = with_asserted lines ads_alone
lines_of (ReplySnooped lines request) = with_asserted lines ads_alone
lines_of (NothingToAnswer number) = with_response ads_alone
lines_of (ResponseEarly request wait earliest) = with_wait wait (with_response ads_alone)
lines_of (CodeForNone number code) = with_response ads_alone
lines_of (CodeUnsettled request found expected) = with_response (with_line DEFER (with_snoop ads_alone))
lines_of (CodeWrong request snoop_end found expected may_defer) =
    with_response (with_line DEFER (with_snoop ads_alone))
lines_of (ReadyForNone number) = with_line TRDY (with_response ads_alone)
lines_of (ReadyUnsettled request) = with_line TRDY (with_snoop ads_alone)
lines_of (ReadyUnwanted request snoop_end) = with_line TRDY (with_snoop ads_alone)
lines_of (ReadyEarly request wait earliest) = with_wait wait (with_line TRDY ads_alone)
lines_of (ReadyTwice request ready) = with_line TRDY ads_alone
lines_of (ResponseUnready request ready earliest) = with_line TRDY (with_response ads_alone)
lines_of (DataForNone last) = with_line DRDY (with_response ads_alone)
lines_of (BusyMissing request response chunks) = with_line DRDY (with_line DBSY (with_response ads_alone))
lines_of (BusyForNone last) = with_line DRDY (with_line DBSY (with_response ads_alone))
lines_of (UnknownData bits) = with_data (with_line DRDY ads_alone)
lines_of (ReplyUnawaited did) = with_address (with_request ads_alone)
lines_of (IdTaken did by) = with_address ads_alone
lines_of (TooMany who outstanding) = with_line (request_line_of who) ads_alone
lines_of (AddressParity low high) = with_if high AP1 (with_if low AP0 (with_address ads_alone))
lines_of RequestParity = with_line RP (with_request ads_alone)
